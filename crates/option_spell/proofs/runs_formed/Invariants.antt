-- `option_spell::runs_formed` meets its contract. The first loop's invariant: the used runs are spaced exactly when all was good so far and what is left rises from the floor.
-- The keys of the runs so far stand at the front of the list. The second's: the form is settled, and all past the count is zero exactly when the OR so far is and what is left of the array is.
-- Assumes nothing.
use mathlib.Core.Path.{◌≡◌}
use mathlib.Core.Bool.{◌&&◌}
use mathlib.Core.List.{◌++◌, map}
use lib.Dec.{eqb, leb}
use lib.ListN.{take, drop, length}
use Rattle.label.specs.Runs.{spaced, unused}
use Rattle.label.specs.Label.{used}
use Rattle.label_keys.specs.Keys.{run_key}
use Rattle.label.proofs.Places.{rises}
use Rattle.option_spell.proofs.runs_formed.Given as goal

abbrev pub invariant-loop-i : goal.invariant-loop-i
invariant-loop-i l =
    (spaced 0 (used l.label) ≡ (l.good && rises l.floor (drop l.i (used l.label))))
    × (length l.keys ≡ length l.initial.keys)
    × (l.keys ≡ map run_key (take l.i (used l.label)) ++ drop l.i l.initial.keys)

abbrev pub invariant-loop-run : goal.invariant-loop-run
invariant-loop-run l =
    (spaced 0 (used l.fn.label) ≡ (l.good && leb l.floor 65536))
    × (unused (drop l.n l.fn.label.runs) ≡ (eqb l.rest 0 && unused (drop l.run-index l.run-items)))
