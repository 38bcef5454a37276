-- `option_spell::few_formed` meets its contract. The loops' invariants are those of `runs_formed`, over keys.
-- Assumes nothing.
use mathlib.Core.Path.{◌≡◌}
use mathlib.Core.Bool.{◌&&◌}
use lib.Dec.{eqb, leb}
use lib.ListN.{drop, take}
use Rattle.label.specs.Runs.{spaced, unused}
use Rattle.label_keys.specs.Keys.{key_runs}
use Rattle.label.proofs.Places.{rises}
use Rattle.option_spell.proofs.few_formed.Given as goal

abbrev pub invariant-loop-key : goal.invariant-loop-key
invariant-loop-key l = spaced 0 (key_runs (take l.n l.keys)) ≡ (l.good && rises l.floor (key_runs (drop l.key-index l.key-items)))

abbrev pub invariant-loop-key-2 : goal.invariant-loop-key-2
invariant-loop-key-2 l =
    (spaced 0 (key_runs (take l.n l.keys)) ≡ (l.good && leb l.floor 65536))
    × (unused (key_runs (drop l.n l.keys)) ≡ (eqb l.rest 0 && unused (key_runs (drop l.key-index l.key-items))))
