-- `renumber_keys::keys_formed` meets its contract. The loop's invariant: the runs are spaced exactly when all was good so far and what is left rises from the floor.
use mathlib.Core.Path.{◌≡◌}
use mathlib.Core.Bool.{◌&&◌}
use lib.ListN.{drop}
use Rattle.label.specs.Runs.{spaced}
use Rattle.label_keys.specs.Keys.{key_runs}
use Rattle.label.proofs.Places.{rises}
use Rattle.renumber_keys.proofs.keys_formed.Given as goal

abbrev pub invariant-loop-key : goal.invariant-loop-key
invariant-loop-key l = spaced 0 (key_runs l.own) ≡ (l.good && rises l.floor (drop l.key-index (key_runs l.own)))
