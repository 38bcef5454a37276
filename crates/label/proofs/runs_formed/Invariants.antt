-- `label::runs_formed` meets its contract. The loop's invariant: the used runs are spaced exactly when all was good so far and what is left rises
-- from the floor.
use Rattle.std.proofs.Common.{◌≡◌, ◌&&◌, drop}
use Rattle.label.specs.Runs.{spaced}
use Rattle.label.specs.Label.{used}
use Rattle.label.proofs.Places.{rises}
use Rattle.label.proofs.runs_formed.Given as goal

abbrev pub invariant-loop-run : goal.invariant-loop-run
invariant-loop-run l = spaced 0 (used l.fn.label) ≡ (l.good && rises l.floor (drop l.run-index (used l.fn.label)))
