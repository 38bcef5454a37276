-- `label::all_unused` meets its contract. The loop's invariant: all places are zero exactly when the OR so far is and what is left of them is.
use Rattle.std.proofs.Common.{◌≡◌, ◌&&◌, eqb, drop}
use Rattle.label.specs.Runs.{unused}
use Rattle.label.proofs.all_unused.Given as goal

abbrev pub invariant-loop-run : goal.invariant-loop-run
invariant-loop-run l = unused l.places ≡ (eqb l.rest 0 && unused (drop l.run-index l.places))
