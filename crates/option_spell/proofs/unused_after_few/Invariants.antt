-- `option_spell::unused_after_few` meets its contract. The loop's invariant: all past the first 16 places is zero exactly when the OR so far is and what is left of them is.
-- Assumes nothing.
use mathlib.Core.Path.{◌≡◌}
use mathlib.Core.Bool.{◌&&◌}
use lib.Dec.{eqb}
use lib.ListN.{drop}
use Rattle.label.specs.Runs.{unused}
use Rattle.option_spell.proofs.unused_after_few.Given as goal

abbrev pub invariant-loop-run : goal.invariant-loop-run
invariant-loop-run l = unused (drop 16 l.fn.label.runs) ≡ (eqb l.rest 0 && unused (drop l.run-index l.run-items))
