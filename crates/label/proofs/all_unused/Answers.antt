-- `label::all_unused` meets its contract.
use Rattle.std.proofs.Common.{◌∙◌}
use Rattle.label.proofs.Places.{unused_next}
use Rattle.label.proofs.all_unused.Goals as goal

pub loop-run-preserved : goal.loop-run-preserved
loop-run-preserved c = c.loop-run.invariant ∙ rw c.word-rest.ensures (unused_next _ _ _ c.loop-run-test.true)
