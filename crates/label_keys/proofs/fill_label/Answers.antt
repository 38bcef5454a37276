-- `label_keys::fill_label` meets its contract.
use Rattle.label_keys.proofs.Keys.{filled_more}
use Rattle.label_keys.proofs.fill_label.Goals as goal

pub loop-i-preserved : goal.loop-i-preserved
loop-i-preserved c = filled_more _ _ _ _ _ _ _ c.requires c.loop-i-test.true c.loop-i.invariant c.from.ensures
