-- `forward_write::kept_by` meets its contract.
use Rattle.forward_write.specs.Sending.{kept_by}
use Rattle.forward_write.proofs.kept_by.Goals as goal

pub returns-in-Err : goal.returns-in-Err
unfolding kept_by
returns-in-Err c = rw c.in-Err.is

pub returns-in-Ok : goal.returns-in-Ok
unfolding kept_by
returns-in-Ok c = rw c.in-Ok.is c.count_kept.ensures.value
