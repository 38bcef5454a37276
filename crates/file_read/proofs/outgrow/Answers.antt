-- `file_read::outgrow` meets its contract.
use mathlib.Core.Path.{refl}
use Rattle.file_read.proofs.outgrow.Goals as goal

pub returns : goal.returns
returns c = rw c.empty_set.ensures refl
