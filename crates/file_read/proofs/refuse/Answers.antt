-- `file_read::refuse` meets its contract.
use mathlib.Core.Path.{refl}
use Rattle.file_read.proofs.refuse.Goals as goal

pub returns : goal.returns
returns c = rw c.empty_set.ensures refl
