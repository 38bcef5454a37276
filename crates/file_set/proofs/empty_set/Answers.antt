-- `file_set::empty_set` meets its contract.
use mathlib.Core.Path.{refl}
use Rattle.file_set.proofs.empty_set.Goals as goal

pub returns : goal.returns
returns c = rw (c.empty_port-port.ensures, c.empty_table-table.ensures) refl
