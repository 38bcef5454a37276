-- `file_port::empty_port` meets its contract.
use mathlib.Core.Path.{refl}
use Rattle.file_port.proofs.empty_port.Goals as goal

pub returns : goal.returns
returns c = rw (c.empty-none.ensures, c.off.ensures) refl
