-- `file_port::level_fits` meets its contract.
use mathlib.Core.Path.{refl}
use Rattle.file_port.proofs.level_fits.Goals as goal

pub returns-then-on : goal.returns-then-on
returns-then-on c = simp c.if-on.true c.at_most.ensures

pub returns : goal.returns
returns c = simp c.if-on.false refl
