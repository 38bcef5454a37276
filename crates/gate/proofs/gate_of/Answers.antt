-- `gate::gate_of` meets its contract.
use mathlib.Core.Path.{refl}
use Rattle.gate.proofs.gate_of.Goals as goal

pub returns : goal.returns
returns c = refl
