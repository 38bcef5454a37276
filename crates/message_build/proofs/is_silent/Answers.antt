-- `message_build::is_silent` meets its contract.
use mathlib.Core.Path.{refl}
use Rattle.message_build.proofs.is_silent.Goals as goal

pub returns : goal.returns
returns c = refl
