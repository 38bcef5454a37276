-- `decision::is_silenced` meets its contract.
use mathlib.Core.Path.{refl}
use Rattle.decision.specs.Decision.{silenced}
use Rattle.decision.proofs.is_silenced.Goals as goal

pub returns : goal.returns
unfolding silenced
returns c = refl
