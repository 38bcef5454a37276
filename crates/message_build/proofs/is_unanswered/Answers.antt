-- `message_build::is_unanswered` meets its contract.
use mathlib.Core.Path.{refl}
use Rattle.message_build.proofs.is_unanswered.Goals as goal

pub returns : goal.returns
returns c = refl
