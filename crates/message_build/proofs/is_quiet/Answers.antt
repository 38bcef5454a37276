-- `message_build::is_quiet` meets its contract.
use mathlib.Core.Bool.{◌||◌}
use Rattle.message_build.proofs.is_quiet.Goals as goal

pub returns : goal.returns
returns c = λ i. c.is_silent.ensures i || c.is_unanswered.ensures i
