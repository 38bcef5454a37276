-- `port::default_sound` meets its contract: each return by the test taken.
-- Assumes nothing.
use mathlib.Core.Path.{◌∙◌}
use Rattle.port.proofs.default_sound.Goals as goal

pub returns-then-port : goal.returns-then-port
returns-then-port c = c.lies_within.ensures ∙ rw c.if-port.true

pub returns : goal.returns
returns c = c.is_zero-zero.ensures ∙ rw c.if-port.false
