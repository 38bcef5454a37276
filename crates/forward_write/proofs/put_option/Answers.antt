-- `forward_write::put_option` meets its contract: each return by the test taken.
-- Assumes nothing.
use mathlib.Core.Path.{◌∙◌}
use Rattle.forward_write.proofs.put_option.Goals as goal

pub returns-then-unlabelled : goal.returns-then-unlabelled
returns-then-unlabelled c = record { value = rw c.if-unlabelled.true; out_after = rw c.if-unlabelled.true }

pub returns : goal.returns
returns c = record { value = c.write_keys.ensures.0 ∙ rw c.if-unlabelled.false; out_after = c.write_keys.ensures.1 ∙ rw c.if-unlabelled.false }
