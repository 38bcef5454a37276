-- `forward_batch::count_slots` meets its contract.
use native.Mathlib.Omega.{arith}
use borrow.Author.Tests.{lt-ltb, le-ltb}
use Rattle.forward_batch.specs.Batch.{slot_count}
use Rattle.forward_batch.proofs.count_slots.Goals as goal

pub returns-then-input-output : goal.returns-then-input-output
unfolding slot_count
returns-then-input-output c = (rw (lt-ltb _ _ c.if-input-output.true), omega arith, omega arith)

pub returns : goal.returns
unfolding slot_count
returns c = (rw (le-ltb _ _ c.if-input-output.false), omega arith, omega arith)
