-- `forward_batch::put_head` meets its contract.
use borrow.Author.Rules.{rules}
use native.Mathlib.Omega.{arith}
use lib.ListN.{length-set}
use Rattle.forward_batch.proofs.put_head.Goals as goal

pub bounds-slot-4 : goal.bounds-slot-4
bounds-slot-4 c = simp length-set (omega arith)

pub returns : goal.returns
returns c = (search rules, simp length-set (omega arith))
