-- `text::hex_digit` meets its contract.
use borrow.Author.Tests.{lt-ltb, le-ltb}
use native.Mathlib.Omega.{arith}
use Rattle.text.proofs.hex_digit.Goals as goal

pub returns-then-x-lt10 : goal.returns-then-x-lt10
returns-then-x-lt10 c = simp (lt-ltb _ _ c.if-x-lt10.true) (omega arith)

pub returns : goal.returns
returns c = simp (le-ltb _ _ c.if-x-lt10.false) (omega arith)
