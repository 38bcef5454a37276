-- `file_port::unless_zero` meets its contract.
use native.Mathlib.Omega.{arith}
use borrow.Author.Tests.{eq-eqb, ne_eqb}
use Rattle.file_port.proofs.unless_zero.Goals as goal

pub returns-then-domain-eq0 : goal.returns-then-domain-eq0
returns-then-domain-eq0 c = (simp (eq-eqb _ _ c.if-domain-eq0.true), omega arith)

pub returns : goal.returns
returns c = (simp (ne_eqb _ _ c.if-domain-eq0.false), omega arith)
