use native.Mathlib.Omega.{arith}
use borrow.Author.Tests.{le-ltb, lt-ltb, le-leb, lt-leb}
use Rattle.area.proofs.read_size.Goals as goal

pub returns-then-rest-lt2 : goal.returns-then-rest-lt2
returns-then-rest-lt2 c = simp (lt-ltb _ _ c.if-rest-lt2.true)

pub overflow_cast-n : goal.overflow_cast-n
overflow_cast-n c = omega (arith, c.shared_slice_known-1.given 1)

pub returns-then-n-lt2 : goal.returns-then-n-lt2
returns-then-n-lt2 c = simp (le-ltb _ _ c.if-rest-lt2.false, lt-ltb _ _ c.if-n-lt2.true)

pub returns-then-n-rest : goal.returns-then-n-rest
returns-then-n-rest c = simp (le-ltb _ _ c.if-rest-lt2.false, le-ltb _ _ c.if-n-lt2.false, le-leb _ _ c.if-n-rest.true)

pub returns-else-n-rest : goal.returns-else-n-rest
returns-else-n-rest c = simp (le-ltb _ _ c.if-rest-lt2.false, le-ltb _ _ c.if-n-lt2.false, lt-leb _ _ c.if-n-rest.false)
