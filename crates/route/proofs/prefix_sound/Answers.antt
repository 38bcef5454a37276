-- `route::prefix_sound` meets its contract.
use borrow.Author.Tests.{lt-leb, le-leb}
use native.Mathlib.Omega.{arith}
use Prim.Native.Nat.{◌-◌}
use Rattle.route.proofs.Laws.{power, power_pos}
use Rattle.route.proofs.prefix_sound.Goals as goal

pub returns-then-length-gt32 : goal.returns-then-length-gt32
returns-then-length-gt32 c = simp (lt-leb _ _ c.if-length-gt32.true)

pub nonzero_rem-result : goal.nonzero_rem-result
nonzero_rem-result c = rw (power (32 - c.args.r.length) (omega arith)) (power_pos (32 - c.args.r.length))

pub returns : goal.returns
returns c = simp (le-leb _ _ c.if-length-gt32.false, power (32 - c.args.r.length) (omega arith))
