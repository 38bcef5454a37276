-- `route_index::block` meets its contract.
use native.Mathlib.Omega.{arith}
use native.Mathlib.Nat.{pow-le-pow_right}
use lib.Dec.{lit<}
use mathlib.Core.Path.{◌≡◌, refl}
use Prim.Native.Nat.{◌-◌, ◌≤◌}
use Rattle.route.proofs.Laws.{power, power_pos}
use Rattle.route_index.proofs.block.Goals as goal

pub returns-then-length-ge32 : goal.returns-then-length-ge32
returns-then-length-ge32 c = let z : 32 - c.args.length ≡ 0 = omega (arith, c.if-length-ge32.true) in rw z (refl, omega arith, omega arith)

pub returns : goal.returns
returns c =
    let k = 32 - c.args.length in
    let h : k ≤ 32 = omega arith in
    rw (power k h) (refl, power_pos k, pow-le-pow_right (lit< tt) h)
