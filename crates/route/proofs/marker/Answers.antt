-- `route::marker` meets its contract.
use mathlib.Core.Path.{◌≡◌, refl}
use native.Mathlib.Omega.{arith}
use Prim.Native.Nat.{◌-◌}
use Rattle.route.proofs.Laws.{power_32}
use Rattle.route.proofs.marker.Goals as goal

pub returns-then-length-ge31 : goal.returns-then-length-ge31
returns-then-length-ge31 c = let z : 31 - c.args.length ≡ 0 = omega arith in rw z refl

pub returns : goal.returns
returns c = power_32 (31 - c.args.length) (omega arith)
