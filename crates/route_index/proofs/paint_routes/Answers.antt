-- `route_index::paint_routes` meets its contract.
use native.Mathlib.Omega.{arith}
use Prim.Native.Nat.{◌+◌, ◌*◌, ◌/◌}
use mathlib.Core.Path.{◌≡◌}
use lib.ListN.{length}
use Rattle.route_index.proofs.paint_routes.Goals as goal

pub loop-i-init : goal.loop-i-init
loop-i-init c = c.requires.2

pub paint_route-requires : goal.paint_route-requires
paint_route-requires c = (c.requires.0, omega arith, omega arith, c.requires.1, c.loop-i.invariant)

pub loop-i-preserved : goal.loop-i-preserved
loop-i-preserved c =
    let e : 4 * (c.loop-i.i + 1) ≡ 4 * c.loop-i.i + 4 = omega arith in
    rw e c.paint_route.ensures

pub returns : goal.returns
returns c =
    let e : 4 * c.loop-i.i ≡ length c.args.routes.now / 4 * 4 = omega arith in
    rw e at c.loop-i.invariant
