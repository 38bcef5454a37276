-- `route::choose_route` meets its contract.
use mathlib.Core.Path.{◌≡◌, refl}
use native.Mathlib.Omega.{arith}
use Prim.Native.Nat.{◌+◌, ◌*◌}
use Rattle.route.specs.Route.{longest}
use Rattle.route.proofs.Laws.{route_of_chunk, chosen_turn, chosen_end}
use Rattle.route.proofs.choose_route.Goals as goal

pub loop-numbers-init : goal.loop-numbers-init
unfolding longest
loop-numbers-init c = refl

pub loop-numbers-preserved : goal.loop-numbers-preserved
loop-numbers-preserved c =
    let v = c.loop-numbers in
    let ns = c.args.routes.now in
    let cs = c.as_chunks.ensures in
    let e : 4 * (v.numbers-index + 1) ≡ 4 * v.numbers-index + 4 = omega arith in
    rw e
    (chosen_turn ns (4 * v.numbers-index) c.args.address v.best _ v.invariant (omega (arith, cs.front_len))
    c.read_route.result (route_of_chunk ns c.as_chunks.result.0.now v.numbers-index _ c.read_route.result cs.front cs.front_len c.loop-numbers-test.true c.read_route.ensures)
    c.prefer-best.result c.prefer-best.ensures)

pub returns : goal.returns
returns c =
    chosen_end c.args.routes.now (4 * c.loop-numbers.numbers-index) c.args.address c.loop-numbers.best _ c.loop-numbers.invariant (omega (arith, c.as_chunks.ensures.front_len))
