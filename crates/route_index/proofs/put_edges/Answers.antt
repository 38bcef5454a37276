-- `route_index::put_edges` meets its contract.
use native.Mathlib.Omega.{arith}
use mathlib.Core.Path.{◌≡◌}
use Prim.Native.Nat.{◌+◌, ◌*◌, ◌/◌, ◌≤◌}
use lib.ListN.{length, set, length-set}
use Rattle.route_index.proofs.Put.{edging_start, edging_again, edging_all}
use Rattle.route_index.proofs.put_edges.Goals as goal

pub loop-i-init : goal.loop-i-init
loop-i-init c = edging_start c.args.routes.now c.args.index.now (omega (arith, c.requires))

pub loop-i-preserved : goal.loop-i-preserved
loop-i-preserved c =
    let i = c.loop-i.i in
    let room : length c.args.routes.now / 4 * 2 + 1 ≤ length (set c.args.index.now 0 0) = omega (arith, c.requires, length-set c.args.index.now 0 0) in
    let a : 2 * i + 2 ≡ 2 * i + 1 + 1 = omega arith in
    let b : 2 * (i + 1) + 1 ≡ 2 * i + 1 + 2 = omega arith in
    let d : 4 * (i + 1) ≡ 4 * i + 4 = omega arith in
    rw (b, d, a)
    (edging_again c.args.routes.now _ room c.loop-i.index (2 * i + 1) (4 * i) c.loop-i.invariant (omega arith) c.first_address.result c.behind_address.result c.first_address.ensures c.behind_address.ensures)

pub returns : goal.returns
returns c =
    edging_all c.args.routes.now c.args.index.now c.loop-i.index (2 * c.loop-i.i + 1) (4 * c.loop-i.i) c.requires c.loop-i.invariant (omega arith)
