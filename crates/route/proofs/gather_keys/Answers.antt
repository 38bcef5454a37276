-- `route::gather_keys` meets its contract.
use mathlib.Core.Path.{◌≡◌, ◌∙◌}
use native.Mathlib.Omega.{arith}
use Prim.Native.Nat.{◌+◌, ◌*◌}
use lib.ListN.{length-set}
use Rattle.route.proofs.Laws.{route_of_chunk}
use Rattle.route.proofs.Keys.{gathers, passes_by, sound_at, gathered}
use Rattle.route.proofs.gather_keys.Goals as goal
use Rattle.route.proofs.gather_keys.Goals.{then-is_among, else-is_among}

pub prefix_key-requires : goal.prefix_key-requires
prefix_key-requires c =
    rw (route_of_chunk c.args.routes.now c.as_chunks.result.0.now c.loop-numbers.numbers-index _ c.read_route-r.result c.as_chunks.ensures.front c.as_chunks.ensures.front_len c.loop-numbers-test.true c.read_route-r.ensures)
    (sound_at c.args.routes.now (4 * c.loop-numbers.numbers-index) (omega (arith, c.as_chunks.ensures.front_len)) c.loop-numbers.invariant.sound).0

pub loop-numbers-preserved : goal.loop-numbers-preserved
loop-numbers-preserved c =
    let v = c.loop-numbers in
    let ns = c.args.routes.now in
    let cs = c.as_chunks.ensures in
    let er = route_of_chunk ns c.as_chunks.result.0.now v.numbers-index _ c.read_route-r.result cs.front cs.front_len c.loop-numbers-test.true c.read_route-r.ensures in
    let e : 4 * (v.numbers-index + 1) ≡ 4 * v.numbers-index + 4 = omega arith in
    let behind = (sound_at ns (4 * v.numbers-index) (omega (arith, c.as_chunks.ensures.front_len)) v.invariant.sound).1 in
    elim c.if-is_among.branch [
      | then-is_among w ↦ rw (e, w.n-is, w.keys-is) (record {
        room = omega arith;
        long = length-set v.keys v.n _ ∙ v.invariant.long;
        sound = behind;
        gathered = gathers c.args.hosts ns v.keys (4 * v.numbers-index) v.n _ v.invariant.gathered (omega (arith, c.as_chunks.ensures.front_len))
            c.read_route-r.result er c.is_among.result c.is_among.ensures w.if-is_among.true (omega (arith, c.requires.0, c.as_chunks.ensures.front_len)) w.prefix_key.result w.prefix_key.ensures;
      })
      | else-is_among w ↦ rw (e, w.n-is, w.keys-is) (record {
        room = omega arith;
        long = v.invariant.long;
        sound = behind;
        gathered = passes_by c.args.hosts ns v.keys (4 * v.numbers-index) v.n _ v.invariant.gathered (omega (arith, c.as_chunks.ensures.front_len))
            c.read_route-r.result er c.is_among.result c.is_among.ensures w.if-is_among.false;
      })
    ]

pub returns : goal.returns
returns c = record { gathered = gathered c.args.hosts c.args.routes.now c.loop-numbers.keys (4 * c.loop-numbers.numbers-index) c.loop-numbers.n _ c.loop-numbers.invariant.gathered (omega (arith, c.as_chunks.ensures.front_len)) (omega (arith, c.as_chunks.ensures.front_len)); upper_bound = omega arith }
