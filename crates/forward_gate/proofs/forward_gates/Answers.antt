-- `forward_gate::forward_gates` meets its contract.
use native.Mathlib.Omega.{arith}
use mathlib.Core.Path.{◌≡◌}
use Prim.Native.Nat.{ℕ, ◌<◌}
use lib.ListN.{length, get_or}
use Rattle.table.specs.Table.{lent}
use Rattle.gate.specs.Gate.{port_in}
use Rattle.forward_gate.proofs.Gated.{gated}
use Rattle.forward_gate.proofs.forward_gates.Goals as goal

-- the keys that the arrival left
own-stays : (c : goal.After-conclude) → length c.arrive_gate-arrived.new.keys ≡ length c.args.own.now
own-stays c = omega (arith, c.own-1.given)

pub shape_of-own : goal.shape_of-own
shape_of-own c = own-stays c

pub shape_of-far : goal.shape_of-far
shape_of-far c = omega (arith, c.far-1.given)

pub returns : goal.returns
returns c =
    let octet : (i : ℕ) → get_or c.args.area.now i 0 < 256 = λ i. omega (arith, c.shared_slice_known-10-1.given i) in
    λ o z g e.
    gated
    (port_in c.args.near c.args.lows.now c.args.highs.now c.args.given.now o c.args.receives.now z)
    (port_in c.args.beyond c.args.least.now c.args.most.now g c.args.only.now e c.args.sends.now)
    (lent c.args.table c.args.rows.now) c.args.levels c.args.facts c.args.area.now c.args.own.now _ c.args.far.now _ c.args.out.now _
    c.arrive_gate-arrived.result c.check_leaving-ready.result c.bar_gate-sent.result c.cross-crossed.result c.hold_gate-held.result c.fit-verdict.result c.kept_by-kept.result c.write_area-count.result _
    (record {
      octets = octet;
      own_stays = own-stays c;
      acts = c.arrive_gate-arrived.ensures o z;
      ready = c.check_leaving-ready.ensures;
      sent = c.bar_gate-sent.ensures;
      crosses = c.cross-crossed.ensures.value;
      crossed = c.cross-crossed.ensures.far_after;
      held = c.hold_gate-held.ensures g e c.args.sends.now;
      keeps = c.kept_by-kept.ensures;
      fits = c.fit-verdict.ensures;
      counts = c.write_area-count.ensures.value;
      writes = c.write_area-count.ensures.out_after;
      concludes = c.conclude.ensures;
    })
