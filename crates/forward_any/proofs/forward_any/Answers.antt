-- `forward_any::forward_any` meets its contract.
use native.Mathlib.Omega.{arith}
use mathlib.Core.Path.{refl, ◌∙◌, ap}
use lib.ListN.{length}
use Rattle.table.specs.Table.{lent}
use Rattle.table.proofs.Sound.{sound}
use Rattle.forward_rules.specs.Forward.{forwarding_of}
use Rattle.forward_leave.specs.Departure.{recorded_by}
use Rattle.forward_any.proofs.Stages.{forwarded}
use Rattle.forward_any.proofs.forward_any.Goals as goal

pub returns : goal.returns
returns c =
    let q =
    forwarded (forwarding_of c.args.arriving c.args.leaving (lent c.args.table c.args.rows.now) c.args.levels c.args.facts c.args.area.now (length c.args.out.now))
    _ _ _ _ c.args.out.now _ c.arrive-arrived.result c.check_leaving-ready.result c.hold_sending-sent.result c.cross-crossed.result c.hold_leaving-held.result c.fit-verdict.result c.kept_by-kept.result c.write_area-count.result
    (record {
      room = refl;
      own_room = omega arith;
      own_kept = omega arith;
      far_room = omega arith;
      far_rows = λ y. omega (arith, (sound (lent c.args.table c.args.rows.now) c.args.levels y).rows_held);
      arrives = c.arrive-arrived.ensures;
      ready = c.check_leaving-ready.ensures ∙ ap (recorded_by c.arrive-arrived.result (length c.args.out.now)) c.port_sound-sound.ensures;
      sent = c.hold_sending-sent.ensures;
      crosses = c.cross-crossed.ensures.value;
      crossed = c.cross-crossed.ensures.far_after;
      held = c.hold_leaving-held.ensures;
      keeps = c.kept_by-kept.ensures;
      fits = c.fit-verdict.ensures;
      counts = c.write_area-count.ensures.value;
      writes = c.write_area-count.ensures.out_after;
    }) in record { value = c.conclude.ensures ∙ q.0; out_after = q.1 }
