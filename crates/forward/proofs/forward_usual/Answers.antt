-- `forward::forward_usual` meets its contract.
use native.Mathlib.Omega.{arith}
use mathlib.Core.Path.{refl, sym, ◌∙◌, ap}
use lib.ListN.{length}
use Rattle.table.specs.Table.{lent}
use Rattle.forward_rules.specs.Forward.{forwarding_of}
use Rattle.forward_leave.specs.Departure.{recorded_by}
use Rattle.port_usual.proofs.Usual.{usual, usual_sound}
use Rattle.forward_any.proofs.Stages.{forwarded}
use Rattle.forward.proofs.Usual.{sent_off, written_labelled}
use Rattle.forward.proofs.forward_usual.Goals as goal

pub hold_usual-held-requires : goal.hold_usual-held-requires
hold_usual-held-requires c =
    let u = usual c.args.leaving c.requires.1 in
    (u.low, u.high)

pub returns : goal.returns
returns c =
    let from = usual c.args.arriving c.requires.0 in
    let to = usual c.args.leaving c.requires.1 in
    let q =
    forwarded (forwarding_of c.args.arriving c.args.leaving (lent c.args.table c.args.rows.now) c.args.levels c.args.facts c.args.area.now (length c.args.out.now))
    _ _ _ _ c.args.out.now _ c.arrive_usual-arrived.result c.check_leaving-ready.result c.check_leaving-ready.result c.cross-crossed.result c.hold_usual-held.result c.fit-verdict.result c.kept_by-kept.result c.write_area-count.result
    (record {
      room = refl;
      own_room = omega arith;
      own_kept = omega arith;
      far_room = omega arith;
      far_rows = λ y. omega (arith, c.requires.2);
      arrives = c.arrive_usual-arrived.ensures;
      ready = c.check_leaving-ready.ensures ∙ ap (recorded_by c.arrive_usual-arrived.result (length c.args.out.now)) (sym (usual_sound c.args.leaving c.requires.1));
      sent = sent_off c.check_leaving-ready.result c.args.arriving.basic.on c.args.leaving.basic.on c.args.leaving.basic.sending _ from.off to.off;
      crosses = c.cross-crossed.ensures.value;
      crossed = c.cross-crossed.ensures.far_after;
      held = rw to.labelled c.hold_usual-held.ensures;
      keeps = c.kept_by-kept.ensures;
      fits = rw to.labelled c.fit-verdict.ensures;
      counts = rw to.labelled c.write_area-count.ensures.value;
      writes = written_labelled _ _ _ _ _ _ _ _ _ to.labelled c.write_area-count.ensures.out_after;
    }) in record { value = c.conclude.ensures ∙ q.0; out_after = q.1 }
