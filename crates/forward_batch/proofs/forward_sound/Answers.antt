-- `forward_batch::forward_sound` meets its contract.
use native.Mathlib.Omega.{arith}
use Rattle.table.specs.Table.{lent}
use Rattle.gate.proofs.Back.{Places}
use Rattle.forward_batch.proofs.Lists.{Counts, counts, keys_part, fields_part, sound_batch}
use Rattle.forward_batch.proofs.forward_sound.Goals as goal

counts-from : (c : goal.After-gate_of-beyond) → Counts c.args.from
counts-from c = counts c.args.from c.requires.from_value.0

pub slice_bounds-forward_gated-end : goal.slice_bounds-forward_gated-end
slice_bounds-forward_gated-end c =
    omega (arith, (counts-from c).lowest, c.lows-2-1.given)

counts-from-After-forward_gated-arg-1 : (c : goal.After-forward_gated-arg-1) → Counts c.args.from
counts-from-After-forward_gated-arg-1 c = counts c.args.from c.requires.from_value.0

pub slice_bounds-forward_gated-end-2 : goal.slice_bounds-forward_gated-end-2
slice_bounds-forward_gated-end-2 c =
    omega (arith, (counts-from-After-forward_gated-arg-1 c).highest, c.highs-2-1.given)

counts-from-After-forward_gated-arg-2-1 : (c : goal.After-forward_gated-arg-2-1) → Counts c.args.from
counts-from-After-forward_gated-arg-2-1 c = counts c.args.from c.requires.from_value.0

pub slice_bounds-forward_gated-end-3 : goal.slice_bounds-forward_gated-end-3
slice_bounds-forward_gated-end-3 c =
    omega (arith, (counts-from-After-forward_gated-arg-2-1 c).assigned, c.given-2-1.given)

counts-from-After-forward_gated-arg-3-1 : (c : goal.After-forward_gated-arg-3-1) → Counts c.args.from
counts-from-After-forward_gated-arg-3-1 c = counts c.args.from c.requires.from_value.0

places-from : (c : goal.After-forward_gated-arg-3-1) → Places c.args.from
places-from c =
    let e = c.port_places.ensures in
    record { assigned = e.0; default = e.1; receiving = e.2; sending = e.3 }

pub slice_bounds-forward_gated-end-4 : goal.slice_bounds-forward_gated-end-4
slice_bounds-forward_gated-end-4 c =
    omega (arith, (counts-from-After-forward_gated-arg-3-1 c).receiving, (places-from c).receiving)

counts-to : (c : goal.After-forward_gated-arg-4-1) → Counts c.args.to
counts-to c = counts c.args.to c.requires.from_value.1

pub slice_bounds-forward_gated-end-5 : goal.slice_bounds-forward_gated-end-5
slice_bounds-forward_gated-end-5 c =
    omega (arith, (counts-to c).lowest, c.least-2-1.given)

counts-to-After-forward_gated-arg-5-1 : (c : goal.After-forward_gated-arg-5-1) → Counts c.args.to
counts-to-After-forward_gated-arg-5-1 c = counts c.args.to c.requires.from_value.1

pub slice_bounds-forward_gated-end-6 : goal.slice_bounds-forward_gated-end-6
slice_bounds-forward_gated-end-6 c =
    omega (arith, (counts-to-After-forward_gated-arg-5-1 c).highest, c.most-2-1.given)

counts-to-After-forward_gated-arg-6-1 : (c : goal.After-forward_gated-arg-6-1) → Counts c.args.to
counts-to-After-forward_gated-arg-6-1 c = counts c.args.to c.requires.from_value.1

pub slice_bounds-forward_gated-end-7 : goal.slice_bounds-forward_gated-end-7
slice_bounds-forward_gated-end-7 c =
    omega (arith, (counts-to-After-forward_gated-arg-6-1 c).default, c.only-2-1.given)

counts-to-After-forward_gated-arg-7-1 : (c : goal.After-forward_gated-arg-7-1) → Counts c.args.to
counts-to-After-forward_gated-arg-7-1 c = counts c.args.to c.requires.from_value.1

places-to : (c : goal.After-forward_gated-arg-7-1) → Places c.args.to
places-to c =
    let e = c.port_places-2.ensures in
    record { assigned = e.0; default = e.1; receiving = e.2; sending = e.3 }

pub slice_bounds-forward_gated-end-8 : goal.slice_bounds-forward_gated-end-8
slice_bounds-forward_gated-end-8 c =
    omega (arith, (counts-to-After-forward_gated-arg-7-1 c).sending, (places-to c).sending)

pub forward_gated-requires : goal.forward_gated-requires
forward_gated-requires c =
    c.requires.n_in_bounds

counts-from-After-slice_known-2-1 : (c : goal.After-slice_known-2-1) → Counts c.args.from
counts-from-After-slice_known-2-1 c = counts c.args.from c.requires.from_value.0

counts-to-After-slice_known-2-1 : (c : goal.After-slice_known-2-1) → Counts c.args.to
counts-to-After-slice_known-2-1 c = counts c.args.to c.requires.from_value.1

places-from-After-slice_known-2-1 : (c : goal.After-slice_known-2-1) → Places c.args.from
places-from-After-slice_known-2-1 c =
    let e = c.port_places.ensures in
    record { assigned = e.0; default = e.1; receiving = e.2; sending = e.3 }

places-to-After-slice_known-2-1 : (c : goal.After-slice_known-2-1) → Places c.args.to
places-to-After-slice_known-2-1 c =
    let e = c.port_places-2.ensures in
    record { assigned = e.0; default = e.1; receiving = e.2; sending = e.3 }

pub returns : goal.returns
returns c =
    let m = counts-from-After-slice_known-2-1 c in
    let n = counts-to-After-slice_known-2-1 c in
    sound_batch c.args.from c.args.to (lent c.args.table c.args.rows.now) c.args.levels c.args.n c.args.input.now c.args.output.now _
    _ _ _ _ _ _ _ _ _ _
    c.requires.from_value.0 c.requires.from_value.1 (places-from-After-slice_known-2-1 c) (places-to-After-slice_known-2-1 c)
    c.gate_of-near.ensures
    (keys_part c.args.from.lowest _ _ c.label_keys.ensures.1 m.lowest m.low_runs (omega arith))
    (keys_part c.args.from.highest _ _ c.label_keys-2.ensures.1 m.highest m.high_runs (omega arith))
    (keys_part c.args.from.assigned _ _ c.label_keys-3.ensures.1 m.assigned (places-from-After-slice_known-2-1 c).assigned (omega arith))
    (fields_part c.args.from.basic.receiving)
    c.gate_of-beyond.ensures
    (keys_part c.args.to.lowest _ _ c.label_keys-4.ensures.1 n.lowest n.low_runs (omega arith))
    (keys_part c.args.to.highest _ _ c.label_keys-5.ensures.1 n.highest n.high_runs (omega arith))
    (keys_part c.args.to.default _ _ c.label_keys-6.ensures.1 n.default (places-to-After-slice_known-2-1 c).default (omega arith))
    (fields_part c.args.to.basic.sending)
    c.forward_gated.ensures
