-- `forward_batch::forward_gated` meets its contract.
use mathlib.Core.Path.{refl, ◌∙◌}
use native.Mathlib.Omega.{arith}
use Prim.Native.Nat.{◌-◌, ◌+◌, ◌*◌}
use Rattle.forward_batch.proofs.Slots.{at_start, turn, part_length, whole_length, at_end}
use Rattle.forward_batch.proofs.forward_gated.Goals as goal

pub loop-i-init : goal.loop-i-init
loop-i-init c = (refl, omega arith, omega arith, λ o z g w from to. at_start _ _ _ c.args.n)

pub overflow_add-end : goal.overflow_add-end
overflow_add-end c = omega (arith, c.requires.0)

pub slice_bounds-forward_slot-count : goal.slice_bounds-forward_slot-count
slice_bounds-forward_slot-count c = omega arith

pub slice_bounds-forward_slot-start : goal.slice_bounds-forward_slot-start
slice_bounds-forward_slot-start c = omega arith

pub slice_bounds-forward_slot-end : goal.slice_bounds-forward_slot-end
slice_bounds-forward_slot-end c = omega arith

pub slice_bounds-forward_slot-count-in-loop-i : goal.slice_bounds-forward_slot-count-in-loop-i
slice_bounds-forward_slot-count-in-loop-i c = omega arith

pub forward_slot-requires : goal.forward_slot-requires
forward_slot-requires c = record { in_bounds = (omega (arith, c.loop-i.invariant.1), omega (arith, c.loop-i.invariant.2)); datagram_len = (part_length c.args.input.now (c.loop-i.i * 64) (c.loop-i.i * 64 + 64 - c.loop-i.i * 64) (omega arith) (omega arith), part_length c.loop-i.output (c.loop-i.i * 64) (c.loop-i.i * 64 + 64 - c.loop-i.i * 64) (omega arith) (omega arith)) }

pub loop-i-preserved : goal.loop-i-preserved
loop-i-preserved c = (
  whole_length c.loop-i.output c.forward_slot.new.slot (c.loop-i.i * 64) (c.loop-i.i * 64 + 64 - c.loop-i.i * 64) (omega arith) (omega arith) c.forward_slot.ensures.1 ∙ c.loop-i.invariant.0,
  omega (arith, c.own-in-loop-i-1.given, c.loop-i.invariant.1),
  omega (arith, c.far-in-loop-i-1.given, c.loop-i.invariant.2),
  λ o z g w from to. turn _ _ c.args.input.now c.loop-i.output c.forward_slot.new.slot c.args.n c.loop-i.i (c.loop-i.i * 64 + 64 - c.loop-i.i * 64) (omega arith) (omega arith) (omega arith) c.forward_slot.ensures.1
      (c.loop-i.invariant.3 o z g w from to) (c.forward_slot.ensures.0 o z g w from to),
)

pub shape_of-output : goal.shape_of-output
shape_of-output c = omega arith

pub returns : goal.returns
returns c =
    λ o z g w from to. at_end _ _ c.args.input.now c.loop-i.output (c.loop-i.i * 64) (c.args.n - c.loop-i.i) (omega arith) (c.loop-i.invariant.3 o z g w from to)
