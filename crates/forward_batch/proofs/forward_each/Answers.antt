-- `forward_batch::forward_each` meets its contract.
use mathlib.Core.Path.{refl, ◌∙◌}
use native.Mathlib.Omega.{arith}
use Prim.Native.Nat.{◌-◌, ◌+◌, ◌*◌}
use Rattle.forward_batch.proofs.Slots.{at_start, turn, part_length, whole_length, at_end}
use Rattle.forward_batch.proofs.forward_each.Goals as goal

pub loop-i-init : goal.loop-i-init
loop-i-init c = (refl, at_start _ _ _ c.args.n)

pub overflow_add-end : goal.overflow_add-end
overflow_add-end c = omega arith

pub slice_bounds-forward_one-count : goal.slice_bounds-forward_one-count
slice_bounds-forward_one-count c = omega arith

pub slice_bounds-forward_one-start : goal.slice_bounds-forward_one-start
slice_bounds-forward_one-start c = omega arith

pub slice_bounds-forward_one-end : goal.slice_bounds-forward_one-end
slice_bounds-forward_one-end c = omega arith

pub slice_bounds-forward_one-count-in-loop-i : goal.slice_bounds-forward_one-count-in-loop-i
slice_bounds-forward_one-count-in-loop-i c = omega arith

pub forward_one-requires : goal.forward_one-requires
forward_one-requires c =
    (part_length c.args.input.now (c.loop-i.i * 64) (c.loop-i.i * 64 + 64 - c.loop-i.i * 64) (omega arith) (omega arith), part_length c.loop-i.output (c.loop-i.i * 64) (c.loop-i.i * 64 + 64 - c.loop-i.i * 64) (omega arith) (omega arith))

pub loop-i-preserved : goal.loop-i-preserved
loop-i-preserved c = (
  whole_length c.loop-i.output c.forward_one.new.slot (c.loop-i.i * 64) (c.loop-i.i * 64 + 64 - c.loop-i.i * 64) (omega arith) (omega arith) c.forward_one.ensures.1 ∙ c.loop-i.invariant.0,
  turn _ _ c.args.input.now c.loop-i.output c.forward_one.new.slot c.args.n c.loop-i.i (c.loop-i.i * 64 + 64 - c.loop-i.i * 64) (omega arith) (omega arith) (omega arith) c.forward_one.ensures.1
      c.loop-i.invariant.1 c.forward_one.ensures.0,
)

pub shape_of-output : goal.shape_of-output
shape_of-output c = omega arith

pub returns : goal.returns
returns c =
    at_end _ _ c.args.input.now c.loop-i.output (c.loop-i.i * 64) (c.args.n - c.loop-i.i) (omega arith) c.loop-i.invariant.1
