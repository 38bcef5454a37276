-- `option_write_bitmap::add_run` meets its contract.
use native.Mathlib.Omega.{arith}
use Prim.Native.Nat.{◌/◌, ◌%◌, ◌≤◌}
use Rattle.option_write_bitmap.proofs.Octets.{added_none, added_one, added_two, less_at}
use Rattle.option_write_bitmap.proofs.add_run.Goals as goal

pub returns-then-high-low : goal.returns-then-high-low
returns-then-high-low c =
    let a = c.args in
    added_none (a.key / 65536) (a.key % 65536) a.out.now c.if-high-low.true

-- where the function began, and that the run is one
whole : (c : goal.After-slice_known-then-first-last-1) → let k = c.args.key in k / 65536 ≤ k % 65536
whole c = omega (arith, c.if-high-low.false)

pub overflow_sub-out : goal.overflow_sub-out
overflow_sub-out c =
    let k = c.args.key in
    omega (arith, c.ones_from-ones.ensures, less_at (k / 65536 % 8) (k % 65536 % 8) (omega (arith, whole c, c.if-first-last.true)) (omega arith))

pub returns-then-first-last : goal.returns-then-first-last
returns-then-first-last c =
    let k = c.args.key in
    added_one (k / 65536) (k % 65536) c.ones_from-ones.result c.args.out.now (whole c) c.if-last-out.true c.ones_from-ones.ensures c.if-first-last.true

pub overflow_sub-out-then-first-last-2 : goal.overflow_sub-out-then-first-last-2
overflow_sub-out-then-first-last-2 c =
    let k = c.args.key in
    omega (arith, less_at 0 (k % 65536 % 8) (omega arith) (omega arith))

-- where the function began, and that the run is one
whole-After-slice_known-then-first-last-2-2-1 : (c : goal.After-slice_known-then-first-last-2-2-1) → let k = c.args.key in k / 65536 ≤ k % 65536
whole-After-slice_known-then-first-last-2-2-1 c = omega (arith, c.if-high-low.false)

pub returns-then-first-last-2 : goal.returns-then-first-last-2
returns-then-first-last-2 c =
    let k = c.args.key in
    added_two (k / 65536) (k % 65536) c.ones_from-ones.result c.args.out.now (whole-After-slice_known-then-first-last-2-2-1 c) c.if-last-out.true c.ones_from-ones.ensures c.if-first-last-2.true
