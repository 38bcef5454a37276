-- `area_leaving::write_rest` meets its contract.
use native.Mathlib.Omega.{arith}
use Prim.Native.Nat.{◌+◌, ◌<◌, ◌≤◌}
use Rattle.area_leaving.specs.Kept.{kept_of}
use Rattle.area_leaving.proofs.Laws.{take_short, rest_short, rest_over, rest_written}
use Rattle.area_leaving.proofs.write_rest.Goals as goal

pub returns-then-out-lt40 : goal.returns-then-out-lt40
returns-then-out-lt40 c = let whole = rest_short c.args.from c.args.kept (kept_of c.args.area.now) c.args.out.now c.if-out-lt40.true in record { value = whole.0; out_after = whole.1 }

pub returns-then-from-gt40 : goal.returns-then-from-gt40
returns-then-from-gt40 c =
    let h : 40 < c.args.from + c.args.kept = omega arith in let whole = rest_over c.args.from c.args.kept (kept_of c.args.area.now) c.args.out.now h in record { value = whole.0; out_after = whole.1 }

pub returns-then-from-kept : goal.returns-then-from-kept
returns-then-from-kept c =
    let h : 40 < c.args.from + c.args.kept = omega arith in let whole = rest_over c.args.from c.args.kept (kept_of c.args.area.now) c.args.out.now h in record { value = whole.0; out_after = whole.1 }

-- no more is written than was asked for
short : (c : goal.After-slice_known-2-1) → c.copy_kept-w.result ≤ 40
short c =
    omega (arith, take_short c.args.kept (kept_of c.args.area.now))

pub slice_bounds-fill-count : goal.slice_bounds-fill-count
slice_bounds-fill-count c = omega (arith, short c)

pub slice_bounds-fill-start : goal.slice_bounds-fill-start
slice_bounds-fill-start c = omega (arith, short c)

-- no more is written than was asked for
short-After-slice_known-3-1 : (c : goal.After-slice_known-3-1) → c.copy_kept-w.result ≤ 40
short-After-slice_known-3-1 c =
    omega (arith, take_short c.args.kept (kept_of c.args.area.now))

pub overflow_add-result : goal.overflow_add-result
overflow_add-result c = record { fits = omega (arith, short-After-slice_known-3-1 c) }

pub overflow_mul-result : goal.overflow_mul-result
overflow_mul-result c = record { fits = omega (arith, short-After-slice_known-3-1 c) }

pub returns : goal.returns
returns c = let whole = rest_written c.args.from c.args.kept (kept_of c.args.area.now) c.args.out.now c.copy_kept-w.result c.copy_kept-w.new.out c.fill.new.self
    (omega arith) (omega arith) c.copy_kept-w.ensures.value c.copy_kept-w.ensures.out_after (c.fill.ensures.after (λ y e. e)) in record { value = whole.0; out_after = whole.1 }
