use mathlib.Core.Path.{ap}
use native.Mathlib.Omega.{arith}
use lib.ListN.{length}
use Rattle.area.specs.Area.{met_of}
use Rattle.area_leaving.specs.Kept.{kept_of}
use Rattle.area_leaving.proofs.Laws.{kept_past, kept_none, kept_stop, over_moves, over_count, kept_end}
use Rattle.area_leaving.proofs.count_kept.Goals as goal

pub loop-at-init : goal.loop-at-init
unfolding kept_of met_of
loop-at-init c = (omega arith, omega arith, omega arith)

pub loop-at-smaller-then-area-at-eq1 : goal.loop-at-smaller-then-area-at-eq1
loop-at-smaller-then-area-at-eq1 c = omega arith

pub loop-at-preserved-then-area-at-eq1 : goal.loop-at-preserved-then-area-at-eq1
loop-at-preserved-then-area-at-eq1 c =
    let e = kept_past c.args.area.now c.loop-at.at c.loop-at-test.true c.if-area-at-eq1.true in
    (omega arith, omega arith, omega (arith, ap length e))

pub returns-then-area-at-eq0 : goal.returns-then-area-at-eq0
returns-then-area-at-eq0 c =
    let e = kept_none c.args.area.now c.loop-at.at c.loop-at-test.true c.if-area-at-eq0.true in record { value = omega (arith, ap length e); upper_bound = omega arith }

pub returns-in-None : goal.returns-in-None
returns-in-None c =
    let e = kept_stop c.args.area.now c.loop-at.at c.next_option.result c.loop-at-test.true c.next_option.ensures c.in-None.is in record { value = omega (arith, ap length e); upper_bound = omega arith }

pub overflow_add-w : goal.overflow_add-w
overflow_add-w c = omega (arith, over_moves c.args.area.now c.loop-at.at c.next_option.result c.loop-at-test.true c.next_option.ensures c.in-Some.over c.in-Some.is)

pub overflow_add-at-in-Some : goal.overflow_add-at-in-Some
overflow_add-at-in-Some c = omega (arith, over_moves c.args.area.now c.loop-at.at c.next_option.result c.loop-at-test.true c.next_option.ensures c.in-Some.over c.in-Some.is)

pub loop-at-smaller : goal.loop-at-smaller
loop-at-smaller c = omega (arith, over_moves c.args.area.now c.loop-at.at c.next_option.result c.loop-at-test.true c.next_option.ensures c.in-Some.over c.in-Some.is)

pub loop-at-preserved : goal.loop-at-preserved
loop-at-preserved c =
    let m = over_moves c.args.area.now c.loop-at.at c.next_option.result c.loop-at-test.true c.next_option.ensures c.in-Some.over c.in-Some.is in
    let e = over_count c.args.area.now c.loop-at.at c.next_option.result c.loop-at-test.true c.next_option.ensures c.in-Some.over c.in-Some.is in
    (m.1, omega arith, omega arith)

pub returns : goal.returns
returns c = record { value = omega (arith, ap length (kept_end c.args.area.now c.loop-at.at c.loop-at-test.false)); upper_bound = omega arith }
