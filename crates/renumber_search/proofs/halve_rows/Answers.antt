-- `renumber_search::halve_rows` meets its contract.
use native.Mathlib.Omega.{arith}
use Prim.Native.Nat.{◌+◌, ◌-◌, ◌/◌}
use borrow.Author.Tests.{lt-ltb, le-ltb}
use lib.ListN.{length}
use Rattle.table.specs.Table.{rows_from}
use Rattle.renumber_search.specs.Search.{halves}
use Rattle.lists_search.proofs.Halves.{halving_start, halving_up, halving_down, halving_end}
use Rattle.renumber_search.proofs.Bisecting.{end_read}
use Rattle.table.proofs.Lent.{rows_length}
use Rattle.renumber_search.proofs.halve_rows.Invariants.{past}
use Rattle.renumber_search.proofs.halve_rows.Goals as goal

pub loop-low-init : goal.loop-low-init
loop-low-init c =
    let rs = rows_from c.args.rows.now in
    halving_start (past c.args.rows.now c.args.c) (length rs) c.args.from _ (length rs) (omega (arith, rows_length c.args.rows.now)) (omega arith)

pub overflow_add-middle : goal.overflow_add-middle
overflow_add-middle c = omega (arith, c.loop-low-test.true, c.loop-low.invariant.inside, rows_length c.args.rows.now)

pub overflow_mul-at : goal.overflow_mul-at
overflow_mul-at c = omega (arith, c.loop-low-test.true, c.loop-low.invariant.inside, rows_length c.args.rows.now)

pub overflow_add-at : goal.overflow_add-at
overflow_add-at c = omega (arith, c.loop-low-test.true, c.loop-low.invariant.inside, rows_length c.args.rows.now)

pub offset_bounds-rows-at : goal.offset_bounds-rows-at
offset_bounds-rows-at c = omega (arith, c.loop-low-test.true, c.loop-low.invariant.inside, rows_length c.args.rows.now)

pub bounds-rows-at : goal.bounds-rows-at
bounds-rows-at c = omega (arith, c.loop-low-test.true, c.loop-low.invariant.inside, rows_length c.args.rows.now)

pub overflow_add-low : goal.overflow_add-low
overflow_add-low c = omega (arith, c.loop-low-test.true, c.loop-low.invariant.inside, rows_length c.args.rows.now)

pub loop-low-preserved-then-end-c : goal.loop-low-preserved-then-end-c
loop-low-preserved-then-end-c c =
    let rows = c.args.rows.now in
    let v = c.loop-low in
    let ended = end_read rows (v.low + (v.high - v.low) / 2) (omega (arith, c.loop-low-test.true, v.invariant.inside, rows_length rows)) in
    halving_up (past rows c.args.c) (halves (rows_from rows) c.args.from c.args.c) (length (rows_from rows)) v.low v.high c.loop-low-test.true v.invariant
    (lt-ltb _ c.args.c (rw (ended, ← c.from-end.ensures) c.if-end-c.true))

pub loop-low-preserved : goal.loop-low-preserved
loop-low-preserved c =
    let rows = c.args.rows.now in
    let v = c.loop-low in
    let ended = end_read rows (v.low + (v.high - v.low) / 2) (omega (arith, c.loop-low-test.true, v.invariant.inside, rows_length rows)) in
    halving_down (past rows c.args.c) (halves (rows_from rows) c.args.from c.args.c) (length (rows_from rows)) v.low v.high c.loop-low-test.true v.invariant
    (le-ltb _ c.args.c (rw (ended, ← c.from-end.ensures) c.if-end-c.false))

pub returns : goal.returns
returns c =
    let rows = c.args.rows.now in
    halving_end (past rows c.args.c) (halves (rows_from rows) c.args.from c.args.c) (length (rows_from rows)) c.loop-low.low c.loop-low.high c.loop-low.invariant c.loop-low-test.false
