-- `renumber_reverse::write_rows` meets its contract.
use native.Mathlib.Omega.{arith}
use Prim.Native.Nat.{◌%◌}
use mathlib.Core.Path.{◌∙◌, ap}
use lib.ListN.{length, get_or}
use Rattle.table.specs.Table.{rows_from, no_row}
use Rattle.table.specs.Order.{in_order}
use Rattle.renumber_reverse.specs.Reverse.{turned_row}
use Rattle.renumber_reverse.proofs.Steps.{row_next, row_fine, rows_next}
use Rattle.renumber_reverse.proofs.write_rows.Goals as goal

pub turn-turned-requires : goal.turn-turned-requires
turn-turned-requires c =
    let order = c.args.order.now in
    let f = row_fine (rows_from c.args.rows.now) (length order) order c.requires.0 c.loop-i.i (omega arith) in
    rw c.row_at-row.ensures (f.ordered, f.end)

pub loop-i-preserved : goal.loop-i-preserved
loop-i-preserved c =
    let v = c.loop-i in
    let order = c.args.order.now in
    let rs = rows_from c.args.rows.now in
    rows_next (in_order rs) c.args.back.now v.back v.i (get_or rs (get_or order v.i 0 % 65536) no_row) c.turn-turned.result _ v.invariant
    (row_next rs (length order) order c.requires.0 v.i (omega arith)) (c.turn-turned.ensures ∙ ap turned_row c.row_at-row.ensures) (omega arith)
