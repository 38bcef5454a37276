-- `renumber_search::find_row` meets its contract.
use native.Mathlib.Omega.{arith}
use mathlib.Core.Path.{◌∙◌, ap}
use Rattle.table.specs.declared.Row.{Row}
use Rattle.table.specs.Table.{rows_from}
use Rattle.table.proofs.Lent.{rows_length}
use Rattle.renumber_search.proofs.Bisecting.{bisect_here, bisect_before, bisect_past}
use Rattle.renumber_search.proofs.find_row.Goals as goal

pub returns-then-rows-from : goal.returns-then-rows-from
returns-then-rows-from c =
    bisect_past (rows_from c.args.rows.now) c.args.from c.args.c (omega (arith, rows_length c.args.rows.now, c.if-rows-from.true))

pub returns-then-c-end : goal.returns-then-c-end
returns-then-c-end c =
    let end = c.from-end.ensures ∙ ap (λ (r : Row). r.high) c.row_at-row.ensures in
    bisect_here (rows_from c.args.rows.now) c.args.from c.args.c (omega (arith, rows_length c.args.rows.now, c.if-rows-from.false)) (rw (← end) c.if-c-end.true)

pub returns : goal.returns
returns c =
    let end = c.from-end.ensures ∙ ap (λ (r : Row). r.high) c.row_at-row.ensures in
    c.halve_rows.ensures ∙ bisect_before (rows_from c.args.rows.now) c.args.from c.args.c (rw (← end) c.if-c-end.false)
