-- `table::row_at` meets its contract.
use mathlib.Core.Path.{sym}
use Rattle.table.proofs.Lent.{row_past}
use Rattle.table.proofs.row_at.Goals as goal

pub returns-then-rows-i : goal.returns-then-rows-i
returns-then-rows-i c = sym (row_past c.args.rows.now c.args.i c.if-rows-i.true)
