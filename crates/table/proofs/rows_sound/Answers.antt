-- `table::rows_sound` meets its contract.
use native.Mathlib.Omega.{arith}
use Rattle.table.proofs.Lent.{list_long, list_part, list_whole}
use Rattle.table.proofs.rows_sound.Goals as goal

-- src/lib.rt:81:9
pub returns-then-n-gt-MAX_ROWS : goal.returns-then-n-gt-MAX_ROWS
returns-then-n-gt-MAX_ROWS c = list_long c.args.rows.now c.if-n-gt-MAX_ROWS.true

-- src/lib.rt:84:9
pub returns-then-rows-n : goal.returns-then-rows-n
returns-then-rows-n c = list_part c.args.rows.now c.if-rows-n.true

-- src/lib.rt:87:9
pub returns-then-n-le-FEW_ROWS : goal.returns-then-n-le-FEW_ROWS
returns-then-n-le-FEW_ROWS c =
    list_whole c.args.rows.now c.rows_in.result (omega (arith, c.if-n-gt-MAX_ROWS.false)) c.if-rows-n.false c.rows_in.ensures

-- src/lib.rt:76:1
pub returns : goal.returns
returns c =
    list_whole c.args.rows.now c.rows_in-2.result (omega (arith, c.if-n-gt-MAX_ROWS.false)) c.if-rows-n.false c.rows_in-2.ensures
