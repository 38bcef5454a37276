-- `file_table::read_each_row` meets its contract.
use mathlib.Core.Path.{◌≡◌}
use mathlib.Core.List.{List}
use lib.ListN.{take}
use Rattle.table.specs.declared.Row.{Row}
use Rattle.table.specs.Table.{rows_from}
use Rattle.file_table.specs.TableFormat.{floor_of}
use Rattle.file_table.proofs.Rows.{RowsSeen}
use Rattle.file_table.proofs.read_each_row.Given as goal

abbrev pub invariant-loop-i : goal.invariant-loop-i
invariant-loop-i l = (done : List Row) × (l.floor ≡ floor_of 0 done) × (take l.i (rows_from l.rows) ≡ done) × RowsSeen l.octets l.count l.at done l.i l.place
