-- `renumber_reverse::write_rows` meets its contract.
use mathlib.Core.Path.{◌≡◌}
use Rattle.table.specs.Table.{rows_from}
use Rattle.table.specs.Order.{in_order}
use Rattle.renumber_reverse.proofs.Steps.{part_rows}
use Rattle.renumber_reverse.proofs.write_rows.Given as goal

abbrev pub invariant-loop-i : goal.invariant-loop-i
invariant-loop-i l = l.back ≡ part_rows (in_order (rows_from l.rows)) l.initial.back l.i
