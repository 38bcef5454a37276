-- `file_table::write_rows` meets its contract.
use lib.ListN.{take}
use Rattle.file_format.specs.Format.{digits, Added}
use Rattle.file_format.specs.Laws.{flat}
use Rattle.file_table.proofs.write_rows.Given as goal

abbrev pub invariant-loop-number : goal.invariant-loop-number
invariant-loop-number l = Added l.initial.out (flat (digits 2) (take l.number-index l.rows)) l.out
