-- `file_write::write_tables` meets its contract.
use Prim.Native.Nat.{◌≤◌}
use lib.ListN.{length, drop}
use Rattle.table_choose.specs.Tables.{tables_from}
use Rattle.file_format.specs.Laws.{flat}
use Rattle.file_write.specs.Stages.{table_octets}
use Rattle.file_write.proofs.Sizes.{Goes}
use Rattle.file_write.proofs.write_tables.Given as goal

abbrev pub invariant-loop-renumbering : goal.invariant-loop-renumbering
invariant-loop-renumbering l =
    (l.from ≤ length l.rows)
    × Goes l.initial.out (flat table_octets (tables_from l.renumbering-items l.rows)) (flat table_octets (tables_from (drop l.renumbering-index l.renumbering-items) (drop l.from l.rows))) l.out
