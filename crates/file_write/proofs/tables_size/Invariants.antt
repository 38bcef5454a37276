-- `file_write::tables_size` meets its contract.
use Prim.Native.Nat.{◌+◌, ◌*◌, ◌≤◌}
use mathlib.Core.Path.{◌≡◌}
use lib.ListN.{length, drop}
use Rattle.table_choose.specs.Tables.{tables_from}
use Rattle.file_format.specs.Laws.{flat}
use Rattle.file_write.specs.Stages.{table_octets}
use Rattle.file_write.proofs.tables_size.Given as goal

abbrev pub invariant-loop-renumbering : goal.invariant-loop-renumbering
invariant-loop-renumbering l =
    (l.at ≤ length l.rows)
    × (length (flat table_octets (tables_from l.renumbering-items l.rows)) ≡ l.size + length (flat table_octets (tables_from (drop l.renumbering-index l.renumbering-items) (drop l.at l.rows))))
    × (l.size ≤ l.renumbering-index * 6668)
