-- `table_choose::first_table` meets its contract.
use mathlib.Core.Path.{◌≡◌}
use Prim.Native.Nat.{◌≤◌}
use lib.ListN.{length, drop}
use Rattle.table_choose.specs.Tables.{tables_from, first_table}
use Rattle.table_choose.proofs.first_table.Given as goal

abbrev pub invariant-loop-item : goal.invariant-loop-item
invariant-loop-item l =
    record {
      inside : l.at ≤ length l.rows;
      first : first_table l.from l.to (tables_from l.item-items l.rows) ≡ first_table l.from l.to (tables_from (drop l.item-index l.item-items) (drop l.at l.rows));
    }
