-- `table_choose::tables_sound` meets its contract.
use mathlib.Core.Path.{◌≡◌}
use Prim.Native.Nat.{◌≤◌}
use lib.ListN.{length, drop}
use Rattle.table_choose.specs.Tables.{tables_from, left_over, all_tables_sound}
use Rattle.table_choose.proofs.tables_sound.Given as goal

abbrev pub invariant-loop-item : goal.invariant-loop-item
invariant-loop-item l =
    record {
      inside : l.at ≤ length l.rows;
      sound : all_tables_sound (tables_from l.item-items l.rows) ≡ all_tables_sound (tables_from (drop l.item-index l.item-items) (drop l.at l.rows));
      left : left_over l.item-items l.rows ≡ left_over (drop l.item-index l.item-items) (drop l.at l.rows);
    }
