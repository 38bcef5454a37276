-- Laws of a checked table and its order, before the passes.
use mathlib.Core.Path.{◌≡◌, ◌∙◌}
use mathlib.Core.Bool.{true, ◌&&◌}
use mathlib.Core.List.{List, ◌++◌}
use Prim.Native.Nat.{ℕ, ◌≤◌}
use native.Mathlib.Omega.{arith}
use lib.Dec.{leb}
use lib.ListN.{length, drop, length-append}
use lib.Seq.{take_at}
use borrow.Author.Tests.{le-leb}
use Rattle.label.specs.declared.Run.{Run}
use Rattle.label.proofs.Bools.{and_both}
use Rattle.table.specs.declared.Row.{Row}
use Rattle.table.specs.Table.{Lent, used_rows, bare_sound, table_sound}
use Rattle.table.specs.Order.{row_order, order_of, bare_order}
use Rattle.table.proofs.Sound.{bare, sound_rows}
use Rattle.table.proofs.Order.{order_length}
use Rattle.renumber_keys.specs.Carry.{label_runs}
use Rattle.renumber_keys.specs.Stages.{Ready}
use Rattle.renumber_keys.proofs.Carrying.{runs_label}

-- the rows' order at the head of a list that had a place for each
pub order_is : (t : Lent) (ls : List (List ℕ)) (was order : List ℕ) → table_sound t ls ≡ true → t.count ≤ length was → order ≡ order_of t ls was
    → order ≡ row_order (used_rows t) ++ drop t.count was
unfolding order_of
order_is t ls was order s l o =
    let h : (table_sound t ls && leb t.count (length was)) ≡ true = and_both s (le-leb t.count (length was) l) in
    o ∙ rw h

pub bare_is : (t : Lent) (was order : List ℕ) → bare_sound t ≡ true → t.count ≤ length was → order ≡ bare_order t was → order ≡ row_order (used_rows t) ++ drop t.count was
unfolding bare_order
bare_is t was order s l o =
    let h : (bare_sound t && leb t.count (length was)) ≡ true = and_both s (le-leb t.count (length was) l) in
    o ∙ rw h

-- A table that was checked, with its order, and a label's runs.
pub ready_of : (t : Lent) (was order : List ℕ) (runs : List Run) → bare_sound t ≡ true → t.count ≤ length was → order ≡ bare_order t was → label_runs runs ≡ true
    → Ready (used_rows t) t.count order runs
ready_of t was order runs s l o f =
    let g = bare t s in
    let k = sound_rows t g.rows in
    let r = runs_label runs f in
    let rs : List Row = used_rows t in
    let n : length (row_order rs) ≡ t.count = order_length rs ∙ g.counted in
    let p : order ≡ row_order rs ++ drop t.count was = bare_is t was order s l o in
    record {
      gaps = r.gaps;
      few = r.few;
      rise = k.rise;
      apart = k.apart;
      held = g.rows_held;
      counted = g.counted;
      along = rw p (take_at (row_order rs) (drop t.count was) t.count n);
      long = rw p (simp length-append (omega arith));
    }
