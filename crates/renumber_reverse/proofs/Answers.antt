-- Laws of the answers: the order that the table's test gives, and each way to an answer.
use mathlib.Core.Path.{◌≡◌, sym, ◌∙◌, ap}
use mathlib.Core.Bool.{true, false}
use mathlib.Core.List.{List, ◌++◌}
use Prim.Native.Nat.{ℕ, ◌*◌, ◌/◌, ◌≤◌, ◌<◌}
use native.Mathlib.Omega.{arith}
use lib.ListN.{length, take, drop, length-append}
use lib.Seq.{take_at, take_all, length-take-le}
use borrow.Author.Tests.{le-leb, lt-leb}
use Rattle.std.specs.Prelude.{Ok, Err}
use Rattle.table.specs.declared.Row.{Row}
use Rattle.table.specs.Table.{Lent, row_numbers, used_rows, table_sound}
use Rattle.table.specs.Order.{row_order, order_of}
use Rattle.table.proofs.Sound.{sound, sound_rows}
use Rattle.table.proofs.Order.{order_length}
use Rattle.renumber_keys.proofs.Ready.{order_is}
use Rattle.renumber_reverse.specs.declared.ReverseError.TheVariants.{Unsound, Short}
use Rattle.renumber_reverse.specs.Reverse.{Reversed, turned_rows, reverse_table, reversed_of, with_rows}
use Rattle.renumber_reverse.specs.Stages.{InOrder}

module _ (t : Lent) (ls : List (List ℕ)) where
  pub in_order : (was order : List ℕ) → table_sound t ls ≡ true → t.count ≤ length was → order ≡ order_of t ls was → InOrder (used_rows t) t.count order
  in_order was order s l e =
      let p = sound t ls s in
      let n : length (row_order (used_rows t)) ≡ t.count = order_length (used_rows t) ∙ p.counted in
      let a : order ≡ row_order (used_rows t) ++ drop t.count was = order_is t ls was order s l e in
      record {
        rise = (sound_rows t p.rows).rise;
        held = p.rows_held;
        counted = p.counted;
        long = rw a (simp length-append (omega arith));
        along = ap (take t.count) a ∙ take_at (row_order (used_rows t)) (drop t.count was) t.count n;
      }

  pub reversed_unsound : (room : ℕ) → table_sound t ls ≡ false → Err Unsound ≡ reversed_of t ls room
  unfolding reversed_of
  reversed_unsound room s = sym (rw s)

  pub rows_unsound : (was : List ℕ) → table_sound t ls ≡ false → was ≡ with_rows t ls was
  unfolding with_rows
  rows_unsound was s = sym (rw s)

  pub reversed_short : (room : ℕ) → table_sound t ls ≡ true → room < t.count → Err Short ≡ reversed_of t ls room
  unfolding reversed_of
  reversed_short room s h = sym (rw (s, lt-leb t.count room h))

  pub rows_short : (was : List ℕ) → table_sound t ls ≡ true → length was / 3 < t.count → was ≡ with_rows t ls was
  unfolding with_rows
  rows_short was s h = sym (rw (s, lt-leb t.count (length was / 3) h))

  pub reversed_done : (room : ℕ) → table_sound t ls ≡ true → t.count ≤ room
      → ◌≡◌ {A = Reversed} (Ok (record { from = t.to; to = t.from; pairs = t.pairs; count = t.count })) (reversed_of t ls room)
  unfolding reversed_of
  reversed_done room s h = sym (rw (s, le-leb t.count room h))

  pub rows_done : (was rows : List ℕ) → table_sound t ls ≡ true → t.count ≤ length was / 3
      → rows ≡ row_numbers (turned_rows (used_rows t)) ++ drop (t.count * 3) was → rows ≡ with_rows t ls was
  unfolding with_rows reverse_table
  rows_done was rows s h e = e ∙ sym (rw (s, le-leb t.count (length was / 3) h))

-- the same of the first n of the list alone
pub first_order : (rs : List Row) (n : ℕ) (order : List ℕ) → InOrder rs n order → InOrder rs (length (take n order)) (take n order)
first_order rs n order o =
    let l : length (take n order) ≡ n = length-take-le n order o.long in
    record {
      rise = o.rise;
      held = omega (arith, o.held);
      counted = o.counted ∙ sym l;
      long = omega arith;
      along = take_all (length (take n order)) (take n order) (omega arith) ∙ o.along;
    }
