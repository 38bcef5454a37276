-- Document 02, wish 11: what is proved of the reverse of every sound table.
use Rattle.std.specs.Prelude.{true, false, List, ◌≡◌, ℕ, ◌/◌, ◌≤◌, ◌<◌, length, take, Some, Ok, Err}
use Rattle.label.specs.declared.Label.{Label}
use Rattle.table.specs.declared.Table.{Table}
use Rattle.table.specs.Table.{Lent, used_rows, table_sound}
use Rattle.table_levels.specs.Levels.{partner_of}
use Rattle.table.specs.Numbers.{sends}
use Rattle.renumber.specs.Renumber.{renumbered_as, renumbered_of}
use Rattle.renumber_reverse.specs.declared.ReverseError.TheVariants.{Unsound, Short}
use Rattle.renumber_reverse.specs.Reverse.{in_twos, reverse_table, turned_levels, ReverseRow, row_of, reversed_of, with_rows}

-- a row of the reverse gives number d the category c exactly when one of the table gives c the number d; levels likewise
pub record TurnedRound (t : Lent) (ls : List (List ℕ)) : Type 0 where
  pub categories : (c d : ℕ) → sends (used_rows (reverse_table t)) d c ≡ sends (used_rows t) c d
  pub levels : (v w : ℕ) → partner_of (take t.pairs ls) v ≡ Some w → partner_of (take t.pairs (turned_levels ls)) w ≡ Some v

pub record Reversing : Type 0 where
  -- the reverse of a sound table is sound
  pub sound : (t : Lent) (ls : List (List ℕ)) → table_sound t ls ≡ true → table_sound (reverse_table t) (turned_levels ls) ≡ true
  -- reversed twice it is the table
  pub twice : (t : Lent) (ls : List (List ℕ)) → table_sound t ls ≡ true → reverse_table (reverse_table t) ≡ t
  pub pairs : (ls : List (List ℕ)) → in_twos ls ≡ true → turned_levels (turned_levels ls) ≡ ls
  pub turned : (t : Lent) (ls : List (List ℕ)) → table_sound t ls ≡ true → TurnedRound t ls
  -- "going out, where 120 runs allow, and back gives the first label"
  pub back : (l : Label) (t : Lent) (ls : List (List ℕ)) (m : Label)
      → renumbered_of l t ls ≡ renumbered_as m
      → renumbered_of m (reverse_table t) (turned_levels ls) ≡ renumbered_as l

-- a number, and an all-zero table
abbrev pub only_number : ℕ → ReverseRow
only_number n = record { number = n; table = record { from = 0; to = 0; pairs = 0; count = 0 } }

-- "an unsound table is 2, then short lent room 24": three numbers of room a row; both leave the room as it was
pub record ReverseRefused : Type 0 where
  pub unsound : (t : Lent) (ls : List (List ℕ)) (was : List ℕ) → table_sound t ls ≡ false
      → (reversed_of t ls (length was / 3) ≡ Err Unsound) × (row_of (reversed_of t ls (length was / 3)) ≡ only_number 2) × (with_rows t ls was ≡ was)
  pub short : (t : Lent) (ls : List (List ℕ)) (was : List ℕ) → table_sound t ls ≡ true → length was / 3 < t.count
      → (reversed_of t ls (length was / 3) ≡ Err Short) × (row_of (reversed_of t ls (length was / 3)) ≡ only_number 24) × (with_rows t ls was ≡ was)
  -- nothing else is refused
  pub given : (t : Lent) (ls : List (List ℕ)) (was : List ℕ) → table_sound t ls ≡ true → t.count ≤ length was / 3
      → (r : Table) × (reversed_of t ls (length was / 3) ≡ Ok r) × ((row_of (reversed_of t ls (length was / 3))).number ≡ 0)
