-- Document 01, "Records": what is proved of every sound table.
use Rattle.std.specs.Prelude.{true, List, ◌≡◌, ℕ, ◌≤◌, take, Some}
use Rattle.table.specs.Table.{Lent, used_rows, table_sound}
use Rattle.table_levels.specs.Levels.{partner_of}
use Rattle.table.specs.Numbers.{has_number, sends}

-- each category and level has at most one number, each number comes from one category and each level from one level
pub record OneNumber (t : Lent) (ls : List (List ℕ)) : Type 0 where
  pub has : (c : ℕ) → has_number (used_rows t) c ≡ true → (d : ℕ) × (sends (used_rows t) c d ≡ true) × (d ≤ 65534)
  pub number : (c d d' : ℕ) → sends (used_rows t) c d ≡ true → sends (used_rows t) c d' ≡ true → d ≡ d'
  pub category : (c c' d : ℕ) → sends (used_rows t) c d ≡ true → sends (used_rows t) c' d ≡ true → c ≡ c'
  pub level : (v v' w : ℕ) → partner_of (take t.pairs ls) v ≡ Some w → partner_of (take t.pairs ls) v' ≡ Some w → v ≡ v'

abbrev pub Numbering : Type 0
Numbering = (t : Lent) (ls : List (List ℕ)) → table_sound t ls ≡ true → OneNumber t ls
