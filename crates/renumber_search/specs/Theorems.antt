-- What carrying by search is of rows that rise, and so of every sound table: what `renumber_keys::carry` answers.
use Rattle.std.specs.Prelude.{true, cond, ◌&&◌, is_some, List, map, ◌≡◌, ℕ, ◌+◌, ◌≤◌, ◌<◌, length, take, Option, None, Some, Err}
use Rattle.label.specs.declared.Run.{Run}
use Rattle.label_keys.specs.Keys.{run_key}
use Rattle.table_levels.specs.Levels.{Partner, partner_of, known, level_or0}
use Rattle.table.specs.declared.Row.{Row}
use Rattle.table.specs.Table.{Lent, used_rows, rising, table_sound}
use Rattle.table.specs.Numbers.{numbered}
use Rattle.renumber_keys.specs.declared.CarryError.TheVariants.{NoNumber}
use Rattle.renumber_keys.specs.Carry.{CarryAnswer, image_of, label_runs, carried_as, not_carried, row_of, carry_of}
use Rattle.renumber_search.specs.Search.{end_of, bisect, searched_of, searched_keys}

-- the rows before r, from `from` on, end below c, and the one there does not
pub record Skips (rs : List Row) (from c r : ℕ) : Type 0 where
  pub onward : from ≤ r
  pub inside : from ≤ length rs → r ≤ length rs
  pub before : (j : ℕ) → from ≤ j → j < r → end_of rs j < c
  pub there : r < length rs → c ≤ end_of rs r

pub record Bisecting : Type 0 where
  pub skips : (f : ℕ) (rs : List Row) (from c : ℕ) → rising f rs ≡ true → Skips rs from c (bisect rs from c)
  pub only : (rs : List Row) (from c r s : ℕ) → from ≤ length rs → Skips rs from c r → Skips rs from c s → r ≡ s

-- the level's partner and the runs that were found, where there are both; else 16
abbrev pub carried_where : Partner → Option ℕ → CarryAnswer
carried_where None s = Err NoNumber
carried_where (Some v) None = Err NoNumber
carried_where (Some v) (Some n) = carried_as v n

-- how many runs were found, and 0 where a category has no number
abbrev pub found_or0 : Option ℕ → ℕ
found_or0 None = 0
found_or0 (Some n) = n

-- a sound table, a label's runs, and a list of 120 places and one for each row
pub record Carrying (t : Lent) (rs : List Run) : Type 0 where
  -- how many runs the numbers have, where every category has one
  pub answer : (room : ℕ) → 120 + t.count ≤ room → searched_of (used_rows t) rs room ≡ cond (numbered (used_rows t) rs) (Some (length (image_of t rs))) None
  -- then these runs are at the list's head
  pub keys : (far : List ℕ) → 120 + t.count ≤ length far → numbered (used_rows t) rs ≡ true → take (length (image_of t rs)) (searched_keys (used_rows t) rs far) ≡ map run_key (image_of t rs)

pub record SearchCarries : Type 0 where
  -- whatever the rows and the runs, the list is as long as it was
  pub sized : (rows : List Row) (runs : List Run) (far : List ℕ) → length (searched_keys rows runs far) ≡ length far
  pub carries : (t : Lent) (ls : List (List ℕ)) (rs : List Run) → table_sound t ls ≡ true → label_runs rs ≡ true → Carrying t rs
  -- the answer of `renumber_keys::carry`, from the level's partner and the search
  pub carried : (t : Lent) (ls : List (List ℕ)) (rs : List Run) (v room : ℕ) → table_sound t ls ≡ true → label_runs rs ≡ true → 120 + t.count ≤ room →
      carry_of rs v t ls room ≡ carried_where (partner_of (take t.pairs ls) v) (searched_of (used_rows t) rs room)
  -- and its row: 16 where the level has no partner or nothing was found
  pub row : (t : Lent) (ls : List (List ℕ)) (rs : List Run) (v room : ℕ) → table_sound t ls ≡ true → label_runs rs ≡ true → 120 + t.count ≤ room →
      row_of (carry_of rs v t ls room)
      ≡ cond (known (partner_of (take t.pairs ls) v) && is_some (searched_of (used_rows t) rs room))
      (record { number = 0; level = level_or0 (partner_of (take t.pairs ls) v); count = found_or0 (searched_of (used_rows t) rs room) })
      (not_carried 16)
