-- Document 02, wish 11: the reverse of a renumbering table, "each row turned round". House: its rows are in the order of their new sources, and its
-- level pairs are turned round too.
use Rattle.std.specs.Prelude.{Bool, true, cond, ◌&&◌, List, [], ◌∷◌, ◌++◌, map, ℕ, ◌*◌, ◌/◌, leb, eqb, length, drop, get_or, Result, Ok, Err}
use Rattle.table.specs.declared.Row.{Row}
use Rattle.table.specs.declared.Table.{Table}
use Rattle.table.specs.Table.{Lent, row_numbers, used_rows, target_end, table_sound}
use Rattle.table.specs.Order.{in_order}
use Rattle.renumber_reverse.specs.declared.ReverseError.{ReverseError}
use Rattle.renumber_reverse.specs.declared.ReverseError.TheVariants.{Unsound, Short}

-- a row turned round: the numbers that it gave go back to their categories
abbrev pub turned_row : Row → Row
turned_row r = record { low = r.target; high = target_end r; target = r.low }

-- rows turned round, in the order of their new sources: these are the targets that they had
abbrev pub turned_rows : List Row → List Row
turned_rows rs = map turned_row (in_order rs)

abbrev pub turned_pair : List ℕ → List ℕ
turned_pair p = get_or p 1 0 ∷ get_or p 0 0 ∷ []

abbrev pub turned_levels : List (List ℕ) → List (List ℕ)
turned_levels ls = map turned_pair ls

-- what the type of level pairs says: each is two numbers
abbrev pub in_twos : List (List ℕ) → Bool
in_twos [] = true
in_twos (p ∷ ps) = eqb (length p) 2 && in_twos ps

-- the reverse of a table, with its rows
unfoldable pub reverse_table : Lent → Lent
reverse_table t = record { from = t.to; to = t.from; pairs = t.pairs; count = t.count; rows = row_numbers (turned_rows (used_rows t)) }

-- what reversing answers: the table without its rows and its level pairs, or a refusal
abbrev pub Reversed : Type 0
Reversed = Result Table ReverseError

-- the numbers of the refusals
abbrev pub number_of : ReverseError → ℕ
number_of Unsound = 2
number_of Short = 24

-- a row of what reversing answers: number 0 and the table; or a refusal's number, and every other number is 0
pub record ReverseRow : Type 0 where
  pub number : ℕ
  pub table : Table

abbrev pub not_reversed : ℕ → ReverseRow
not_reversed n = record { number = n; table = record { from = 0; to = 0; pairs = 0; count = 0 } }

-- the row of an answer
abbrev pub row_of : Reversed → ReverseRow
row_of (Ok t) = record { number = 0; table = t }
row_of (Err e) = not_reversed (number_of e)

-- 2 for an unsound table, then 24 where the lent room has a place for fewer rows
unfoldable pub reversed_of : Lent → List (List ℕ) → ℕ → Reversed
reversed_of t ls room =
    cond (table_sound t ls) (cond (leb t.count room) (Ok (record { from = t.to; to = t.from; pairs = t.pairs; count = t.count })) (Err Short)) (Err Unsound)

-- the list with the reverse table's rows at its head, or as it was on a refusal
unfoldable pub with_rows : Lent → List (List ℕ) → List ℕ → List ℕ
with_rows t ls was =
    cond (table_sound t ls && leb t.count (length was / 3)) ((reverse_table t).rows ++ drop (t.count * 3) was) was
