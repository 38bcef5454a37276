-- The rows of a table in the order of their targets, which renumbering gathers by.
use Rattle.std.specs.Prelude.{cond, ◌&&◌, List, [], ◌∷◌, ◌++◌, map, ℕ, ◌+◌, ◌*◌, ◌%◌, leb, length, drop, get_or, replicate}
use Rattle.lists_sort.specs.Order.{sort_keys}
use Rattle.table.specs.declared.Row.{Row}
use Rattle.table.specs.Table.{Lent, no_row, used_rows, bare_sound, table_sound}

-- each row as one number, its target above its place in the table, which counts from `i`
abbrev pub order_keys : ℕ → List Row → List ℕ
order_keys i [] = []
order_keys i (r ∷ rs) = (r.target * 65536 + i) ∷ order_keys (i + 1) rs

-- these numbers in order
abbrev pub row_order : List Row → List ℕ
row_order rs = sort_keys (order_keys 0 rs)

-- what the lent list holds: the rows in order, and behind them what it held before, where the table is sound and there is a place for each, else zeros
unfoldable pub order_of : Lent → List (List ℕ) → List ℕ → List ℕ
order_of t ls was =
    cond (table_sound t ls && leb t.count (length was)) (row_order (used_rows t) ++ drop t.count was) (replicate (length was) 0)

-- the same of a table but for its level pairs
unfoldable pub bare_order : Lent → List ℕ → List ℕ
bare_order t was = cond (bare_sound t && leb t.count (length was)) (row_order (used_rows t) ++ drop t.count was) (replicate (length was) 0)

-- the row that such a number names
abbrev pub row_at : List Row → ℕ → Row
row_at rs k = get_or rs (k % 65536) no_row

-- the rows in the order of their targets
abbrev pub in_order : List Row → List Row
in_order rs = map (row_at rs) (row_order rs)
