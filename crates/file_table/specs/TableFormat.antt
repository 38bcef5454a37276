-- docs/FILE.md, "A table". The layout's row: from (4), to (4), pair count (2), then each pair (1 + 1), row count (2), then low (2), high (2) and target low (2) of
-- each row. Version 1: at most 16 pairs and 64 rows; versions 2 and 3: 256 and 1,024.
use Rattle.std.specs.Prelude.{Bool, cond, ◌&&◌, List, [], ◌∷◌, ◌++◌, refl, ℕ, ◌+◌, ◌-◌, leb, length, take, get_or}
use Rattle.table_levels.specs.declared.LevelPair.{LevelPair}
use Rattle.table_levels.specs.Levels.{pair, no_pair}
use Rattle.table.specs.declared.Row.{Row}
use Rattle.table.specs.declared.Renumbering.{Renumbering}
use Rattle.table.specs.Table.{row, rows_from, row_numbers, apart_from_all}
use Rattle.table.specs.Renumbering.{LentTable}
use Rattle.file_format.specs.Format.{Format, value_or, read_at, one, two, four, number, ◌then◌, ◌such◌, fields, counted}
use Rattle.file_format.specs.Places.{padded}

-- 1. The limits of a version.

abbrev pub most_pairs : (version : ℕ) → ℕ
most_pairs version = cond (leb 2 version) 256 16

abbrev pub most_rows : (version : ℕ) → ℕ
most_rows version = cond (leb 2 version) 1024 64

-- 2. The fields.

-- a pair's first, second: above the first, second of the pair before it; a state holds the least that each may be
unfoldable pub pair_format : ℕ × ℕ → Format LevelPair
pair_format least =
    fields
    (number one least.0 255
    then λ first. number one least.1 255)
    (λ p. pair p.0 p.1)
    (λ p. (get_or p.levels 0 0, get_or p.levels 1 0))
    (λ p. refl)

abbrev pub next_least : ℕ × ℕ → LevelPair → ℕ × ℕ
next_least least p = (get_or p.levels 0 0 + 1, get_or p.levels 1 0 + 1)

-- above the high of the last row; `floor` where there is none
abbrev pub floor_of : ℕ → List Row → ℕ
floor_of floor [] = floor
floor_of floor (r ∷ rs) = floor_of (r.high + 1) rs

-- low: above the high of the row before it. high: from its low to 65534. target: its end is at most 65534, and it shares no number with the target of a row
-- before it
unfoldable pub row_format : List Row → Format Row
row_format before =
    fields
    (number two (floor_of 0 before) 65535
    then λ low. number two low 65534
    then λ high. number two 0 (65534 - (high - low)) such (λ target. apart_from_all (row low high target) before))
    (λ p. row p.0 p.1.0 p.1.1)
    (λ r. (r.low, (r.high, r.target)))
    (λ p. refl)

abbrev pub with_row : List Row → Row → List Row
with_row before r = before ++ (r ∷ [])

-- a table as a file says it
pub record TableFields : Type 0 where
  pub from : ℕ
  pub to : ℕ
  pub pairs : List LevelPair
  pub rows : List Row

abbrev pub table_fields : ℕ → ℕ → List LevelPair → List Row → TableFields
table_fields from to pairs rows = record { from = from; to = to; pairs = pairs; rows = rows }

unfoldable pub table_format : (version : ℕ) → Format TableFields
table_format version =
    fields
    (number four 1 4294967295
    then λ from. number four 1 4294967295
    then λ to. counted pair_format next_least two (most_pairs version) (0, 0)
    then λ pairs. counted row_format with_row two (most_rows version) [])
    (λ p. table_fields p.0 p.1.0 p.1.1.0 p.1.1.1)
    (λ t. (t.from, (t.to, (t.pairs, t.rows))))
    (λ p. refl)

-- 3. The table of these fields, with its rows as numbers, and back. Unused places of level pairs are zero.

abbrev pub head_of : TableFields → Renumbering
head_of t =
    record {
      table = record { from = t.from; to = t.to; pairs = length t.pairs; count = length t.rows };
      levels = padded 256 no_pair t.pairs;
    }

abbrev pub lent_fields : TableFields → LentTable
lent_fields t = record { item = head_of t; rows = row_numbers t.rows }

abbrev pub fields_of : LentTable → TableFields
fields_of x = table_fields x.item.table.from x.item.table.to (take x.item.table.pairs x.item.levels) (take 1024 (rows_from x.rows))

abbrev pub no_fields : TableFields
no_fields = table_fields 0 0 [] []

-- what a reader finds at a place, in a file of this version; nothing where it is refused
abbrev pub found_table : (version : ℕ) → List ℕ → ℕ → TableFields
found_table version s at = value_or no_fields (read_at (table_format version) s at)

-- a file of this version can say the table
unfoldable pub table_sayable : (version : ℕ) → LentTable → Bool
table_sayable version x = leb x.item.table.pairs (most_pairs version) && leb x.item.table.count (most_rows version)
