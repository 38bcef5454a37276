-- How the private functions read rows: first every rule of a row but that of its target against those before it; then the targets all at once.
use Rattle.std.specs.Prelude.{true, false, List, [], ◌++◌, ◌≡◌, refl, ℕ, suc, ◌+◌, ◌-◌, ◌*◌, ◌≤◌, ◌<◌, length, take, get_or, Result, MatchResult}
use Rattle.table.specs.declared.Row.{Row}
use Rattle.table.specs.Table.{row, rows_from, rising, targets_apart}
use Rattle.table.specs.declared.Renumbering.{Renumbering}
use Rattle.file_format.specs.Format.{Format, two, number, ◌then◌, fields, many, got, bad, read_at, digits}
use Rattle.table_levels.specs.declared.LevelPair.{LevelPair}
use Rattle.file_table.specs.TableFormat.{TableFields, table_fields, row_format, with_row}

-- a row, without a look at the rows before it but for its floor
unfoldable pub row_alone : ℕ → Format Row
row_alone floor =
    fields
    (number two floor 65535
    then λ low. number two low 65534
    then λ high. number two 0 (65534 - (high - low)))
    (λ p. row p.0 p.1.0 p.1.1)
    (λ r. (r.low, (r.high, r.target)))
    (λ p. refl)

-- what reading `n` rows came to: these rows and the place after them, or the place to blame
abbrev pub ReadsRows : List ℕ → ℕ → ℕ → List Row → Result ℕ ℕ → Type 0
ReadsRows s at n rows end = MatchResult end (λ m. read_at (many row_format with_row n []) s at ≡ got rows m) (λ m. read_at (many row_format with_row n []) s at ≡ bad m)

-- what reading `n` rows alone came to, and what it says of reading them with all their rules: where the targets of the rows that were read are apart, the same;
-- else the first row that meets one before it is blamed at its target
pub record RowsAlone (s : List ℕ) (at n : ℕ) (rows : List Row) (end : Result ℕ ℕ) : Type 0 where
  pub rises : rising 0 rows ≡ true
  pub room : 0 < length rows → at + length rows * 6 ≤ length s
  pub apart : targets_apart rows ≡ true → ReadsRows s at n rows end
  pub meets : (j : ℕ) → j < length rows → targets_apart (take j rows) ≡ true → targets_apart (take (suc j) rows) ≡ false
      → read_at (many row_format with_row n []) s at ≡ bad (at + j * 6 + 4)

-- a table that was read, with its rows at the head of a working list
abbrev pub kept_fields : List ℕ → Renumbering → TableFields
kept_fields kept r = table_fields r.table.from r.table.to (take r.table.pairs r.levels) (take r.table.count (rows_from kept))

-- the octets of a pair and of a row do not depend on those before them
abbrev pub pair_octets : LevelPair → List ℕ
pair_octets p = digits 1 (get_or p.levels 0 0) ++ digits 1 (get_or p.levels 1 0)

abbrev pub row_octets : Row → List ℕ
row_octets r = digits 2 r.low ++ (digits 2 r.high ++ digits 2 r.target)
