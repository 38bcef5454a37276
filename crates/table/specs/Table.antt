-- Document 01, "Records", with the limits of document 02, wish 8: what makes a renumbering table sound.
use Rattle.std.specs.Prelude.{Bool, true, not, ◌&&◌, ◌||◌, List, [], ◌∷◌, ℕ, ◌+◌, ◌-◌, ◌*◌, leb, ltb, eqb, length, take}
use Rattle.table_levels.specs.Levels.{levels_sound, level_numbers}
use Rattle.table.specs.declared.Row.{Row}
use Rattle.table.specs.declared.Table.{Table}

abbrev pub row : ℕ → ℕ → ℕ → Row
row l h t = record { low = l; high = h; target = t }

abbrev pub no_row : Row
no_row = row 0 0 0

-- a table with the list that its caller lends: its rows, each as three numbers
pub record Lent : Type 0 where
  pub from : ℕ
  pub to : ℕ
  pub pairs : ℕ
  pub count : ℕ
  pub rows : List ℕ

abbrev pub lent : Table → List ℕ → Lent
lent t rows = record { from = t.from; to = t.to; pairs = t.pairs; count = t.count; rows = rows }

-- the rows of a list, three numbers each: low, high and target; what is left over at the end is no row
abbrev pub rows_from : List ℕ → List Row
rows_from [] = []
rows_from (a ∷ []) = []
rows_from (a ∷ b ∷ []) = []
rows_from (a ∷ b ∷ c ∷ xs) = row a b c ∷ rows_from xs

-- and back: each row as three numbers
abbrev pub row_numbers : List Row → List ℕ
row_numbers [] = []
row_numbers (r ∷ rs) = r.low ∷ r.high ∷ r.target ∷ row_numbers rs

-- the rows in use: those that are lent
abbrev pub used_rows : Lent → List Row
used_rows t = rows_from t.rows

-- the highest number that a row gives
abbrev pub target_end : Row → ℕ
target_end r = r.target + (r.high - r.low)

-- "each row has low ≤ high, sources are ascending and disjoint, all ends ≤ 65534", the target's end too; the first source begins at `f` or above
abbrev pub rising : ℕ → List Row → Bool
rising f [] = true
rising f (r ∷ rs) =
    leb f r.low && (leb r.low r.high && (leb r.high 65534 && (leb (target_end r) 65534 && rising (r.high + 1) rs)))

-- two rows give no number in common
abbrev pub apart : Row → Row → Bool
apart r s = ltb (target_end r) s.target || ltb (target_end s) r.target

abbrev pub apart_from_all : Row → List Row → Bool
apart_from_all r [] = true
apart_from_all r (s ∷ ss) = apart r s && apart_from_all r ss

-- "targets are disjoint": no two rows give a number in common
abbrev pub targets_apart : List Row → Bool
targets_apart [] = true
targets_apart (r ∷ rs) = apart_from_all r rs && targets_apart rs

-- rows by themselves: whole ones, at most 1,024, and sound
unfoldable pub row_list_sound : List ℕ → Bool
row_list_sound ns =
    leb (length (rows_from ns)) 1024
    && (eqb (length ns) (length (rows_from ns) * 3) && (rising 0 (rows_from ns) && targets_apart (rows_from ns)))

unfoldable pub rows_sound : Lent → Bool
rows_sound t = rising 0 (used_rows t) && targets_apart (used_rows t)

-- what the types say of every table: domains of 32 bits, levels from 0 to 255
unfoldable pub typed : Lent → List (List ℕ) → Bool
typed t ls = leb t.from 4294967295 && (leb t.to 4294967295 && level_numbers (take t.pairs ls))

-- all of it but the level pairs, for a caller that looks at these itself
unfoldable pub bare_sound : Lent → Bool
bare_sound t =
    not (eqb t.from 0)
    && (not (eqb t.to 0)
    && (leb t.pairs 256
    && (leb t.count 1024
    && (eqb (length t.rows) (t.count * 3) && (rows_sound t && (leb t.from 4294967295 && leb t.to 4294967295))))))

-- neither domain is 0, the counts keep to their limits, as many rows are lent as counted, the level pairs and the rows are sound
unfoldable pub table_sound : Lent → List (List ℕ) → Bool
table_sound t ls =
    not (eqb t.from 0)
    && (not (eqb t.to 0)
    && (leb t.pairs 256
    && (leb t.count 1024
    && (eqb (length t.rows) (t.count * 3) && (levels_sound ls t.pairs && (rows_sound t && typed t ls))))))
