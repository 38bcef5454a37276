-- A table with its level pairs beside it, as a set of records and the house file hold it, and with the rows that are lent for it.
use Rattle.std.specs.Prelude.{Bool, true, ◌&&◌, List, [], ◌∷◌, map, ℕ, eqb, length, replicate}
use Rattle.table_levels.specs.declared.LevelPair.{LevelPair}
use Rattle.table_levels.specs.Levels.{no_pair}
use Rattle.table.specs.declared.Renumbering.{Renumbering}
use Rattle.table.specs.Table.{Lent, lent, table_sound}

-- the table whose every number is 0
abbrev pub no_renumbering : Renumbering
no_renumbering = record { table = record { from = 0; to = 0; pairs = 0; count = 0 }; levels = replicate 256 no_pair }

-- the level pairs as arrays of two numbers, as the gateway takes them beside the table
abbrev pub levels_of : Renumbering → List (List ℕ)
levels_of r = map (λ p. p.levels) r.levels

-- what the types say of level pairs: 256 places of two numbers
abbrev pub two_each : List LevelPair → Bool
two_each [] = true
two_each (p ∷ ps) = eqb (length p.levels) 2 && two_each ps

unfoldable pub typed_pairs : Renumbering → Bool
typed_pairs r = eqb (length r.levels) 256 && two_each r.levels

-- a table with its level pairs, and the numbers that are lent for its rows
pub record LentTable : Type 0 where
  pub item : Renumbering
  pub rows : List ℕ

abbrev pub lent_of : LentTable → Lent
lent_of x = lent x.item.table x.rows

abbrev pub lent_sound : LentTable → Bool
lent_sound x = table_sound (lent_of x) (levels_of x.item)
