-- What "the first table for a pair of domains" means, and which rows are a table's.
use Rattle.std.specs.Prelude.{true, false, List, [], ◌∷◌, ◌++◌, ◌≡◌, ℕ, length}
use Rattle.table.specs.declared.Renumbering.{Renumbering}
use Rattle.table.specs.Renumbering.{LentTable, lent_sound}
use Rattle.table_choose.specs.Tables.{share, tables_from, left_over, all_tables_sound, is_for, no_table_from, first_table}

-- no table of the list is for the pair
abbrev pub NoneFor : ℕ → ℕ → List LentTable → Type 0
NoneFor from to [] = Unit {0}
NoneFor from to (x ∷ xs) = (is_for from to x ≡ false) × NoneFor from to xs

pub record FirstTable : Type 0 where
  -- a table for the pair is chosen where none before it is for the pair, whatever follows
  pub first : (from to : ℕ) (before : List LentTable) (x : LentTable) (after : List LentTable)
      → NoneFor from to before → is_for from to x ≡ true → first_table from to (before ++ (x ∷ after)) ≡ x
  -- where none is for the pair, the one chosen is not from the domain
  pub missing : (from to : ℕ) (xs : List LentTable) → NoneFor from to xs → first_table from to xs ≡ no_table_from from
  pub other : (from : ℕ) → (no_table_from from).item.table.from ≡ from → ⊥
  -- of sound tables it is sound
  pub sound : (from to : ℕ) (xs : List LentTable) → all_tables_sound xs ≡ true → lent_sound (first_table from to xs) ≡ true

-- tables that are lent their rows one after the other have just these rows, and nothing is left over
abbrev pub numbers_of : List LentTable → List ℕ
numbers_of [] = []
numbers_of (x ∷ xs) = x.rows ++ numbers_of xs

abbrev pub items_of : List LentTable → List Renumbering
items_of [] = []
items_of (x ∷ xs) = x.item ∷ items_of xs

-- as many numbers as the table counts
abbrev pub Counted : List LentTable → Type 0
Counted [] = Unit {0}
Counted (x ∷ xs) = (length x.rows ≡ share x.item) × Counted xs

pub record OneList : Type 0 where
  pub parts : (xs : List LentTable) → Counted xs → tables_from (items_of xs) (numbers_of xs) ≡ xs
  pub rest : (xs : List LentTable) (over : List ℕ) → Counted xs → left_over (items_of xs) (numbers_of xs ++ over) ≡ over
