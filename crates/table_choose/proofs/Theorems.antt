-- The theorems of `specs/Theorems.antt`.
use mathlib.Core.Path.{◌≡◌, refl, sym, ◌∙◌, ap}
use mathlib.Core.Bool.{Bool, true, false, cond}
use mathlib.Core.List.{List, [], ◌∷◌, ◌++◌, append_assoc}
use Prim.Native.Nat.{ℕ}
use native.Mathlib.Omega.{arith}
use lib.Dec.{eqb}
use lib.ListN.{drop}
use lib.Seq.{take_at, drop_at}
use borrow.Author.Tests.{eqb-true, eq-eqb}
use Rattle.label.proofs.Bools.{never, and_left, and_right}
use Rattle.table.specs.Table.{table_sound, rows_sound, typed}
use Rattle.table_levels.specs.Levels.{levels_sound}
use Rattle.table.specs.Renumbering.{LentTable, lent_sound}
use Rattle.table_choose.specs.Tables.{share, tables_from, left_over, all_tables_sound, is_for, no_table_from, first_table}
use Rattle.table_choose.specs.Theorems.{NoneFor, FirstTable, numbers_of, items_of, Counted, OneList}

first_for : (from to : ℕ) (before : List LentTable) (x : LentTable) (after : List LentTable) → NoneFor from to before → is_for from to x ≡ true → first_table from to (before ++ (x ∷ after)) ≡ x
first_for from to [] x after none e = ap (λ (b : Bool). cond b x (first_table from to after)) e
first_for from to (s ∷ before) x after none e =
    ap (λ (b : Bool). cond b s (first_table from to (before ++ (x ∷ after)))) none.0 ∙ first_for from to before x after none.1 e

none_for : (from to : ℕ) (xs : List LentTable) → NoneFor from to xs → first_table from to xs ≡ no_table_from from
none_for from to [] none = refl
none_for from to (x ∷ xs) none = ap (λ (b : Bool). cond b x (first_table from to xs)) none.0 ∙ none_for from to xs none.1

from_another : (from : ℕ) → (no_table_from from).item.table.from ≡ from → ⊥
from_another from e = go (eqb from 1) refl e
  where
    go : (b : Bool) → eqb from 1 ≡ b → cond b 2 1 ≡ from → ⊥
    go true h e = let z : from ≡ 1 = eqb-true from 1 h in omega arith
    go false h e = never (sym (eq-eqb from 1 (sym e)) ∙ h)

none_sound : (from : ℕ) → lent_sound (no_table_from from) ≡ true
unfolding table_sound levels_sound rows_sound typed
none_sound from = go (eqb from 1)
  where
    go : (b : Bool) → lent_sound (record { item = record { table = record { from = cond b 2 1; to = 1; pairs = 0; count = 0 }; levels = (no_table_from from).item.levels }; rows = [] }) ≡ true
    go true = refl
    go false = refl

first_sound : (from to : ℕ) (xs : List LentTable) → all_tables_sound xs ≡ true → lent_sound (first_table from to xs) ≡ true
first_sound from to [] e = none_sound from
first_sound from to (x ∷ xs) e = go (is_for from to x) (first_sound from to xs (and_right (lent_sound x) (all_tables_sound xs) e))
  where
    go : (b : Bool) → lent_sound (first_table from to xs) ≡ true → lent_sound (cond b x (first_table from to xs)) ≡ true
    go true ih = and_left (lent_sound x) (all_tables_sound xs) e
    go false ih = ih

pub first_table_lem : FirstTable
first_table_lem = record { first = first_for; missing = none_for; other = from_another; sound = first_sound }

whole_parts : (xs : List LentTable) → Counted xs → tables_from (items_of xs) (numbers_of xs) ≡ xs
whole_parts [] c = refl
whole_parts (x ∷ xs) c =
    ap (λ (z : List ℕ). record { item = x.item; rows = z } ∷ tables_from (items_of xs) (drop (share x.item) (x.rows ++ numbers_of xs))) (take_at x.rows (numbers_of xs) (share x.item) c.0)
    ∙ ap (λ (z : List ℕ). x ∷ tables_from (items_of xs) z) (drop_at x.rows (numbers_of xs) (share x.item) c.0)
    ∙ ap (λ (z : List LentTable). x ∷ z) (whole_parts xs c.1)

none_over : (xs : List LentTable) (over : List ℕ) → Counted xs → left_over (items_of xs) (numbers_of xs ++ over) ≡ over
none_over [] over c = refl
none_over (x ∷ xs) over c =
    ap (λ (z : List ℕ). left_over (items_of xs) (drop (share x.item) z)) (append_assoc x.rows (numbers_of xs) over)
    ∙ ap (left_over (items_of xs)) (drop_at x.rows (numbers_of xs ++ over) (share x.item) c.0)
    ∙ none_over xs over c.1

pub one_list : OneList
one_list = record { parts = whole_parts; rest = none_over }
