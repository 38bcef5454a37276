-- Laws of lent rows: a list of numbers, three to a row.
use mathlib.Core.Path.{◌≡◌, refl, ◌∙◌, ap}
use mathlib.Core.Bool.{Bool, true, false, ◌&&◌}
use mathlib.Core.List.{List, [], ◌∷◌}
use Prim.Native.Nat.{ℕ, zero, suc, ◌+◌, ◌*◌, ◌/◌, ◌≤◌, ◌<◌}
use native.Mathlib.Omega.{arith}
use lib.Dec.{leb}
use borrow.Author.Tests.{lt-leb, le-leb, eq-eqb, ne_eqb}
use lib.ListN.{length, get_or, get_or-eq_default}
use Rattle.table.specs.declared.Row.{Row}
use Rattle.table.specs.Table.{row, no_row, rows_from, row_numbers, rising, targets_apart, row_list_sound}

pub rows_length : (xs : List ℕ) → length (rows_from xs) ≡ length xs / 3
rows_length [] = refl
rows_length (a ∷ []) = refl
rows_length (a ∷ b ∷ []) = refl
rows_length (a ∷ b ∷ c ∷ xs) = let e : length (rows_from xs) ≡ length xs / 3 = rows_length xs in omega arith

-- as many as counted
pub rows_counted : (xs : List ℕ) (n : ℕ) → length xs ≡ n * 3 → length (rows_from xs) ≡ n
rows_counted xs n h = let e : length (rows_from xs) ≡ length xs / 3 = rows_length xs in omega arith

-- the row at a place, and past the end
pub row_read : (xs : List ℕ) (i : ℕ) → i < length xs / 3 → get_or (rows_from xs) i no_row ≡ row (get_or xs (i * 3) 0) (get_or xs (i * 3 + 1) 0) (get_or xs (i * 3 + 2) 0)
row_read [] i h = absurd (omega arith)
row_read (a ∷ []) i h = absurd (omega arith)
row_read (a ∷ b ∷ []) i h = absurd (omega arith)
row_read (a ∷ b ∷ c ∷ xs) zero h = refl
row_read (a ∷ b ∷ c ∷ xs) (suc i) h =
    let e : suc (suc (suc (i * 3))) ≡ suc i * 3 = omega arith in
    let f : suc (suc (suc (i * 3 + 1))) ≡ suc i * 3 + 1 = omega arith in
    let g : suc (suc (suc (i * 3 + 2))) ≡ suc i * 3 + 2 = omega arith in
    let ys : List ℕ = a ∷ b ∷ c ∷ xs in
    row_read xs i (omega arith) ∙ (λ j. row (get_or ys (e j) 0) (get_or ys (f j) 0) (get_or ys (g j) 0))

pub row_past : (xs : List ℕ) (i : ℕ) → length xs / 3 ≤ i → get_or (rows_from xs) i no_row ≡ no_row
row_past xs i h = let e : length (rows_from xs) ≡ length xs / 3 = rows_length xs in get_or-eq_default (rows_from xs) no_row {n = i} (omega arith)

-- Rows as numbers, and back.
pub numbers_length : (rs : List Row) → length (row_numbers rs) ≡ length rs * 3
numbers_length [] = refl
numbers_length (r ∷ rs) = omega (arith, numbers_length rs)

pub numbers_rows : (rs : List Row) → rows_from (row_numbers rs) ≡ rs
numbers_rows [] = refl
numbers_rows (r ∷ rs) = ap (λ (z : List Row). r ∷ z) (numbers_rows rs)

pub rows_numbers : (xs : List ℕ) (n : ℕ) → length xs ≡ n * 3 → row_numbers (rows_from xs) ≡ xs
rows_numbers [] n h = refl
rows_numbers (a ∷ []) n h = absurd (omega arith)
rows_numbers (a ∷ b ∷ []) n h = absurd (omega arith)
rows_numbers (a ∷ b ∷ c ∷ xs) zero h = absurd (omega arith)
rows_numbers (a ∷ b ∷ c ∷ xs) (suc n) h = ap (λ (z : List ℕ). a ∷ b ∷ c ∷ z) (rows_numbers xs n (omega arith))

-- Rows by themselves: too many, no whole ones, and else.
module _ (xs : List ℕ) where
  pub list_long : 1024 < length xs / 3 → false ≡ row_list_sound xs
  unfolding row_list_sound
  list_long h = let e : length (rows_from xs) ≡ length xs / 3 = rows_length xs in
      let l : 1024 < length (rows_from xs) = omega arith in
      rw (lt-leb _ _ l)

  pub list_part : (length xs ≡ length xs / 3 * 3 → ⊥) → false ≡ row_list_sound xs
  unfolding row_list_sound
  list_part h = rw (rows_length xs, ne_eqb (length xs) (length xs / 3 * 3) h) (go (leb (length xs / 3) 1024))
    where
      go : (b : Bool) → false ≡ (b && false)
      go true = refl
      go false = refl

  pub list_whole : (r : Bool) → length xs / 3 ≤ 1024 → length xs ≡ length xs / 3 * 3 → r ≡ (rising 0 (rows_from xs) && targets_apart (rows_from xs)) → r ≡ row_list_sound xs
  unfolding row_list_sound
  list_whole r h e q = rw (rows_length xs, le-leb (length xs / 3) 1024 h, eq-eqb (length xs) (length xs / 3 * 3) e) q
