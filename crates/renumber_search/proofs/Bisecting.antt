-- The theorem of `specs/Theorems.antt` on the search among rows, and what its loop reads.
use mathlib.Core.Path.{◌≡◌, refl, sym, ap}
use mathlib.Core.Bool.{Bool, true, false, cond, ◌&&◌, and-false}
use mathlib.Core.List.{List, [], ◌∷◌}
use Prim.Native.Nat.{ℕ, zero, suc, ◌+◌, ◌*◌, ◌/◌, ◌≤◌, ◌<◌}
use native.Mathlib.Omega.{arith}
use lib.Dec.{leb, ltb}
use lib.ListN.{length, get_or}
use borrow.Author.Tests.{lt-ltb, le-ltb, le-leb, lt-leb, leb-true, ltb-true, ltb-false}
use Rattle.label.proofs.Bools.{and_left, and_right}
use Rattle.lists_search.proofs.Halves.{halved_done}
use Rattle.lists_search.proofs.Theorems.{parts, searches}
use Rattle.table.specs.declared.Row.{Row}
use Rattle.table.specs.Table.{rows_from, rising}
use Rattle.table.proofs.Lent.{row_read}
use Rattle.table.proofs.Rows.{good}
use Rattle.renumber_search.specs.Search.{end_of, halves, bisect}
use Rattle.renumber_search.specs.Theorems.{Skips, Bisecting}

-- a row's end where it lies
pub end_read : (xs : List ℕ) (i : ℕ) → i < length xs / 3 → end_of (rows_from xs) i ≡ get_or xs (i * 3 + 1) 0
end_read xs i h = ap (λ (r : Row). r.high) (row_read xs i h)

-- rows that rise end one after the other
ends_above : (f : ℕ) (rs : List Row) (j : ℕ) → rising f rs ≡ true → j < length rs → f ≤ end_of rs j
ends_above f [] j e h = absurd (omega arith)
ends_above f (r ∷ rs) zero e h = let g = good f r rs e in omega (arith, g.floor, g.ordered)
ends_above f (r ∷ rs) (suc j) e h = let g = good f r rs e in omega (arith, g.floor, g.ordered, ends_above (r.high + 1) rs j g.rest (omega arith))

ends_rise : (f : ℕ) (rs : List Row) (i j : ℕ) → rising f rs ≡ true → i ≤ j → j < length rs → end_of rs i ≤ end_of rs j
ends_rise f [] i j e l h = absurd (omega arith)
ends_rise f (r ∷ rs) zero zero e l h = omega arith
ends_rise f (r ∷ rs) zero (suc j) e l h = omega (arith, ends_above (r.high + 1) rs j (good f r rs e).rest (omega arith))
ends_rise f (r ∷ rs) (suc i) zero e l h = absurd (omega arith)
ends_rise f (r ∷ rs) (suc i) (suc j) e l h = ends_rise (r.high + 1) rs i j (good f r rs e).rest (omega arith) (omega arith)

halves_skip : (f : ℕ) (rs : List Row) (from c : ℕ) → rising f rs ≡ true → Skips rs from c (halves rs from c)
halves_skip f rs from c e =
    let p = parts (λ i. ltb (end_of rs i) c) from (length rs) (λ i j l h t. lt-ltb (end_of rs i) c (omega (arith, ends_rise f rs i j e l h, ltb-true (end_of rs j) c t))) (length rs) (omega arith) in
    record { onward = p.onward; inside = p.inside; before = λ j a b. ltb-true (end_of rs j) c (p.before j a b); there = λ h. ltb-false (end_of rs (halves rs from c)) c (p.there h) }

-- the row at hand is there, and ends at c or after it
at_hand : (rs : List Row) (from c : ℕ) → (ltb from (length rs) && leb c (end_of rs from)) ≡ true → (from < length rs) × (c ≤ end_of rs from)
at_hand rs from c t = (ltb-true _ _ (and_left (ltb from (length rs)) _ t), leb-true _ _ (and_right (ltb from (length rs)) _ t))

pub bisect_skips : (f : ℕ) (rs : List Row) (from c : ℕ) → rising f rs ≡ true → Skips rs from c (bisect rs from c)
unfolding bisect
bisect_skips f rs from c e = go (ltb from (length rs) && leb c (end_of rs from)) refl
  where
    go : (t : Bool) → (ltb from (length rs) && leb c (end_of rs from)) ≡ t → Skips rs from c (cond t from (halves rs from c))
    go true t = let h = at_hand rs from c t in record { onward = omega arith; inside = λ l. l; before = λ j a b. absurd (omega arith); there = λ l. h.1 }
    go false t = halves_skip f rs from c e

skips_only : (rs : List Row) (from c r s : ℕ) → from ≤ length rs → Skips rs from c r → Skips rs from c s → r ≡ s
skips_only rs from c r s h p q = ends (no_later r s p q) (no_later s r q p)
  where
    no_later : (r s : ℕ) → Skips rs from c r → Skips rs from c s → r < s → ⊥
    no_later r s p q l = omega (arith, q.before r p.onward l, p.there (omega (arith, q.inside h)))

    ends : {a b : ℕ} → (a < b → ⊥) → (b < a → ⊥) → a ≡ b
    ends u v = omega arith

pub bisecting : Bisecting
bisecting = record { skips = bisect_skips; only = skips_only }

-- The search answers a place at or behind that where it began, and none past the last row.
pub bisect_on : (rs : List Row) (from c : ℕ) → from ≤ length rs → (from ≤ bisect rs from c) × (bisect rs from c ≤ length rs)
unfolding bisect
bisect_on rs from c h = go (ltb from (length rs) && leb c (end_of rs from))
  where
    go : (t : Bool) → (from ≤ cond t from (halves rs from c)) × (cond t from (halves rs from c) ≤ length rs)
    go true = (omega arith, h)
    go false = searches.between (length rs) (λ i. ltb (end_of rs i) c) from (length rs) h

-- The ways of the search.
module _ (rs : List Row) (from c : ℕ) where
  pub bisect_here : from < length rs → c ≤ end_of rs from → from ≡ bisect rs from c
  unfolding bisect
  bisect_here h l = sym (rw (lt-ltb from (length rs) h, le-leb c (end_of rs from) l))

  pub bisect_before : end_of rs from < c → halves rs from c ≡ bisect rs from c
  unfolding bisect
  bisect_before l = sym (rw (lt-leb c (end_of rs from) l, and-false (ltb from (length rs))))

  pub bisect_past : length rs ≤ from → from ≡ bisect rs from c
  unfolding bisect
  bisect_past h = sym (rw (le-ltb from (length rs) h) (halved_done (length rs) (λ i. ltb (end_of rs i) c) from (length rs) h))
