-- The one form as propositions, for inductions: ascending from lo on with a gap between each two. One set has one form.
use Prim.Native.Nat.{ℕ, ◌+◌, ◌≤◌, ◌<◌}
use mathlib.Core.Path.{◌≡◌, refl, sym, ◌∙◌}
use mathlib.Core.List.{List, [], ◌∷◌}
use mathlib.Core.Bool.{Bool, true, false, and-false, true≢false}
use native.Mathlib.Omega.{arith}
use native.Mathlib.Nat.{le_refl}
use native.Mathlib.Decide.{dec_le}
use borrow.Author.Tests.{le-leb, lt-leb}
use Rattle.label.specs.declared.Run.{Run}
use Rattle.label.specs.Runs.{covers}

abbrev pub Canon : ℕ → List Run → Type 0
Canon lo [] = Unit {0}
Canon lo (r ∷ rs) = (lo ≤ r.low) × (r.low ≤ r.high) × Canon (r.high + 2) rs

-- nothing is covered below the first run
pub clear : (lo : ℕ) (xs : List Run) (c : ℕ) → Canon lo xs → c < lo → covers xs c ≡ false
clear lo [] c k h = refl
clear lo (r ∷ rs) c k h = simp (lt-leb r.low c (omega arith), clear (r.high + 2) rs c k.2 (omega arith))

-- One set has one form.

apart : (a b : Bool) → a ≡ true → b ≡ false → a ≡ b → ⊥
apart a b p q e = true≢false (sym p ∙ e ∙ q)

module _ (x y : Run) (xs ys : List Run) (lo lo' : ℕ) (k : Canon lo (x ∷ xs)) (k' : Canon lo' (y ∷ ys)) (same : (c : ℕ) → covers (x ∷ xs) c ≡ covers (y ∷ ys) c) where
  low_le : y.low ≤ x.low
  low_le = elim (dec_le y.low x.low) [ yes u ↦ u | no u ↦ absurd (apart (covers (x ∷ xs) x.low) (covers (y ∷ ys) x.low) at_x (clear y.low (y ∷ ys) x.low (le_refl y.low, k'.1, k'.2) (omega arith)) (same x.low)) ]
    where
      at_x : covers (x ∷ xs) x.low ≡ true
      at_x = simp (le-leb x.low x.low (le_refl x.low), le-leb x.low x.high k.1)

  high_le : x.low ≡ y.low → y.high ≤ x.high
  high_le e = elim (dec_le y.high x.high) [ yes u ↦ u | no u ↦ absurd (apart (covers (y ∷ ys) (x.high + 1)) (covers (x ∷ xs) (x.high + 1)) (simp (le-leb y.low (x.high + 1) (omega arith), le-leb (x.high + 1) y.high (omega arith))) (simp (lt-leb (x.high + 1) x.high (omega arith), and-false, clear (x.high + 2) xs (x.high + 1) k.2 (omega arith))) (sym (same (x.high + 1)))) ]

  tails : x.high ≡ y.high → (c : ℕ) → covers xs c ≡ covers ys c
  tails e c = elim (dec_le (x.high + 2) c) [ yes u ↦ rw (lt-leb c x.high (omega arith), lt-leb c y.high (omega arith), and-false, and-false) at (same c) | no u ↦ clear (x.high + 2) xs c k.2 (omega arith) ∙ sym (clear (y.high + 2) ys c k'.2 (omega arith)) ]

pub unique : (lo lo' : ℕ) (xs ys : List Run) → Canon lo xs → Canon lo' ys → ((c : ℕ) → covers xs c ≡ covers ys c) → xs ≡ ys
unique lo lo' [] [] k k' same = refl
unique lo lo' [] (y ∷ ys) k k' same = absurd (true≢false (sym (simp (le-leb y.low y.low (le_refl y.low), le-leb y.low y.high k'.1) at (same y.low))))
unique lo lo' (x ∷ xs) [] k k' same = absurd (true≢false (simp (le-leb x.low x.low (le_refl x.low), le-leb x.low x.high k.1) at (same x.low)))
unique lo lo' (x ∷ xs) (y ∷ ys) k k' same = let t = unique (x.high + 2) (y.high + 2) xs ys k.2 k'.2 (tails x y xs ys lo lo' k k' same h) in λ i. (record { low = l i; high = h i }) ∷ t i
  where
    back : (c : ℕ) → covers (y ∷ ys) c ≡ covers (x ∷ xs) c
    back c = sym (same c)

    l : x.low ≡ y.low
    l = omega (arith, low_le x y xs ys lo lo' k k' same, low_le y x ys xs lo' lo k' k back)

    h : x.high ≡ y.high
    h = omega (arith, high_le x y xs ys lo lo' k k' same l, high_le y x ys xs lo' lo k' k back (sym l))
