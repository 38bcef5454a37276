-- How many categories spaced runs have: the sum over the runs is the number of categories that they cover.
use Prim.Native.Nat.{ℕ, zero, suc, ◌+◌, ◌-◌, ◌≤◌}
use mathlib.Core.Path.{◌≡◌, refl, sym, ◌∙◌}
use mathlib.Core.List.{List, [], ◌∷◌}
use mathlib.Core.Bool.{Bool, true, false, cond, ◌||◌, and-false, true≢false}
use native.Mathlib.Omega.{arith}
use native.Mathlib.Decide.{dec_le}
use borrow.Author.Tests.{le-leb, lt-leb}
use Rattle.label.specs.declared.Run.{Run}
use Rattle.label.specs.Runs.{in_run, covers, count_below, count_of}
use Rattle.label.proofs.Canon.{Canon, Below, clear}

pub count_none : (n : ℕ) → count_below n (λ c. false) ≡ 0
unfolding count_below
count_none zero = refl
count_none (suc n) = omega (arith, count_none n)

-- tests that never pass together: the counts add up
pub count_or : (n : ℕ) (p q : ℕ → Bool) → ((c : ℕ) → p c ≡ true → q c ≡ false) → count_below n (λ c. p c || q c) ≡ count_below n p + count_below n q
unfolding count_below
count_or zero p q h = refl
count_or (suc n) p q h = go (p n) refl (q n) refl (count_or n p q h)
  where
    go : (a : Bool) → p n ≡ a → (b : Bool) → q n ≡ b → count_below n (λ c. p c || q c) ≡ count_below n p + count_below n q
        → cond (a || b) 1 0 + count_below n (λ c. p c || q c) ≡ cond a 1 0 + count_below n p + (cond b 1 0 + count_below n q)
    go true e true f ih = absurd (true≢false (sym f ∙ h n e))
    go true e false f ih = omega arith
    go false e true f ih = omega arith
    go false e false f ih = omega arith

-- one run
pub count_run : (n : ℕ) (r : Run) → r.low ≤ r.high
    → (n ≤ r.low → count_below n (in_run r) ≡ 0)
    × (r.low ≤ n → n ≤ r.high + 1 → count_below n (in_run r) ≡ n - r.low)
    × (r.high + 1 ≤ n → count_below n (in_run r) ≡ r.high + 1 - r.low)
unfolding count_below
count_run zero r h = (λ a. refl, λ a b. omega arith, λ a. absurd (omega arith))
count_run (suc n) r h =
    let ih = count_run n r h in (
      λ a. rw (lt-leb r.low n (omega arith)) (omega (arith, ih.0 (omega arith))),
      λ a b.
          elim (dec_le r.low n) [
            | yes u ↦ rw (le-leb r.low n u, le-leb n r.high (omega arith)) (omega (arith, ih.1 u (omega arith)))
            | no u ↦ rw (lt-leb r.low n (omega arith)) (omega (arith, ih.0 (omega arith)))
          ],
      λ a.
          elim (dec_le n r.high) [
            | yes u ↦
                rw (le-leb r.low n (omega arith), le-leb n r.high u)
                (omega (arith, ih.1 (omega arith) (omega arith)))
            | no u ↦ rw (lt-leb n r.high (omega arith), and-false) (omega (arith, ih.2 (omega arith)))
          ],
    )

pub count_is : (n lo : ℕ) (rs : List Run) → Canon lo rs → Below n rs → count_below n (covers rs) ≡ count_of rs
count_is n lo [] k b = count_none n
count_is n lo (r ∷ rs) k b =
    count_or n (in_run r) (covers rs) apart
    ∙ rw ((count_run n r k.1).2 (omega (arith, b.0)), count_is n (r.high + 2) rs k.2 b.1)
  where
    apart : (c : ℕ) → in_run r c ≡ true → covers rs c ≡ false
    apart c e = elim (dec_le c r.high) [ yes u ↦ clear (r.high + 2) rs c k.2 (omega arith) | no u ↦ absurd (true≢false (sym e ∙ simp (lt-leb c r.high (omega arith), and-false))) ]

pub count_same : (n : ℕ) (p q : ℕ → Bool) → ((c : ℕ) → p c ≡ q c) → count_below n p ≡ count_below n q
unfolding count_below
count_same zero p q h = refl
count_same (suc n) p q h = rw (h n, count_same n p q h)
