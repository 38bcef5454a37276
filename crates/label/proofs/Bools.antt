-- Laws of tests: what a conjunction, a disjunction or a test at every number says.
use mathlib.Core.Path.{◌≡◌, refl, sym, ◌∙◌, ap}
use mathlib.Core.Bool.{Bool, true, false, not, ◌&&◌, ◌||◌}
use mathlib.Core.Logic.{◌⊎◌, inl, inr, ⊎_elim}
use Prim.Native.Nat.{ℕ, zero, suc, ◌≤◌, ◌<◌}
use native.Mathlib.Omega.{arith}
use lib.Dec.{leb}
use borrow.Author.Tests.{le-leb, leb-true, leb-false}
use Rattle.label.specs.Runs.{all_below}

pub never : true ≡ false → ⊥
never e = let z : ◌≡◌ {A = ℕ} 0 1 = cc in omega arith

pub and_left : (a b : Bool) → (a && b) ≡ true → a ≡ true
and_left true b e = refl
and_left false b e = e

pub and_right : (a b : Bool) → (a && b) ≡ true → b ≡ true
and_right true b e = e
and_right false b e = absurd (never (sym e))

pub and_both : {a b : Bool} → a ≡ true → b ≡ true → (a && b) ≡ true
and_both e f = rw (e, f)

pub not_yes : (b : Bool) → (b ≡ true → ⊥) → b ≡ false
not_yes true h = absurd (h refl)
not_yes false h = refl

pub or_cases : (a b : Bool) → (a || b) ≡ true → (a ≡ true) ⊎ (b ≡ true)
or_cases true b e = inl refl
or_cases false b e = inr e

pub or_none : (a b : Bool) → (a || b) ≡ false → (a ≡ false) × (b ≡ false)
or_none false b e = (refl, e)
or_none true b e = absurd (never e)

pub or_true_right : (a : Bool) {b : Bool} → b ≡ true → (a || b) ≡ true
or_true_right true e = refl
or_true_right false e = e

-- two tests that pass together are one
pub same_yes : (a b : Bool) → (a ≡ true → b ≡ true) → (b ≡ true → a ≡ true) → a ≡ b
same_yes true b h k = sym (h refl)
same_yes false true h k = k refl
same_yes false false h k = refl

pub less_or : (a b : ℕ) → (a < b) ⊎ (b ≤ a)
less_or a b = go (leb b a) refl
  where
    go : (t : Bool) → leb b a ≡ t → (a < b) ⊎ (b ≤ a)
    go true p = inr (leb-true _ _ p)
    go false p = inl (leb-false _ _ p)

-- two comparisons that pass together are one
pub same_leb : (a b c d : ℕ) → (a ≤ b → c ≤ d) → (c ≤ d → a ≤ b) → leb a b ≡ leb c d
same_leb a b c d h k = same_yes (leb a b) (leb c d) (λ e. le-leb c d (h (leb-true a b e))) (λ e. le-leb a b (k (leb-true c d e)))

pub all_below_lem : (n : ℕ) (p : ℕ → Bool) → all_below n p ≡ true → (c : ℕ) → c < n → p c ≡ true
unfolding all_below
all_below_lem zero p e c h = absurd (omega arith)
all_below_lem (suc n) p e c h =
    ⊎_elim (λ w. all_below_lem n p (and_right (p n) _ e) c w) (λ w. ap p (omega arith) ∙ and_left (p n) _ e) (less_or c n)

pub below_all : (n : ℕ) (p : ℕ → Bool) → ((c : ℕ) → c < n → p c ≡ true) → all_below n p ≡ true
unfolding all_below
below_all zero p h = refl
below_all (suc n) p h = rw (h n (omega arith)) (below_all n p (λ c l. h c (omega arith)))

pub implies_yes : (a b : Bool) → (not a || b) ≡ true → a ≡ true → b ≡ true
implies_yes true b e h = e
implies_yes false b e h = absurd (never (sym h))

pub yes_implies : (a b : Bool) → (a ≡ true → b ≡ true) → (not a || b) ≡ true
yes_implies true b h = h refl
yes_implies false b h = refl

-- a conjunction told from the left
pub and_chain : (g a b c : Bool) → (g && (a && (b && c))) ≡ (((g && a) && b) && c)
and_chain false a b c = refl
and_chain true false b c = refl
and_chain true true false c = refl
and_chain true true true c = refl
