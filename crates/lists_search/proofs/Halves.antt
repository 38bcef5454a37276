-- Laws of a search by halves: its turns, and the loop that takes them.
use mathlib.Core.Path.{◌≡◌, refl, sym, ◌∙◌, ap}
use mathlib.Core.Bool.{Bool, true, false}
use Prim.Native.Nat.{ℕ, zero, suc, ◌+◌, ◌-◌, ◌/◌, ◌≤◌, ◌<◌}
use native.Mathlib.Omega.{arith}
use native.Mathlib.Decide.{dec_le}
use borrow.Author.Tests.{lt-ltb, le-ltb}
use Rattle.lists_search.specs.Halves.{halved}

pub halved_none : (past : ℕ → Bool) (low high : ℕ) → halved zero past low high ≡ low
unfolding halved
halved_none past low high = refl

pub halved_done : (n : ℕ) (past : ℕ → Bool) (low high : ℕ) → high ≤ low → halved n past low high ≡ low
unfolding halved
halved_done zero past low high h = refl
halved_done (suc n) past low high h = rw (le-ltb low high h)

pub halved_up : (n : ℕ) (past : ℕ → Bool) (low high : ℕ) → low < high → past (low + (high - low) / 2) ≡ true → halved (suc n) past low high ≡ halved n past (low + (high - low) / 2 + 1) high
unfolding halved
halved_up n past low high h l = rw (lt-ltb low high h, l)

pub halved_down : (n : ℕ) (past : ℕ → Bool) (low high : ℕ) → low < high → past (low + (high - low) / 2) ≡ false → halved (suc n) past low high ≡ halved n past low (low + (high - low) / 2)
unfolding halved
halved_down n past low high h l = rw (lt-ltb low high h, l)

-- tests that agree at every place below the upper end come to the same
pub halved_same : (n : ℕ) (p q : ℕ → Bool) (low high : ℕ) → ((i : ℕ) → i < high → p i ≡ q i) → halved n p low high ≡ halved n q low high
halved_same zero p q low high h = halved_none p low high ∙ sym (halved_none q low high)
halved_same (suc n) p q low high h =
    elim (dec_le high low) [
      | yes u ↦ halved_done (suc n) p low high u ∙ sym (halved_done (suc n) q low high u)
      | no u ↦ go (p (low + (high - low) / 2)) refl (omega arith) (h (low + (high - low) / 2) (omega arith))
          (halved_same n p q (low + (high - low) / 2 + 1) high h)
          (halved_same n p q low (low + (high - low) / 2) (λ i l. h i (omega arith)))
    ]
  where
    go : (b : Bool) → p (low + (high - low) / 2) ≡ b → low < high → p (low + (high - low) / 2) ≡ q (low + (high - low) / 2)
        → halved n p (low + (high - low) / 2 + 1) high ≡ halved n q (low + (high - low) / 2 + 1) high
        → halved n p low (low + (high - low) / 2) ≡ halved n q low (low + (high - low) / 2)
        → halved (suc n) p low high ≡ halved (suc n) q low high
    go true e l same up down = halved_up n p low high l e ∙ up ∙ sym (halved_up n q low high l (sym same ∙ e))
    go false e l same up down = halved_down n p low high l e ∙ down ∙ sym (halved_down n q low high l (sym same ∙ e))

-- Where the loop stands: what is left says the same as the whole, and the turns that are left are enough.
pub record Halving (past : ℕ → Bool) (whole top low high : ℕ) : Type 0 where
  pub inside : high ≤ top
  pub turns : ℕ
  pub enough : high - low ≤ turns
  pub same : whole ≡ halved turns past low high

pub halving_start : (past : ℕ → Bool) (n low high top : ℕ) → high ≡ top → top - low ≤ n → Halving past (halved n past low top) top low high
halving_start past n low high top e h = record { inside = omega arith; turns = n; enough = omega arith; same = ap (λ (k : ℕ). halved n past low k) (sym e) }

module _ (past : ℕ → Bool) (whole top low high : ℕ) (h : low < high) where
  pub halving_up : Halving past whole top low high → past (low + (high - low) / 2) ≡ true → Halving past whole top (low + (high - low) / 2 + 1) high
  halving_up s l = go s.turns s.enough s.same
    where
      go : (n : ℕ) → high - low ≤ n → whole ≡ halved n past low high → Halving past whole top (low + (high - low) / 2 + 1) high
      go zero e w = absurd (omega arith)
      go (suc n) e w = record { inside = s.inside; turns = n; enough = omega arith; same = w ∙ halved_up n past low high h l }

  pub halving_down : Halving past whole top low high → past (low + (high - low) / 2) ≡ false → Halving past whole top low (low + (high - low) / 2)
  halving_down s l = go s.turns s.enough s.same
    where
      go : (n : ℕ) → high - low ≤ n → whole ≡ halved n past low high → Halving past whole top low (low + (high - low) / 2)
      go zero e w = absurd (omega arith)
      go (suc n) e w = record { inside = omega (arith, s.inside); turns = n; enough = omega arith; same = w ∙ halved_down n past low high h l }

pub halving_end : (past : ℕ → Bool) (whole top low high : ℕ) → Halving past whole top low high → high ≤ low → low ≡ whole
halving_end past whole top low high s h = sym (s.same ∙ halved_done s.turns past low high h)
