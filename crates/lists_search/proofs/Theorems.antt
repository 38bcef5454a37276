-- The theorems of `specs/Theorems.antt`.
use mathlib.Core.Path.{◌≡◌, refl, sym, ◌∙◌}
use mathlib.Core.Bool.{Bool, true, false, true≢false}
use Prim.Native.Nat.{ℕ, zero, suc, ◌+◌, ◌-◌, ◌/◌, ◌≤◌, ◌<◌}
use native.Mathlib.Omega.{arith}
use native.Mathlib.Decide.{dec_le}
use Rattle.lists_search.specs.Halves.{halved}
use Rattle.lists_search.specs.Theorems.{Parts, Once, Searches}
use Rattle.lists_search.proofs.Halves.{halved_none, halved_done, halved_up, halved_down}

module _ (past : ℕ → Bool) where
  pub between : (n low high : ℕ) → low ≤ high → (low ≤ halved n past low high) × (halved n past low high ≤ high)
  between zero low high l = rw (halved_none past low high) (omega arith, l)
  between (suc n) low high l =
      elim (dec_le high low) [
        | yes u ↦ rw (halved_done (suc n) past low high u) (omega arith, l)
        | no u ↦ go (past (low + (high - low) / 2)) refl (between n low (low + (high - low) / 2) (omega arith)) (between n (low + (high - low) / 2 + 1) high (omega arith)) (omega arith)
      ]
    where
      go : (b : Bool) → past (low + (high - low) / 2) ≡ b
          → (low ≤ halved n past low (low + (high - low) / 2)) × (halved n past low (low + (high - low) / 2) ≤ low + (high - low) / 2)
          → (low + (high - low) / 2 + 1 ≤ halved n past (low + (high - low) / 2 + 1) high) × (halved n past (low + (high - low) / 2 + 1) high ≤ high)
          → low < high → (low ≤ halved (suc n) past low high) × (halved (suc n) past low high ≤ high)
      go true e d i h = rw (halved_up n past low high h e) (omega (arith, i.0), i.1)
      go false e d i h = rw (halved_down n past low high h e) (d.0, omega (arith, d.1))

  -- What lies before `low` is passed, and at `high`, if it is a place of the search, the test says no.
  module _ (from to : ℕ) (once : Once past to) where
    none_between : (n low high : ℕ) → high ≤ low → from ≤ low → low ≤ high → high ≤ to → ((j : ℕ) → from ≤ j → j < low → past j ≡ true) → (high < to → past high ≡ false)
        → Parts past from to (halved n past low high)
    none_between n low high u a l h b t =
        let q : high ≡ low = omega arith in
        rw (halved_done n past low high u) (record { onward = a; inside = λ v. omega arith; before = b; there = rw q at t })

    halved_parts : (n low high : ℕ) → high - low ≤ n → from ≤ low → low ≤ high → high ≤ to → ((j : ℕ) → from ≤ j → j < low → past j ≡ true) → (high < to → past high ≡ false)
        → Parts past from to (halved n past low high)
    halved_parts zero low high k a l h b t = none_between zero low high (omega arith) a l h b t
    halved_parts (suc n) low high k a l h b t =
        elim (dec_le high low) [
          | yes u ↦ none_between (suc n) low high u a l h b t
          | no u ↦ go (past (low + (high - low) / 2)) refl (omega arith)
              (λ e. halved_parts n low (low + (high - low) / 2) (omega arith) a (omega arith) (omega arith) b (λ z. e))
              (λ e. halved_parts n (low + (high - low) / 2 + 1) high (omega arith) (omega arith) (omega arith) h (λ j p q. once j (low + (high - low) / 2) (omega arith) (omega arith) e) t)
        ]
      where
        go : (v : Bool) → past (low + (high - low) / 2) ≡ v → low < high
            → (past (low + (high - low) / 2) ≡ false → Parts past from to (halved n past low (low + (high - low) / 2)))
            → (past (low + (high - low) / 2) ≡ true → Parts past from to (halved n past (low + (high - low) / 2 + 1) high))
            → Parts past from to (halved (suc n) past low high)
        go true e g d i = rw (halved_up n past low high g e) (i e)
        go false e g d i = rw (halved_down n past low high g e) (d e)

    pub parts : (n : ℕ) → to - from ≤ n → Parts past from to (halved n past from to)
    parts n k =
        elim (dec_le from to) [
          | yes u ↦ halved_parts n from to k (omega arith) u (omega arith) (λ j p q. absurd (omega arith)) (λ v. absurd (omega arith))
          | no u ↦ rw (halved_done n past from to (omega arith)) (record { onward = omega arith; inside = λ v. absurd (omega arith); before = λ j p q. absurd (omega arith); there = λ v. absurd (omega arith) })
        ]

-- no other place is so
no_later : (past : ℕ → Bool) (low high r s : ℕ) → low ≤ high → Parts past low high r → Parts past low high s → r < s → ⊥
no_later past low high r s h p q l = true≢false (sym (q.before r p.onward l) ∙ p.there (omega (arith, q.inside h)))

only : (past : ℕ → Bool) (low high r s : ℕ) → low ≤ high → Parts past low high r → Parts past low high s → r ≡ s
only past low high r s h p q = ends (no_later past low high r s h p q) (no_later past low high s r h q p)
  where
    ends : {a b : ℕ} → (a < b → ⊥) → (b < a → ⊥) → a ≡ b
    ends u v = omega arith

pub searches : Searches
searches = record { between = λ n past low high h. between past n low high h; parts = λ n past low high o k. parts past low high o n k; only = only }
