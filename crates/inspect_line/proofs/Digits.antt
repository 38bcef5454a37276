-- Decimal numbers tell numbers apart, and those below 100 have at most two digits.
use Prim.Native.Nat.{ℕ, zero, suc, ◌+◌, ◌-◌, ◌*◌, ◌/◌, ◌%◌, ◌^◌, ◌≤◌, ◌<◌}
use mathlib.Core.Path.{◌≡◌, refl, sym, ap, ◌∙◌}
use mathlib.Core.Bool.{Bool, true, false, cond}
use mathlib.Core.List.{List, [], ◌∷◌, ◌++◌}
use native.Mathlib.Omega.{arith}
use native.Mathlib.Nat.{pow-suc}
use borrow.Author.Tests.{eqb-true}
use lib.Dec.{eqb}
use lib.ListN.{length, drop, length-append}
use Rattle.text.specs.Text.{leading, decimal}
use Rattle.text.proofs.Laws.{leading_zero}
use Rattle.inspect_line.specs.Lines.{differs_line}
use Rattle.inspect_line.specs.Theorems.{Apart}

-- the number that digits say, behind one that was read
abbrev number_of : ℕ → List ℕ → ℕ
number_of n [] = n
number_of n (d ∷ ds) = number_of (n * 10 + (d - 48)) ds

number_snoc : (n : ℕ) (ds : List ℕ) (d : ℕ) → number_of n (ds ++ (d ∷ [])) ≡ number_of n ds * 10 + (d - 48)
number_snoc n [] d = refl
number_snoc n (x ∷ ds) d = number_snoc (n * 10 + (x - 48)) ds d

leading_says : (most x : ℕ) → x < 10 ^ most → number_of 0 (leading most x) ≡ x
unfolding leading
leading_says zero x h = omega arith
leading_says (suc most) x h =
    let tenth : x / 10 < 10 ^ most = omega (arith, pow-suc 10 most) in
    go (eqb x 0) refl (leading_says most (x / 10) tenth)
  where
    go : (b : Bool) → eqb x 0 ≡ b → number_of 0 (leading most (x / 10)) ≡ x / 10 → number_of 0 (cond b [] (leading most (x / 10) ++ ((48 + x % 10) ∷ []))) ≡ x
    go true e q = sym (eqb-true x 0 e)
    go false e q = number_snoc 0 (leading most (x / 10)) (48 + x % 10) ∙ omega arith

decimal_says : (x : ℕ) → x < 10 ^ 20 → number_of 0 (decimal x) ≡ x
unfolding decimal
decimal_says x h =
    let t : x / 10 < 10 ^ 19 = omega (arith, pow-suc 10 19) in
    number_snoc 0 (leading 19 (x / 10)) (48 + x % 10) ∙ omega (arith, leading_says 19 (x / 10) t)

-- behind the word and the blank: the digits, and the line's end
line_says : (k : ℕ) → k < 10 ^ 20 → number_of 0 (drop 8 (differs_line k)) ≡ k * 10
unfolding differs_line
line_says k h = number_snoc 0 (decimal k) 10 ∙ omega (arith, decimal_says k h)

pub apart : Apart
apart j k hj hk e = omega (arith, sym (line_says j hj) ∙ ap (λ (l : List ℕ). number_of 0 (drop 8 l)) e ∙ line_says k hk)

one_digit : (most x : ℕ) → x < 10 → length (leading (suc most) x) ≤ 1
unfolding leading
one_digit most x h = go (eqb x 0)
  where
    none : leading most (x / 10) ≡ []
    none = let z : x / 10 ≡ 0 = omega arith in ap (leading most) z ∙ leading_zero most

    go : (b : Bool) → length (cond b [] (leading most (x / 10) ++ ((48 + x % 10) ∷ []))) ≤ 1
    go true = omega arith
    go false = omega (arith, length-append (leading most (x / 10)) ((48 + x % 10) ∷ []), ap length none)

pub short_line : (k : ℕ) → k < 100 → length (differs_line k) ≤ 11
unfolding differs_line decimal
short_line k h =
    omega (arith, length-append (leading 19 (k / 10) ++ ((48 + k % 10) ∷ [])) (10 ∷ []), length-append (leading 19 (k / 10)) ((48 + k % 10) ∷ []), one_digit 18 (k / 10) (omega arith))
