-- Laws of writing over a list: the ten octets before the categories, and the whole option.
use Prim.Native.Nat.{ℕ, zero, suc, ◌+◌, ◌-◌, ◌≤◌}
use mathlib.Core.Path.{◌≡◌, refl, sym, ap, ◌∙◌}
use mathlib.Core.List.{List, [], ◌∷◌, ◌++◌, append-nil, append_assoc}
use native.Mathlib.Omega.{arith}
use lib.ListN.{length, set, take, drop, replicate, length-drop, drop_of_length-le, take-append-drop}
use lib.Seq.{drop-drop, drop_at, drop-append-le, length-take-le}
use Rattle.lists.proofs.Laws.{tail_is, Back, back_zeroed}
use Rattle.label.specs.declared.Run.{Run}
use Rattle.option.specs.Spelling.{body_for, option_of, padded}
use Rattle.option_write.specs.Stages.{head_of}

pub head_set : (o : List ℕ) (a b c d e f g h i j : ℕ) → 10 ≤ length o → set (set (set (set (set (set (set (set (set (set o 0 a) 1 b) 2 c) 3 d) 4 e) 5 f) 6 g) 7 h) 8 i) 9 j ≡ a ∷ b ∷ c ∷ d ∷ e ∷ f ∷ g ∷ h ∷ i ∷ j ∷ drop 10 o
head_set [] a b c d e f g h i j l = absurd (omega arith)
head_set (x0 ∷ []) a b c d e f g h i j l = absurd (omega arith)
head_set (x0 ∷ x1 ∷ []) a b c d e f g h i j l = absurd (omega arith)
head_set (x0 ∷ x1 ∷ x2 ∷ []) a b c d e f g h i j l = absurd (omega arith)
head_set (x0 ∷ x1 ∷ x2 ∷ x3 ∷ []) a b c d e f g h i j l = absurd (omega arith)
head_set (x0 ∷ x1 ∷ x2 ∷ x3 ∷ x4 ∷ []) a b c d e f g h i j l = absurd (omega arith)
head_set (x0 ∷ x1 ∷ x2 ∷ x3 ∷ x4 ∷ x5 ∷ []) a b c d e f g h i j l = absurd (omega arith)
head_set (x0 ∷ x1 ∷ x2 ∷ x3 ∷ x4 ∷ x5 ∷ x6 ∷ []) a b c d e f g h i j l = absurd (omega arith)
head_set (x0 ∷ x1 ∷ x2 ∷ x3 ∷ x4 ∷ x5 ∷ x6 ∷ x7 ∷ []) a b c d e f g h i j l = absurd (omega arith)
head_set (x0 ∷ x1 ∷ x2 ∷ x3 ∷ x4 ∷ x5 ∷ x6 ∷ x7 ∷ x8 ∷ []) a b c d e f g h i j l = absurd (omega arith)
head_set (x0 ∷ x1 ∷ x2 ∷ x3 ∷ x4 ∷ x5 ∷ x6 ∷ x7 ∷ x8 ∷ x9 ∷ o) a b c d e f g h i j l = refl

module _ (O W : List ℕ) (long : 40 ≤ length O) where
  -- the output with the part from octet 10 on put back
  abbrev pub Put : List ℕ
  Put = take 10 O ++ (W ++ drop (length O - 10) (drop 10 O))

  put_tail : drop 10 Put ≡ W
  put_tail =
      drop_at (take 10 O) (W ++ drop (length O - 10) (drop 10 O)) 10 (length-take-le 10 O (omega arith))
      ∙ ap (λ (z : List ℕ). W ++ z) (drop_of_length-le (drop 10 O) {i = length O - 10} (omega (arith, length-drop 10 O)))
      ∙ append-nil W

module _ (d v t n : ℕ) (rs : List Run) (O W H : List ℕ) (long : 40 ≤ length O) (len : length (body_for t n rs) ≡ n)
    (w : W ≡ body_for t n rs ++ drop n (take (length O - 10) (drop 10 O)))
    (h : H ≡ head_of d v t n ++ drop 10 (Put O W long)) where
  -- the option is written
  pub option_written : H ≡ option_of d v t (body_for t n rs) ++ drop (10 + n) O
  option_written =
      h
      ∙ ap (λ (x : List ℕ). head_of d v t n ++ x) (put_tail O W long ∙ w ∙ ap (λ (x : List ℕ). body_for t n rs ++ drop n x) (tail_is O 10) ∙ ap (λ (x : List ℕ). body_for t n rs ++ x) (drop-drop n 10 O))
      ∙ (λ i. head_of d v t (sym len i) ++ (body_for t n rs ++ drop (10 + n) O))

-- Octets 10 to 39 were zeroed before the option was written.

drop_zeros : (n m : ℕ) → n ≤ m → drop {A = ℕ} n (replicate m 0) ≡ replicate (m - n) 0
drop_zeros zero m h = let e : m ≡ m - 0 = omega arith in ap (λ (k : ℕ). replicate {A = ℕ} k 0) e
drop_zeros (suc n) zero h = absurd (omega arith)
drop_zeros (suc n) (suc m) h = let e : m - n ≡ suc m - suc n = omega arith in drop_zeros n m (omega arith) ∙ ap (λ (k : ℕ). replicate {A = ℕ} k 0) e

module _ (O z : List ℕ) (long : 40 ≤ length O) (e : z ≡ replicate (length (take (40 - 10) (drop 10 O))) 0) where
  zeroed : Back 10 40 O z ≡ take 10 O ++ (replicate 30 0 ++ drop 40 O)
  zeroed = back_zeroed 10 40 O z (take 10 O) O (sym (length-take-le 10 O (omega arith))) (omega arith) long (sym (take-append-drop 10 O)) e

  zeros_left : (n : ℕ) → n ≤ 30 → drop (10 + n) (Back 10 40 O z) ≡ replicate (30 - n) 0 ++ drop 40 O
  zeros_left n h =
      ap (drop (10 + n)) zeroed
      ∙ sym (drop-drop n 10 (take 10 O ++ (replicate 30 0 ++ drop 40 O)))
      ∙ ap (drop n) (drop_at (take 10 O) (replicate 30 0 ++ drop 40 O) 10 (length-take-le 10 O (omega arith)))
      ∙ drop-append-le n (replicate 30 0) (drop 40 O) h
      ∙ ap (λ (x : List ℕ). x ++ drop 40 O) (drop_zeros n 30 h)

  -- the option and zeros
  pub option_laid : (n : ℕ) → n ≤ 30 → (s H : List ℕ) → 10 + n ≡ length s → H ≡ s ++ drop (10 + n) (Back 10 40 O z) → H ≡ padded s ++ drop 40 O
  option_laid n h s H m w =
      let k : 30 - n ≡ 40 - length s = omega arith in
      w
      ∙ ap (λ (x : List ℕ). s ++ x) (zeros_left n h)
      ∙ ap (λ (j : ℕ). s ++ (replicate j 0 ++ drop 40 O)) k
      ∙ sym (append_assoc s (replicate (40 - length s) 0) (drop 40 O))
