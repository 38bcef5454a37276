-- Laws of level pairs: one more pair, as a loop meets it.
use mathlib.Core.Path.{◌≡◌, refl, sym, ◌∙◌, ap}
use mathlib.Core.Bool.{Bool, true, false, cond, ◌&&◌}
use mathlib.Core.List.{List}
use Prim.Native.Nat.{ℕ, ◌+◌, ◌*◌, ◌-◌, min}
use native.Mathlib.Omega.{arith}
use native.Mathlib.Decide.{dec_le}
use lib.Bits.{bit_or, or_add_and, and_le_l, and_le_r}
use lib.Dec.{eqb}
use lib.ListN.{length, take, drop, length-drop, drop_of_length-le}
use lib.Seq.{take_all}
use borrow.Author.Tests.{eqb-true, eq-eqb}
use Rattle.std.specs.Prelude.{None, Some}
use Rattle.label.proofs.Bools.{and_left, and_right, same_yes, and_both}
use Rattle.table_levels.specs.Levels.{Partner, levels_rise, unused_pairs, levels_sound, level_numbers, pairs_sound, partner_of, sound_partner}

-- No more than all of them are the first n, and none is left.
pub front_same : {A : Type 0} (l : List A) (n k : ℕ) → length l ≡ 256 → k ≡ min n 256 → take k l ≡ take n l
front_same l n k h e = elim (dec_le n 256) [ yes u ↦ (let q : k ≡ n = omega arith in rw q) | no u ↦ (take_all k l (omega arith) ∙ sym (take_all n l (omega arith))) ]

pub back_same : {A : Type 0} (l : List A) (n k : ℕ) → length l ≡ 256 → k ≡ min n 256 → drop k l ≡ drop n l
back_same l n k h e = elim (dec_le n 256) [ yes u ↦ (let q : k ≡ n = omega arith in rw q) | no u ↦ (drop_of_length-le l {i = k} (omega arith) ∙ sym (drop_of_length-le l {i = n} (omega arith))) ]

-- What rises is made of levels, so that the types decide nothing.
sound_both : (a b c p : Bool) → a ≡ true → c ≡ true → p ≡ b → p ≡ ((a && b) && c)
sound_both a b c p e f g = rw (e, f, g) (go b)
  where
    go : (x : Bool) → x ≡ (x && true)
    go true = refl
    go false = refl

-- One pair more is unused.
pub or_zero : (a b : ℕ) → eqb (bit_or a b) 0 ≡ (eqb a 0 && eqb b 0)
or_zero a b =
    same_yes _ _
    (λ e. let z : bit_or a b ≡ 0 = eqb-true _ _ e in
    and_both (eq-eqb a 0 (omega (arith, or_add_and a b, and_le_l a b, and_le_r a b))) (eq-eqb b 0 (omega (arith, or_add_and a b, and_le_l a b, and_le_r a b))))
    (λ e. let x : a ≡ 0 = eqb-true _ _ (and_left (eqb a 0) _ e) in
    let y : b ≡ 0 = eqb-true _ _ (and_right (eqb a 0) _ e) in
    eq-eqb (bit_or a b) 0 (omega (arith, or_add_and a b)))

pair_zero : (a b : ℕ) → eqb (a + b * 256) 0 ≡ (eqb a 0 && eqb b 0)
pair_zero a b =
    same_yes _ _
    (λ e. let z : a + b * 256 ≡ 0 = eqb-true _ _ e in and_both (eq-eqb a 0 (omega arith)) (eq-eqb b 0 (omega arith)))
    (λ e. let x : a ≡ 0 = eqb-true _ _ (and_left (eqb a 0) _ e) in
    let y : b ≡ 0 = eqb-true _ _ (and_right (eqb a 0) _ e) in
    eq-eqb (a + b * 256) 0 (omega arith))

pub pair_step : (s a b : ℕ) (u : Bool) → (eqb s 0 && (eqb a 0 && (eqb b 0 && u))) ≡ (eqb (bit_or s (a + b * 256)) 0 && u)
pair_step s a b u = rw (or_zero s (a + b * 256), pair_zero a b) (go (eqb s 0) (eqb a 0) (eqb b 0) u)
  where
    go : (a b c d : Bool) → (a && (b && (c && d))) ≡ ((a && (b && c)) && d)
    go false b c d = refl
    go true false c d = refl
    go true true c d = refl

-- What the two loops leave: pairs that do not rise are not sound, and of the others the ones behind them decide.
module _ (ls : List (List ℕ)) (count n : ℕ) (sized : length ls ≡ 256) (few : n ≡ min count 256) where
  pub fallen : (v : ℕ) → levels_rise 0 0 (take n ls) ≡ false → None ≡ sound_partner ls count v
  unfolding levels_sound
  fallen v e = let f : levels_rise 0 0 (take count ls) ≡ false = sym (ap (levels_rise 0 0) (front_same ls count n sized few)) ∙ e in sym (rw f)

  module _ (rest v : ℕ) (q : Partner) (rise : levels_rise 0 0 (take n ls) ≡ true) (numbers : level_numbers (take n ls) ≡ true)
      (unused : unused_pairs (take (256 - n) (drop n ls)) ≡ eqb rest 0) (partner : partner_of (take n ls) v ≡ q) where
    looked : cond (eqb rest 0) (Some q) None ≡ sound_partner ls count v
    unfolding levels_sound
    looked =
        let front = front_same ls count n sized few in
        let back : take (256 - n) (drop n ls) ≡ drop count ls = take_all (256 - n) (drop n ls) (simp length-drop (omega arith)) ∙ back_same ls count n sized few in
        let sound : eqb rest 0 ≡ pairs_sound ls count = sound_both (levels_rise 0 0 (take count ls)) (unused_pairs (drop count ls)) (level_numbers (take count ls)) (eqb rest 0)
        (sym (ap (levels_rise 0 0) front) ∙ rise)
        (sym (ap level_numbers front) ∙ numbers)
        (sym unused ∙ ap unused_pairs back) in
        let found : q ≡ partner_of (take count ls) v = sym partner ∙ ap (λ (z : List (List ℕ)). partner_of z v) front in
        (λ i. cond (sound i) (Some (found i)) None)

    pub looked_whole : eqb rest 0 ≡ true → Some q ≡ sound_partner ls count v
    looked_whole e = ap (λ (b : Bool). cond b (Some q) None) (sym e) ∙ looked

    pub looked_broken : eqb rest 0 ≡ false → None ≡ sound_partner ls count v
    looked_broken e = ap (λ (b : Bool). cond b (Some q) None) (sym e) ∙ looked
