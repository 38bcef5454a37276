-- Octets that stand at a place, and the law of a number each way.
use mathlib.Core.Bool.{Bool, true, false, cond, ◌&&◌}
use mathlib.Core.List.{List, [], ◌∷◌, ◌++◌}
use mathlib.Core.Path.{◌≡◌, refl, sym, ap, ◌∙◌}
use Prim.Native.Nat.{ℕ, zero, suc, ◌+◌, ◌-◌, ◌*◌, ◌/◌, ◌%◌, ◌≤◌, ◌<◌}
use native.Mathlib.Omega.{arith}
use native.Mathlib.Nat.{add-zero}
use lib.Dec.{leb}
use lib.ListN.{length, get_or, take, drop, length-append, length-drop}
use lib.Seq.{length-take-le}
use Rattle.std.proofs.lemmas.List.{get_or-drop, get_or-take}
use borrow.Author.Tests.{le-leb, lt-leb, leb-true}
use Rattle.label.proofs.Bools.{and_left, and_right}
use Rattle.file_format.specs.Format.{Width, one, two, four, size, got, bad, room, digits, value_at, number_at}
use Rattle.file_format.specs.Laws.{Octets, Stands}

pub stands_append : (xs ys : List ℕ) (at : ℕ) (s : List ℕ) → Stands xs at s → Stands ys (at + length xs) s → Stands (xs ++ ys) at s
stands_append [] ys at s p q = rw (add-zero at) at q
stands_append (x ∷ xs) ys at s p q =
    let e : at + suc (length xs) ≡ suc at + length xs = omega arith in
    (p.0, p.1, stands_append xs ys (suc at) s p.2 (rw e at q))

pub stands_left : (xs ys : List ℕ) (at : ℕ) (s : List ℕ) → Stands (xs ++ ys) at s → Stands xs at s
stands_left [] ys at s p = tt
stands_left (x ∷ xs) ys at s p = (p.0, p.1, stands_left xs ys (suc at) s p.2)

pub stands_right : (xs ys : List ℕ) (at : ℕ) (s : List ℕ) → Stands (xs ++ ys) at s → Stands ys (at + length xs) s
stands_right [] ys at s p = rw (add-zero at) p
stands_right (x ∷ xs) ys at s p =
    let e : at + suc (length xs) ≡ suc at + length xs = omega arith in
    rw e (stands_right xs ys (suc at) s p.2)

pub stands_fits : (xs : List ℕ) (at : ℕ) (s : List ℕ) → 0 < length xs → Stands xs at s → at + length xs ≤ length s
stands_fits [] at s h p = absurd (omega arith)
stands_fits (x ∷ []) at s h p = omega (arith, p.0)
stands_fits (x ∷ y ∷ xs) at s h p = omega (arith, stands_fits (y ∷ xs) (suc at) s (omega arith) p.2)

pub digits_length : (w x : ℕ) → length (digits w x) ≡ w
digits_length zero x = refl
digits_length (suc w) x = omega (arith, length-append (digits w (x / 256)) (x % 256 ∷ []), digits_length w (x / 256))

pub value_below : (s : List ℕ) → Octets s → (at w : ℕ) → value_at s at w < room w
value_below s o at zero = omega arith
value_below s o at (suc w) = omega (arith, value_below s o at w, o (at + w))

-- the octets of the number that is read stand there
stands_value : (s : List ℕ) → Octets s → (at w : ℕ) → at + w ≤ length s → Stands (digits w (value_at s at w)) at s
stands_value s o at zero h = tt
stands_value s o at (suc w) h =
    let b = o (at + w) in
    let d : (value_at s at w * 256 + get_or s (at + w) 0) / 256 ≡ value_at s at w = omega (arith, o (at + w)) in
    let m : (value_at s at w * 256 + get_or s (at + w) 0) % 256 ≡ get_or s (at + w) 0 = omega (arith, o (at + w)) in
    let l : at + length (digits w (value_at s at w)) ≡ at + w = ap (λ (k : ℕ). at + k) (digits_length w (value_at s at w)) in
    rw (d, m)
    (stands_append (digits w (value_at s at w)) (get_or s (at + w) 0 ∷ []) at s (stands_value s o at w (omega arith)) (rw l (omega arith, refl, tt)))

-- the number is read off its octets
value_digits : (s : List ℕ) (at w x : ℕ) → x < room w → Stands (digits w x) at s → value_at s at w ≡ x
value_digits s at zero x h p = omega arith
value_digits s at (suc w) x h p =
    let q : x / 256 < room w = omega arith in
    let r : Stands (x % 256 ∷ []) (at + length (digits w (x / 256))) s = stands_right (digits w (x / 256)) (x % 256 ∷ []) at s p in
    let l : at + length (digits w (x / 256)) ≡ at + w = ap (λ (k : ℕ). at + k) (digits_length w (x / 256)) in
    let g : get_or s (at + w) 0 ≡ x % 256 = (rw l at r).1 in
    omega (arith, value_digits s at w (x / 256) q (stands_left (digits w (x / 256)) (x % 256 ∷ []) at s p))

pub size_some : (w : Width) → 0 < size w
size_some one = omega arith
size_some two = omega arith
size_some four = omega arith

-- The law each way, of a number.

module _ (w least most : ℕ) (s : List ℕ) (at x : ℕ) where
  pub number_back : 0 < w → least ≤ x → x ≤ most → x < room w → Stands (digits w x) at s → number_at w least most s at ≡ got x (at + length (digits w x))
  unfolding number_at
  number_back h b c d p =
      let v : value_at s at w ≡ x = value_digits s at w x d p in
      let l : length (digits w x) ≡ w = digits_length w x in
      let f : at + w ≤ length s = omega (arith, stands_fits (digits w x) at s (omega arith) p) in
      rw (v, l, le-leb _ _ f, le-leb _ _ b, le-leb _ _ c)

  pub record NumberRead (n : ℕ) : Type 0 where
    pub least_is : least ≤ x
    pub most_is : x ≤ most
    pub fits : x < room w
    pub stands : Stands (digits w x) at s
    pub place : n ≡ at + length (digits w x)

  pub number_only : Octets s → (n : ℕ) → number_at w least most s at ≡ got x n → NumberRead n
  unfolding number_at
  number_only o n e = only (leb (at + w) (length s) && (leb least (value_at s at w) && leb (value_at s at w) most)) refl e
    where
      only : (t : Bool) → (leb (at + w) (length s) && (leb least (value_at s at w) && leb (value_at s at w) most)) ≡ t
          → cond t (got (value_at s at w) (at + w)) (bad at) ≡ got x n → NumberRead n
      only true t e =
          let v : value_at s at w ≡ x = cc in
          let p : at + w ≡ n = cc in
          let t2 = and_right (leb (at + w) (length s)) _ t in
          let f : at + w ≤ length s = leb-true _ _ (and_left (leb (at + w) (length s)) _ t) in
          let a : least ≤ value_at s at w = leb-true _ _ (and_left (leb least (value_at s at w)) _ t2) in
          let b : value_at s at w ≤ most = leb-true _ _ (and_right (leb least (value_at s at w)) _ t2) in
          record {
            least_is = omega arith;
            most_is = omega arith;
            fits = omega (arith, value_below s o at w);
            stands = rw v at (stands_value s o at w f);
            place = omega (arith, digits_length w x);
          }
      only false t e = absurd (let z : ◌≡◌ {A = ℕ} 0 1 = cc in omega arith)

-- What reading a number finds, return by return.

pub small_room : (i : ℕ) → i < 4 → room i ≤ 16777216
small_room zero h = omega arith
small_room (suc zero) h = omega arith
small_room (suc (suc zero)) h = omega arith
small_room (suc (suc (suc zero))) h = omega arith
small_room (suc (suc (suc (suc i)))) h = absurd (omega arith)

-- the part of a list that the octets of a number are
pub part_length : (s : List ℕ) (at w : ℕ) (t : Bool) → t ≡ leb (at + w) (length s) → t ≡ true → length (take (at + w - at) (drop at s)) ≡ w
part_length s at w t q h =
    let there : at + w ≤ length s = leb-true _ _ (sym q ∙ h) in
    let e : at + w - at ≡ w = omega arith in
    rw e (length-take-le w (drop at s) (omega (arith, length-drop at s)))

-- a loop that has passed all of them has read their number
pub part_value : (s : List ℕ) (at w i value : ℕ) (t : Bool) → t ≡ leb (at + w) (length s) → t ≡ true → value ≡ value_at s at i
    → length (take (at + w - at) (drop at s)) ≤ i → i ≤ length (take (at + w - at) (drop at s)) → value_at s at w ≡ value
part_value s at w i value t q h v l m = let e : i ≡ w = omega (arith, part_length s at w t q h) in rw (← e) (sym v)

pub part_octet : (s : List ℕ) (at w i : ℕ) → i < w → get_or (take (at + w - at) (drop at s)) i 0 ≡ get_or s (at + i) 0
part_octet s at w i h = get_or-take (at + w - at) (drop at s) i 0 (omega arith) ∙ get_or-drop at s i 0

module _ (s : List ℕ) (at w least most : ℕ) where
  pub number_cut : length s < at + w → number_at w least most s at ≡ bad at
  unfolding number_at
  number_cut h = rw (lt-leb (at + w) (length s) h)

  pub number_under : at + w ≤ length s → value_at s at w < least → number_at w least most s at ≡ bad at
  unfolding number_at
  number_under h u = rw (le-leb (at + w) (length s) h, lt-leb least (value_at s at w) u)

  pub number_over : at + w ≤ length s → least ≤ value_at s at w → most < value_at s at w → number_at w least most s at ≡ bad at
  unfolding number_at
  number_over h l u = rw (le-leb (at + w) (length s) h, le-leb least (value_at s at w) l, lt-leb (value_at s at w) most u)

  pub number_good : at + w ≤ length s → least ≤ value_at s at w → value_at s at w ≤ most → number_at w least most s at ≡ got (value_at s at w) (at + w)
  unfolding number_at
  number_good h l u = rw (le-leb (at + w) (length s) h, le-leb least (value_at s at w) l, le-leb (value_at s at w) most u)

-- a number that was found keeps to its bounds, and is there
pub record Within (w least most : ℕ) (s : List ℕ) (at x n : ℕ) : Type 0 where
  pub from : least ≤ x
  pub to : x ≤ most
  pub place : n ≡ at + w
  pub there : at + w ≤ length s

pub number_within : (w least most : ℕ) (s : List ℕ) (at x n : ℕ) → number_at w least most s at ≡ got x n → Within w least most s at x n
unfolding number_at
number_within w least most s at x n e = go (leb (at + w) (length s) && (leb least (value_at s at w) && leb (value_at s at w) most)) refl e
  where
    go : (t : Bool) → (leb (at + w) (length s) && (leb least (value_at s at w) && leb (value_at s at w) most)) ≡ t
        → cond t (got (value_at s at w) (at + w)) (bad at) ≡ got x n → Within w least most s at x n
    go true t q =
        let v : value_at s at w ≡ x = cc in
        let p : at + w ≡ n = cc in
        let r = and_right (leb (at + w) (length s)) _ t in
        let there : at + w ≤ length s = leb-true _ _ (and_left (leb (at + w) (length s)) _ t) in
        let low : least ≤ value_at s at w = leb-true _ _ (and_left (leb least (value_at s at w)) _ r) in
        let high : value_at s at w ≤ most = leb-true _ _ (and_right (leb least (value_at s at w)) _ r) in
        record { from = omega arith; to = omega arith; place = sym p; there = there }
    go false t q = absurd (let z : ◌≡◌ {A = ℕ} 0 1 = cc in omega arith)
