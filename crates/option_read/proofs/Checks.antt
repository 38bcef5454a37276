-- Laws of the checks: which one decides at each return, and what is known where all are passed.
use Prim.Native.Nat.{ℕ, ◌+◌, ◌-◌, ◌%◌, ◌≤◌, ◌<◌}
use mathlib.Core.Path.{◌≡◌, refl, ap}
use mathlib.Core.List.{List}
use mathlib.Core.Bool.{Bool, true, false, not, ◌&&◌, ◌||◌, cond}
use mathlib.Core.Logic.{◌⊎◌, inl, inr, ⊎_elim}
use lib.ListN.{length, get_or, take, drop, length-drop}
use lib.Seq.{length-take-le}
use lib.Dec.{leb, eqb}
use native.Mathlib.Omega.{arith}
use borrow.Author.Tests.{le-leb, lt-ltb, le-ltb, leb-true, eqb-true, eqb-false, eq-eqb, ne_eqb}
use Rattle.label.proofs.Bools.{and_left, and_right, or_cases, not_yes}
use Rattle.option.specs.Option.{domain_of, tag_of, tag_length_of, is_even}
use Rattle.option_read.specs.Reading.{found, not_read, checked_reading, known_tag, good_length, categories_in, bad_place, tag_checks, label_in, reading_by, framed, reading_of, reading_for}

-- The three tags.
pub known_cases : (t : ℕ) → known_tag t ≡ true → (t ≡ 1) ⊎ ((t ≡ 2) ⊎ (t ≡ 5))
known_cases t e =
    ⊎_elim (λ p. inl (eqb-true t 1 p)) (λ p. inr (⊎_elim (λ q. inl (eqb-true t 2 q)) (λ q. inr (eqb-true t 5 q)) (or_cases (eqb t 2) (eqb t 5) p))) (or_cases (eqb t 1) (eqb t 2 || eqb t 5) e)

-- What a good length says.
pub record Lengths (t n m : ℕ) : Type 0 where
  pub least : 4 ≤ n
  pub most : n ≤ 34
  pub even : (t ≡ 1 → ⊥) → n % 2 ≡ 0
  pub five : t ≡ 5 → n ≤ 32
  pub inside : n + 6 ≤ m

pub lengths : (t n m : ℕ) → (good_length t n && leb (n + 6) m) ≡ true → Lengths t n m
lengths t n m e =
    let g = and_left (good_length t n) _ e in
    let r = and_right (leb 4 n) _ g in
    let q = and_left (eqb t 1 || is_even n) _ r in
    let s = and_right (eqb t 1 || is_even n) _ r in
    record {
      least = leb-true _ _ (and_left (leb 4 n) _ g);
      most = either _ _ (omega arith) (omega arith) (eqb t 5) s;
      even = λ z. eqb-true _ _ (rw (ne_eqb t 1 z) at q);
      five = λ z. leb-true _ _ (rw (eq-eqb t 5 z) at s);
      inside = leb-true _ _ (and_right (good_length t n) _ e);
    }
  where
    either : (x y : ℕ) → x ≤ 34 → y ≤ 34 → (z : Bool) → leb n (cond z x y) ≡ true → n ≤ 34
    either x y h k true p = omega (arith, leb-true n x p)
    either x y h k false p = omega (arith, leb-true n y p)

pub good_lengths : (t n m : ℕ) → Lengths t n m → (good_length t n && leb (n + 6) m) ≡ true
good_lengths t n m l = rw (le-leb 4 n l.least, le-leb (n + 6) m l.inside) (simp mathlib.Core.Bool.and-true (go (eqb t 1) refl (eqb t 5) refl))
  where
    go : (x : Bool) → eqb t 1 ≡ x → (y : Bool) → eqb t 5 ≡ y → ((x || is_even n) && leb n (cond y 32 34)) ≡ true
    go true p true q = absurd (omega (arith, eqb-true t 1 p, eqb-true t 5 q))
    go true p false q = le-leb n 34 l.most
    go false p true q = rw (eq-eqb (n % 2) 0 (l.even (eqb-false t 1 p))) (le-leb n 32 (l.five (eqb-true t 5 q)))
    go false p false q = rw (eq-eqb (n % 2) 0 (l.even (eqb-false t 1 p))) (le-leb n 34 l.most)

-- What is known of an option past checks 9 to 11.
pub record Past (o : List ℕ) : Type 0 where
  pub known : known_tag (tag_of o) ≡ true
  pub sized : (good_length (tag_of o) (tag_length_of o) && leb (tag_length_of o + 6) (length o)) ≡ true
  pub aligned : get_or o 8 0 ≡ 0

module _ (o : List ℕ) where
  pub categories_length : Lengths (tag_of o) (tag_length_of o) (length o) → length (categories_in o) ≡ tag_length_of o - 4
  categories_length l = length-take-le (tag_length_of o - 4) (drop 10 o) (omega (arith, length-drop 10 o, l.least, l.inside))

  -- the part of the option that the code lends
  pub part_is : (size : ℕ) → size ≡ tag_length_of o → take (size + 6 - 10) (drop 10 o) ≡ categories_in o
  part_is size e =
      let m : size + 6 - 10 ≡ tag_length_of o - 4 = omega arith in
      ap (λ (n : ℕ). take n (drop 10 o)) m

  pub stops9 : known_tag (tag_of o) ≡ false → checked_reading (tag_checks o) (label_in o) ≡ not_read 9 6
  unfolding tag_checks
  stops9 e = rw e

  pub stops10 : known_tag (tag_of o) ≡ true → (good_length (tag_of o) (tag_length_of o) && leb (tag_length_of o + 6) (length o)) ≡ false → checked_reading (tag_checks o) (label_in o) ≡ not_read 10 7
  unfolding tag_checks
  stops10 e f = rw (e, f)

  pub stops11 : known_tag (tag_of o) ≡ true → (good_length (tag_of o) (tag_length_of o) && leb (tag_length_of o + 6) (length o)) ≡ true → (get_or o 8 0 ≡ 0 → ⊥) → checked_reading (tag_checks o) (label_in o) ≡ not_read 11 8
  unfolding tag_checks
  stops11 e f n = rw (e, f, ne_eqb (get_or o 8 0) 0 n)

  module _ (p : Past o) where
    pub stops12 : (k : ℕ) → k ≡ bad_place (tag_of o) (categories_in o) → k < length (categories_in o) → checked_reading (tag_checks o) (label_in o) ≡ not_read 12 (10 + k)
    unfolding tag_checks
    stops12 k e h = rw (p.known, p.sized, eq-eqb (get_or o 8 0) 0 p.aligned, ← e, lt-ltb k (length (categories_in o)) h)

    pub stops13 : length (categories_in o) ≤ bad_place (tag_of o) (categories_in o) → tag_length_of o + 6 < length o → checked_reading (tag_checks o) (label_in o) ≡ not_read 13 (tag_length_of o + 6)
    unfolding tag_checks
    stops13 g h = rw (p.known, p.sized, eq-eqb (get_or o 8 0) 0 p.aligned, le-ltb (bad_place (tag_of o) (categories_in o)) (length (categories_in o)) g, lt-ltb (tag_length_of o + 6) (length o) h)

    pub passes : length (categories_in o) ≤ bad_place (tag_of o) (categories_in o) → length o ≤ tag_length_of o + 6 → checked_reading (tag_checks o) (label_in o) ≡ found (label_in o)
    unfolding tag_checks
    passes g h = rw (p.known, p.sized, eq-eqb (get_or o 8 0) 0 p.aligned, le-ltb (bad_place (tag_of o) (categories_in o)) (length (categories_in o)) g, le-ltb (tag_length_of o + 6) (length o) h)

-- Rows 7 and 8.
module _ (o : List ℕ) where
  pub stops7 : (foreign : Bool) → length o < 10 → reading_by foreign o ≡ not_read 7 1
  unfolding reading_by
  stops7 foreign h = rw (lt-ltb (length o) 10 h)

  pub stops8 : (foreign : Bool) → foreign ≡ true → 10 ≤ length o → reading_by foreign o ≡ not_read 8 2
  unfolding reading_by
  stops8 foreign e h = rw (le-ltb (length o) 10 h, e)

  pub goes_on : (foreign : Bool) → foreign ≡ false → 10 ≤ length o → reading_by foreign o ≡ checked_reading (tag_checks o) (label_in o)
  unfolding reading_by
  goes_on foreign e h = rw (le-ltb (length o) 10 h, e)

-- Row 3.
pub record Framed (o : List ℕ) : Type 0 where
  pub long : 2 ≤ length o
  pub kind : get_or o 0 0 ≡ 134
  pub size : get_or o 1 0 ≡ length o

pub framed_parts : (o : List ℕ) → framed o ≡ true → Framed o
framed_parts o e =
    let e1 = and_right (leb 2 (length o)) _ e in
    record {
      long = leb-true _ _ (and_left (leb 2 (length o)) _ e);
      kind = eqb-true _ _ (and_left (eqb (get_or o 0 0) 134) _ e1);
      size = eqb-true _ _ (and_right (eqb (get_or o 0 0) 134) _ e1);
    }

pub parts_framed : (o : List ℕ) → Framed o → framed o ≡ true
parts_framed o f = rw (le-leb 2 (length o) f.long, eq-eqb (get_or o 0 0) 134 f.kind, eq-eqb (get_or o 1 0) (length o) f.size)

pub stops3 : (o : List ℕ) → (Framed o → ⊥) → reading_of o ≡ not_read 3 0
unfolding reading_of
stops3 o n = rw (not_yes (framed o) (λ e. n (framed_parts o e)))

pub alone : (o : List ℕ) → framed o ≡ true → reading_of o ≡ reading_by (eqb (domain_of o) 0) o
unfolding reading_of
alone o e = rw e

pub for_port : (d : ℕ) (o : List ℕ) → reading_for d o ≡ reading_by (not (eqb (domain_of o) d)) o
unfolding reading_for
for_port d o = refl
