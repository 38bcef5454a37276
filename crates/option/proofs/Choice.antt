-- Which form is taken: it is permitted and holds the categories, and no other that is and does is shorter, or as short in an earlier tag.
use Prim.Native.Nat.{ℕ, ◌-◌, ◌*◌, ◌%◌, ◌≤◌, ◌<◌}
use mathlib.Core.Path.{◌≡◌, refl}
use mathlib.Core.List.{List}
use mathlib.Core.Bool.{Bool, true, false, ◌&&◌, cond}
use lib.ListN.{length}
use lib.Dec.{leb}
use native.Mathlib.Omega.{arith}
use native.Mathlib.Decide.{dec_le}
use borrow.Author.Tests.{le-leb, lt-leb, leb-true}
use Rattle.label.specs.declared.Run.{Run}
use Rattle.label.proofs.Bools.{and_left, and_right}
use Rattle.option.specs.declared.Spellings.{Spellings}
use Rattle.option.specs.declared.Form.{Form}
use Rattle.option.specs.Spelling.{from_zero, size1, size2, size5, form_if, shorter, least_form, form_for}

abbrev pub form : ℕ → ℕ → Form
form t n = record { tag = t; size = n }

-- the shorter of two, and of four
data Two (f g : Form) : Form → Type 0 where
  left : f.size ≤ g.size → Two f g f
  right : g.size < f.size → Two f g g

two : (f g : Form) → Two f g (shorter f g)
two f g = go (dec_le f.size g.size)
  where
    go : Dec (f.size ≤ g.size) → Two f g (shorter f g)
    go (yes h) = rw (le-leb f.size g.size h) (left h)
    go (no h) = rw (lt-leb f.size g.size (omega arith)) (right (omega arith))

data Four (a t n p : Form) : Form → Type 0 where
  take_a : a.size ≤ t.size → a.size ≤ n.size → a.size ≤ p.size → Four a t n p a
  take_t : t.size < a.size → t.size ≤ n.size → t.size ≤ p.size → Four a t n p t
  take_n : n.size < a.size → n.size < t.size → n.size ≤ p.size → Four a t n p n
  take_p : p.size < a.size → p.size < t.size → p.size < n.size → Four a t n p p

four : (a t n p : Form) → Four a t n p (shorter a (shorter t (shorter n p)))
four a t n p = go (shorter n p) (two n p) (shorter t (shorter n p)) (two t (shorter n p)) (shorter a (shorter t (shorter n p))) (two a (shorter t (shorter n p)))
  where
    go : (x : Form) → Two n p x → (y : Form) → Two t x y → (z : Form) → Two a y z → Four a t n p z
    go x (left h) y (left i) z (left j) = take_a (omega arith) (omega arith) (omega arith)
    go x (left h) y (left i) z (right j) = take_t (omega arith) (omega arith) (omega arith)
    go x (left h) y (right i) z (left j) = take_a (omega arith) (omega arith) (omega arith)
    go x (left h) y (right i) z (right j) = take_n (omega arith) (omega arith) (omega arith)
    go x (right h) y (left i) z (left j) = take_a (omega arith) (omega arith) (omega arith)
    go x (right h) y (left i) z (right j) = take_t (omega arith) (omega arith) (omega arith)
    go x (right h) y (right i) z (left j) = take_a (omega arith) (omega arith) (omega arith)
    go x (right h) y (right i) z (right j) = take_p (omega arith) (omega arith) (omega arith)

-- which forms can be taken, by the octets that tags 1, 2 and 5 need
pub data Taken (p : Spellings) (a b c : ℕ) : Form → Type 0 where
  take1 : p.shortest ≡ true → a ≤ 30 → Taken p a b c (form 1 a)
  take_ten : p.ten ≡ true → a ≤ 10 → Taken p a b c (form 1 10)
  take2 : p.numbers ≡ true → b ≤ 30 → Taken p a b c (form 2 b)
  take5 : p.pairs ≡ true → c ≤ 28 → Taken p a b c (form 5 c)
  take0 : Taken p a b c (form 0 31)

-- not longer than n octets in tag t, and if as long, in no later tag
abbrev pub Before : Form → ℕ → ℕ → Type 0
Before f t n = (f.size ≤ n) × (f.size ≡ n → f.tag ≤ t)

pub record Best (p : Spellings) (a b c : ℕ) (f : Form) : Type 0 where
  pub taken : Taken p a b c f
  pub before1 : p.shortest ≡ true → a ≤ 30 → Before f 1 a
  pub before_ten : p.ten ≡ true → a ≤ 10 → Before f 1 10
  pub before2 : p.numbers ≡ true → b ≤ 30 → Before f 2 b
  pub before5 : p.pairs ≡ true → c ≤ 28 → Before f 5 c

tag_most : (z : Bool) (t n : ℕ) → (form_if z t n).tag ≤ t
tag_most true t n = omega arith
tag_most false t n = omega arith

size_is : (z : Bool) (t n : ℕ) → z ≡ true → (form_if z t n).size ≡ n
size_is z t n e = rw e

both : (z : Bool) (n m : ℕ) → z ≡ true → n ≤ m → (z && leb n m) ≡ true
both z n m e h = rw (e, le-leb n m h)

moved : (f : Form) (t n m : ℕ) → n ≡ m → Before f t n → Before f t m
moved f t n m e b = rw e at b

module _ (p : Spellings) (a b c : ℕ) where
  A : Form
  A = form_if (p.shortest && leb a 30) 1 a

  T : Form
  T = form_if (p.ten && leb a 10) 1 10

  N : Form
  N = form_if (p.numbers && leb b 30) 2 b

  P : Form
  P = form_if (p.pairs && leb c 28) 5 c

  taken_by : (f : Form) → Four A T N P f → Taken p a b c f
  unfolding A T N P
  taken_by f (take_a h i j) = go (p.shortest && leb a 30) refl
    where
      go : (z : Bool) → (p.shortest && leb a 30) ≡ z → Taken p a b c (form_if z 1 a)
      go true e = take1 (and_left p.shortest _ e) (leb-true _ _ (and_right p.shortest _ e))
      go false e = take0
  taken_by f (take_t h i j) = go (p.ten && leb a 10) refl
    where
      go : (z : Bool) → (p.ten && leb a 10) ≡ z → Taken p a b c (form_if z 1 10)
      go true e = take_ten (and_left p.ten _ e) (leb-true _ _ (and_right p.ten _ e))
      go false e = take0
  taken_by f (take_n h i j) = go (p.numbers && leb b 30) refl
    where
      go : (z : Bool) → (p.numbers && leb b 30) ≡ z → Taken p a b c (form_if z 2 b)
      go true e = take2 (and_left p.numbers _ e) (leb-true _ _ (and_right p.numbers _ e))
      go false e = take0
  taken_by f (take_p h i j) = go (p.pairs && leb c 28) refl
    where
      go : (z : Bool) → (p.pairs && leb c 28) ≡ z → Taken p a b c (form_if z 5 c)
      go true e = take5 (and_left p.pairs _ e) (leb-true _ _ (and_right p.pairs _ e))
      go false e = take0

  module _ (tag_a : A.tag ≤ 1) (tag_t : T.tag ≤ 1) (tag_n : N.tag ≤ 2) (tag_p : P.tag ≤ 5) where
    before_a : (f : Form) → Four A T N P f → Before f 1 A.size
    before_a f (take_a h i j) = (omega arith, λ e. tag_a)
    before_a f (take_t h i j) = (omega arith, λ e. tag_t)
    before_a f (take_n h i j) = (omega arith, λ e. absurd (omega arith))
    before_a f (take_p h i j) = (omega arith, λ e. absurd (omega arith))

    before_t : (f : Form) → Four A T N P f → Before f 1 T.size
    before_t f (take_a h i j) = (omega arith, λ e. tag_a)
    before_t f (take_t h i j) = (omega arith, λ e. tag_t)
    before_t f (take_n h i j) = (omega arith, λ e. absurd (omega arith))
    before_t f (take_p h i j) = (omega arith, λ e. absurd (omega arith))

    before_n : (f : Form) → Four A T N P f → Before f 2 N.size
    before_n f (take_a h i j) = (omega arith, λ e. omega arith)
    before_n f (take_t h i j) = (omega arith, λ e. omega arith)
    before_n f (take_n h i j) = (omega arith, λ e. tag_n)
    before_n f (take_p h i j) = (omega arith, λ e. absurd (omega arith))

    before_p : (f : Form) → Four A T N P f → Before f 5 P.size
    before_p f (take_a h i j) = (omega arith, λ e. omega arith)
    before_p f (take_t h i j) = (omega arith, λ e. omega arith)
    before_p f (take_n h i j) = (omega arith, λ e. omega arith)
    before_p f (take_p h i j) = (omega arith, λ e. tag_p)

  pub best : Best p a b c (least_form p a b c)
  unfolding A T N P least_form
  best =
      let f = four A T N P in
      let ta = tag_most (p.shortest && leb a 30) 1 a in
      let tt = tag_most (p.ten && leb a 10) 1 10 in
      let tn = tag_most (p.numbers && leb b 30) 2 b in
      let tp = tag_most (p.pairs && leb c 28) 5 c in
      record {
        taken = taken_by _ f;
        before1 = λ e h. moved (least_form p a b c) 1 _ a (size_is (p.shortest && leb a 30) 1 a (both p.shortest a 30 e h)) (before_a ta tt tn tp _ f);
        before_ten = λ e h. moved (least_form p a b c) 1 _ 10 (size_is (p.ten && leb a 10) 1 10 (both p.ten a 10 e h)) (before_t ta tt tn tp _ f);
        before2 = λ e h. moved (least_form p a b c) 2 _ b (size_is (p.numbers && leb b 30) 2 b (both p.numbers b 30 e h)) (before_n ta tt tn tp _ f);
        before5 = λ e h. moved (least_form p a b c) 5 _ c (size_is (p.pairs && leb c 28) 5 c (both p.pairs c 28 e h)) (before_p ta tt tn tp _ f);
      }

-- tag 5 has an even number of octets
pub size5_even : (rs : List Run) → size5 rs % 2 ≡ 0
size5_even rs = go (from_zero rs)
  where
    go : (z : Bool) → (4 * length rs - cond z 2 0) % 2 ≡ 0
    go true = omega arith
    go false = omega arith

pub choice : (p : Spellings) (rs : List Run) → Best p (size1 rs) (size2 rs) (size5 rs) (form_for p rs)
unfolding form_for
choice p rs = best p (size1 rs) (size2 rs) (size5 rs)
