-- Laws of an option's form: the three shapes of a valid option, and its octets by their places.
use Prim.Native.Nat.{ℕ, ◌%◌}
use mathlib.Core.Path.{◌≡◌, refl, sym, ◌∙◌}
use mathlib.Core.Bool.{Bool, true, false, cond, not, ◌&&◌}
use mathlib.Core.List.{List, [], ◌∷◌}
use native.Mathlib.Omega.{arith}
use lib.Dec.{eqb}
use lib.ListN.{length, get_or}
use borrow.Author.Tests.{eqb-true, eqb-false, eq-eqb, ne_eqb, le-leb, lt-leb}
use Rattle.label.proofs.Bools.{never, and_left, and_right}
use Rattle.std.specs.Prelude.{None}
use Rattle.basic.specs.Levels.{is_level}
use Rattle.basic.specs.Option.{basic_level, more_follows, basic_flags, basic_valid}
use Rattle.basic.specs.Alone.{basic_found, basic_reading}
use Rattle.basic.specs.Stages.{framed_at, ended_at}

last_bit : (x : ℕ) → not (more_follows x) ≡ eqb (x % 2) 0
last_bit x = go (eqb (x % 2) 1) refl
  where
    go : (t : Bool) → eqb (x % 2) 1 ≡ t → not (eqb (x % 2) 1) ≡ eqb (x % 2) 0
    go true p = rw p (sym (ne_eqb (x % 2) 0 (λ z. omega (arith, eqb-true (x % 2) 1 p))))
    go false p = rw p (sym (eq-eqb (x % 2) 0 (omega (arith, eqb-false (x % 2) 1 p))))

regroup : (p q r s : Bool) → (p && (q && (r && s))) ≡ ((p && q) && (r && s))
regroup true q r s = refl
regroup false q r s = refl

lost : (p q r : Bool) → (p && (q && (r && false))) ≡ false
lost true true true = refl
lost true true false = refl
lost true false r = refl
lost false q r = refl

-- three flag octets are not valid
too_long : (a b v x y z : ℕ) (o : List ℕ) → basic_valid (a ∷ b ∷ v ∷ x ∷ y ∷ z ∷ o) ≡ false
unfolding basic_valid
too_long a b v x y z o =
    rw (lt-leb (length (x ∷ y ∷ z ∷ o)) 2 (omega arith), le-leb 3 (length (a ∷ b ∷ v ∷ x ∷ y ∷ z ∷ o)) (omega arith))
    (lost (eqb a 130) (eqb b (length (a ∷ b ∷ v ∷ x ∷ y ∷ z ∷ o))) (is_level v))

-- a valid option by the places of its octets
pub valid_at : (o : List ℕ) → basic_valid o ≡ (framed_at (length o) (get_or o 0 0) (get_or o 1 0) && (is_level (get_or o 2 0) && ended_at (length o) (get_or o 3 0) (get_or o 4 0)))
unfolding basic_valid
valid_at [] = refl
valid_at (a ∷ []) = refl
valid_at (a ∷ b ∷ []) = refl
valid_at (a ∷ b ∷ v ∷ []) = regroup (eqb a 130) (eqb b 3) (is_level v) true
valid_at (a ∷ b ∷ v ∷ x ∷ []) = rw (last_bit x) (regroup (eqb a 130) (eqb b 4) (is_level v) (eqb (x % 2) 0))
valid_at (a ∷ b ∷ v ∷ x ∷ y ∷ []) = rw (last_bit y) (regroup (eqb a 130) (eqb b 5) (is_level v) (eqb (x % 2) 1 && eqb (y % 2) 0))
valid_at (a ∷ b ∷ v ∷ x ∷ y ∷ z ∷ o) = too_long a b v x y z o ∙ rw (lt-leb (length (a ∷ b ∷ v ∷ x ∷ y ∷ z ∷ o)) 5 (omega arith), le-leb 3 (length (a ∷ b ∷ v ∷ x ∷ y ∷ z ∷ o)) (omega arith))

-- and what reading answers
pub reading_at : (o : List ℕ) → basic_reading o ≡ cond (framed_at (length o) (get_or o 0 0) (get_or o 1 0) && (is_level (get_or o 2 0) && ended_at (length o) (get_or o 3 0) (get_or o 4 0))) (basic_found (basic_level o) (basic_flags o)) None
unfolding basic_reading
reading_at o = rw (valid_at o)

-- the shapes
pub data Form : List ℕ → Type 0 where
  bare : {v : ℕ} → is_level v ≡ true → Form (130 ∷ 3 ∷ v ∷ [])
  one : {v x : ℕ} → is_level v ≡ true → x % 2 ≡ 0 → Form (130 ∷ 4 ∷ v ∷ x ∷ [])
  two : {v x y : ℕ} → is_level v ≡ true → x % 2 ≡ 1 → y % 2 ≡ 0 → Form (130 ∷ 5 ∷ v ∷ x ∷ y ∷ [])

pub form : (o : List ℕ) → basic_valid o ≡ true → Form o
unfolding basic_valid
form [] e = absurd (never (sym e))
form (a ∷ []) e = absurd (never (sym e))
form (a ∷ b ∷ []) e = absurd (never (sym e))
form (a ∷ b ∷ v ∷ []) e =
    let e1 = and_right (eqb a 130) _ e in
    let e2 = and_right (eqb b 3) _ e1 in
    rw (eqb-true a 130 (and_left (eqb a 130) _ e), eqb-true b 3 (and_left (eqb b 3) _ e1)) (bare (and_left (is_level v) _ e2))
form (a ∷ b ∷ v ∷ x ∷ []) e =
    let e1 = and_right (eqb a 130) _ e in
    let e2 = and_right (eqb b 4) _ e1 in
    rw (eqb-true a 130 (and_left (eqb a 130) _ e), eqb-true b 4 (and_left (eqb b 4) _ e1))
    (one (and_left (is_level v) _ e2) (eqb-true (x % 2) 0 (sym (last_bit x) ∙ and_right (is_level v) _ e2)))
form (a ∷ b ∷ v ∷ x ∷ y ∷ []) e =
    let e1 = and_right (eqb a 130) _ e in
    let e2 = and_right (eqb b 5) _ e1 in
    let e3 = and_right (is_level v) _ e2 in
    rw (eqb-true a 130 (and_left (eqb a 130) _ e), eqb-true b 5 (and_left (eqb b 5) _ e1))
    (two (and_left (is_level v) _ e2) (eqb-true (x % 2) 1 (and_left (more_follows x) _ e3)) (eqb-true (y % 2) 0 (sym (last_bit y) ∙ and_right (more_follows x) _ e3)))
form (a ∷ b ∷ v ∷ x ∷ y ∷ z ∷ o) e = absurd (never (sym e ∙ too_long a b v x y z o))

-- every shape is valid
pub bare_valid : (v : ℕ) → is_level v ≡ true → basic_valid (130 ∷ 3 ∷ v ∷ []) ≡ true
unfolding basic_valid
bare_valid v l = rw l

pub one_valid : (v x : ℕ) → is_level v ≡ true → x % 2 ≡ 0 → basic_valid (130 ∷ 4 ∷ v ∷ x ∷ []) ≡ true
unfolding basic_valid
one_valid v x l e = rw (l, last_bit x) (eq-eqb (x % 2) 0 e)

pub two_valid : (v x y : ℕ) → is_level v ≡ true → x % 2 ≡ 1 → y % 2 ≡ 0 → basic_valid (130 ∷ 5 ∷ v ∷ x ∷ y ∷ []) ≡ true
unfolding basic_valid
two_valid v x y l e f = rw (l, last_bit y, eq-eqb (x % 2) 1 e) (eq-eqb (y % 2) 0 f)
