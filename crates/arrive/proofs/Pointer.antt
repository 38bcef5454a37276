-- Where reading an option points: at most ten octets past its end, so a pointer into an area fits an octet. Its refusals are 7 to 13, and 23 at a strict port.
use mathlib.Core.Path.{◌≡◌, refl, ◌∙◌, ap}
use mathlib.Core.Bool.{Bool, true, false, cond, not}
use mathlib.Core.List.{List, [], ◌∷◌}
use mathlib.Core.Logic.{◌⊎◌, inl, inr}
use Prim.Native.Nat.{ℕ, ◌+◌, ◌≤◌, ◌<◌}
use native.Mathlib.Omega.{arith}
use lib.Dec.{ltb, eqb}
use lib.ListN.{length, length-take, length-drop}
use borrow.Author.Tests.{ltb-true}
use Rattle.label.specs.declared.Label.{Label}
use Rattle.option.specs.Option.{domain_of, tag_of, tag_length_of}
use Rattle.option_slack.specs.Strict.{strict_reading, stops_slack}
use Rattle.option_slack.proofs.Strict.{strict_else, strict_stops}
use Rattle.option_read.specs.Reading.{Reading}
use Rattle.option_read.specs.Reading.{Check, check, not_read, checked_reading, categories_in, bad_place, tag_checks, label_in, reading_by, reading_for}

abbrev PointWithin : ℕ → List Check → Type 0
PointWithin b [] = Unit {0}
PointWithin b (c ∷ cs) = (c.applies ≡ true → c.pointer ≤ b) × PointWithin b cs

first_pointer : (b : ℕ) (cs : List Check) (l : Label) → PointWithin b cs → (checked_reading cs l).pointer ≤ b
first_pointer b [] l w = omega arith
first_pointer b (c ∷ cs) l w = go c.applies refl (first_pointer b cs l w.1)
  where
    go : (t : Bool) → c.applies ≡ t → (checked_reading cs l).pointer ≤ b → (cond t (not_read c.number c.pointer) (checked_reading cs l)).pointer ≤ b
    go true e h = w.0 e
    go false e h = h

few : (o : List ℕ) → length (categories_in o) ≤ length o
few o = simp (length-take, length-drop) (omega arith)

pub reading_pointer : (d : ℕ) (o : List ℕ) → (reading_for d o).pointer ≤ length o + 10
unfolding reading_for reading_by tag_checks
reading_pointer d o =
    first_pointer (length o + 10) (check (ltb (length o) 10) 7 1 ∷ check (not (eqb (domain_of o) d)) 8 2 ∷ tag_checks o) (label_in o) (
      λ e. omega arith,
      (
        λ e. omega arith,
        (
          λ e. omega arith,
          (
            λ e. omega arith,
            (
              λ e. omega arith,
              (
                λ e. (let h : bad_place (tag_of o) (categories_in o) < length (categories_in o) = ltb-true _ _ e in omega (arith, few o)),
                (λ e. (let h : tag_length_of o + 6 < length o = ltb-true _ _ e in omega arith), tt),
              ),
            ),
          ),
        ),
      ),
    )

-- a number of 7 to 13
abbrev pub OptionNumber : ℕ → Type 0
OptionNumber n = (7 ≤ n) × (n ≤ 13)

abbrev pub OptionNumbers : List Check → Type 0
OptionNumbers [] = Unit {0}
OptionNumbers (c ∷ cs) = OptionNumber c.number × OptionNumbers cs

first_number : (cs : List Check) (l : Label) → OptionNumbers cs → ((checked_reading cs l).number ≡ 0 → ⊥) → OptionNumber (checked_reading cs l).number
first_number [] l w h = absurd (h refl)
first_number (c ∷ cs) l w h = go (first_number cs l w.1) c.applies h
  where
    go : (((checked_reading cs l).number ≡ 0 → ⊥) → OptionNumber (checked_reading cs l).number) → (t : Bool)
        → ((cond t (not_read c.number c.pointer) (checked_reading cs l)).number ≡ 0 → ⊥) → OptionNumber (cond t (not_read c.number c.pointer) (checked_reading cs l)).number
    go f true z = w.0
    go f false z = f z

pub reading_number : (d : ℕ) (o : List ℕ) → ((reading_for d o).number ≡ 0 → ⊥) → (7 ≤ (reading_for d o).number) × ((reading_for d o).number ≤ 13)
unfolding reading_for reading_by tag_checks
reading_number d o h =
    first_number (check (ltb (length o) 10) 7 1 ∷ check (not (eqb (domain_of o) d)) 8 2 ∷ tag_checks o) (label_in o) (
      (omega arith, omega arith),
      (
        (omega arith, omega arith),
        (
          (omega arith, omega arith),
          ((omega arith, omega arith), ((omega arith, omega arith), ((omega arith, omega arith), ((omega arith, omega arith), tt)))),
        ),
      ),
    )
    h

-- at a port that may be strict, 23 too
pub strict_number : (strict : Bool) (d : ℕ) (o : List ℕ) → ((strict_reading strict d o).number ≡ 0 → ⊥)
    → OptionNumber (strict_reading strict d o).number ⊎ ((strict_reading strict d o).number ≡ 23)
strict_number strict d o h = go (stops_slack strict (reading_for d o).number o) refl
  where
    go : (b : Bool) → stops_slack strict (reading_for d o).number o ≡ b → OptionNumber (strict_reading strict d o).number ⊎ ((strict_reading strict d o).number ≡ 23)
    go true e = inr (ap (λ (x : Reading). x.number) (strict_stops strict d o e))
    go false e = let r = strict_else strict d o e in inl (rw r (reading_number d o (λ z. h (ap (λ (x : Reading). x.number) r ∙ z))))
