-- The row of what `read_option` answers.
use Prim.Native.Nat.{ℕ}
use mathlib.Core.Path.{◌≡◌, refl, ap, ◌∙◌}
use mathlib.Core.List.{List, [], ◌∷◌}
use mathlib.Core.Bool.{Bool, true, false, cond}
use lib.Dec.{ltb, eqb}
use lib.ListN.{length}
use native.Mathlib.Omega.{arith}
use borrow.Author.Tests.{ne_eqb, le-leb}
use Rattle.std.specs.Prelude.{Ok, Err}
use Rattle.label.specs.declared.Label.{Label}
use Rattle.label.specs.Label.{zero_label}
use Rattle.label_keys.specs.Keys.{keys_fit, with_keys}
use Rattle.option.specs.Option.{domain_of}
use Rattle.option_read.specs.declared.Fault.{Fault}
use Rattle.option_read.specs.Reading.{Check, check, told, found, not_read, reading_row, checked_reading, framed, reading_by, tag_checks, label_in, reading_of}

-- no check has the number 0
abbrev Numbered : List Check → Type 0
Numbered [] = Unit {0}
Numbered (c ∷ cs) = (c.number ≡ 0 → ⊥) × Numbered cs

checked_row : (cs : List Check) (l : Label) → Numbered cs → reading_row (told (checked_reading cs l)) ≡ checked_reading cs l
checked_row [] l n = refl
checked_row (c ∷ cs) l n = go c.applies (checked_row cs l n.1)
  where
    go : (b : Bool) → reading_row (told (checked_reading cs l)) ≡ checked_reading cs l
        → reading_row (told (cond b (not_read c.number c.pointer) (checked_reading cs l))) ≡ cond b (not_read c.number c.pointer) (checked_reading cs l)
    go true e = rw (ne_eqb c.number 0 n.0) refl
    go false e = e

by_row : (foreign : Bool) (o : List ℕ) → reading_row (told (reading_by foreign o)) ≡ reading_by foreign o
unfolding reading_by tag_checks
by_row foreign o =
    checked_row (check (ltb (length o) 10) 7 1 ∷ check foreign 8 2 ∷ tag_checks o) (label_in o) (λ z. omega arith, (λ z. omega arith, (λ z. omega arith, (λ z. omega arith, (λ z. omega arith, (λ z. omega arith, (λ z. omega arith, tt)))))))

pub row_back : (o : List ℕ) → reading_row (told (reading_of o)) ≡ reading_of o
unfolding reading_of
row_back o = go (framed o)
  where
    go : (b : Bool) → reading_row (told (cond b (reading_by (eqb (domain_of o) 0) o) (not_read 3 0))) ≡ cond b (reading_by (eqb (domain_of o) 0) o) (not_read 3 0)
    go true = by_row (eqb (domain_of o) 0) o
    go false = refl

module _ (o : List ℕ) where
  pub told_found : (l : Label) → Ok l ≡ told (reading_of o) → found l ≡ reading_of o
  told_found l e = ap reading_row e ∙ row_back o

  pub told_refused : (f : Fault) → Err f ≡ told (reading_of o) → not_read f.number f.at ≡ reading_of o
  told_refused f e = ap reading_row e ∙ row_back o

-- the all-zero label has no keys
pub zero_keys : (keys : List ℕ) → keys ≡ with_keys zero_label keys
unfolding with_keys keys_fit
zero_keys keys = rw (le-leb 0 (length keys) (omega arith)) refl
