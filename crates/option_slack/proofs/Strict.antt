-- Reading at a port that may be strict: 23 is tested between 12 and 13.
use Prim.Native.Nat.{ℕ, ◌+◌}
use mathlib.Core.Path.{◌≡◌, refl, sym, ap, ◌∙◌}
use mathlib.Core.Bool.{Bool, true, false, not, cond, ◌&&◌, ◌||◌}
use mathlib.Core.List.{List, [], ◌∷◌, ◌++◌}
use mathlib.Core.Logic.{◌↔◌}
use native.Mathlib.Omega.{arith}
use lib.Dec.{ltb, eqb}
use borrow.Author.Tests.{ne_eqb}
use lib.ListN.{length}
use Rattle.label.specs.declared.Label.{Label}
use Rattle.option.specs.Option.{domain_of, tag_length_of}
use Rattle.option_read.specs.Reading.{Reading}
use Rattle.option_read.specs.Reading.{Check, check, not_read, checked_reading, category_checks, tag_checks, label_in, reading_by, reading_for}
use Rattle.option_slack.specs.Slack.{slack}
use Rattle.std.specs.Prelude.{Result, Ok, Err}
use Rattle.option_read.specs.declared.Fault.{Fault}
use Rattle.option_read.specs.declared.KeysRead.{KeysRead}
use Rattle.option_read.specs.Keys.{row_of, Refused}
use Rattle.option_slack.specs.Strict.{strict_reading, stops_slack, stops_read}
use Rattle.option_slack.specs.Theorems.{StrictReads}

-- the numbers of 7 to 12 are neither 0 nor 13
abbrev Before : List Check → Type 0
Before [] = Unit {0}
Before (c ∷ cs) = ((eqb c.number 0 || eqb c.number 13) ≡ false) × Before cs

-- where 7 to 12 decide, 23 does not
not_past : (s z q : Bool) → q ≡ false → (s && (q && z)) ≡ false
not_past true z q e = rw e
not_past false z q e = refl

-- a check that is put in right before 13
put_in : (cs : List Check) (b s z : Bool) (p : ℕ) (l : Label) → Before cs
    → let r = checked_reading (cs ++ (check b 13 p ∷ [])) l in
    checked_reading (cs ++ (check (s && z) 23 10 ∷ check b 13 p ∷ [])) l
    ≡ cond (s && ((eqb r.number 0 || eqb r.number 13) && z)) (not_read 23 10) r
put_in [] true s z p l h = refl
put_in [] false s z p l h = refl
put_in (c ∷ cs) b s z p l h = go c.applies (put_in cs b s z p l h.1)
  where
    go : (t : Bool)
        → checked_reading (cs ++ (check (s && z) 23 10 ∷ check b 13 p ∷ [])) l
        ≡ cond (s && ((eqb (checked_reading (cs ++ (check b 13 p ∷ [])) l).number 0 || eqb (checked_reading (cs ++ (check b 13 p ∷ [])) l).number 13) && z)) (not_read 23 10) (checked_reading (cs ++ (check b 13 p ∷ [])) l)
        → let r = cond t (not_read c.number c.pointer) (checked_reading (cs ++ (check b 13 p ∷ [])) l) in
        cond t (not_read c.number c.pointer) (checked_reading (cs ++ (check (s && z) 23 10 ∷ check b 13 p ∷ [])) l)
        ≡ cond (s && ((eqb r.number 0 || eqb r.number 13) && z)) (not_read 23 10) r
    go true ih = rw (not_past s z (eqb c.number 0 || eqb c.number 13) h.0)
    go false ih = ih

strict_answer : (strict : Bool) (d : ℕ) (o : List ℕ)
    → strict_reading strict d o ≡ cond (stops_slack strict (reading_for d o).number o) (not_read 23 10) (reading_for d o)
unfolding strict_reading reading_for reading_by tag_checks
strict_answer strict d o =
    put_in (check (ltb (length o) 10) 7 1 ∷ check (not (eqb (domain_of o) d)) 8 2 ∷ category_checks o) (ltb (tag_length_of o + 6) (length o)) strict (slack o) (tag_length_of o + 6) (label_in o)
    (refl, (refl, (refl, (refl, (refl, (refl, tt))))))

module _ (strict : Bool) (d : ℕ) (o : List ℕ) where
  -- 23 does not decide
  pub strict_else : stops_slack strict (reading_for d o).number o ≡ false → strict_reading strict d o ≡ reading_for d o
  strict_else e = strict_answer strict d o ∙ ap (λ (b : Bool). cond b (not_read 23 10) (reading_for d o)) e

  pub strict_stops : stops_slack strict (reading_for d o).number o ≡ true → strict_reading strict d o ≡ not_read 23 10
  strict_stops e = strict_answer strict d o ∙ ap (λ (b : Bool). cond b (not_read 23 10) (reading_for d o)) e

  strict_zero : (strict_reading strict d o).number ≡ 0 → ((reading_for d o).number ≡ 0) × ((strict && slack o) ≡ false)
  strict_zero e = go (stops_slack strict (reading_for d o).number o) refl
    where
      go : (b : Bool) → stops_slack strict (reading_for d o).number o ≡ b → ((reading_for d o).number ≡ 0) × ((strict && slack o) ≡ false)
      go true p = absurd (let z : ◌≡◌ {A = ℕ} 23 0 = ap (λ (r : Reading). r.number) (sym (strict_stops p)) ∙ e in omega arith)
      go false p =
          let z : (reading_for d o).number ≡ 0 = ap (λ (r : Reading). r.number) (sym (strict_else p)) ∙ e in
          (z, ap (λ (n : ℕ). stops_slack strict n o) (sym z) ∙ p)

  -- an option that is read, and passes 23
  pub strict_reads : (reading_for d o).number ≡ 0 → (strict && slack o) ≡ false → strict_reading strict d o ≡ reading_for d o
  strict_reads z s = strict_else (ap (λ (n : ℕ). stops_slack strict n o) z ∙ s)

  exactly_of : ((strict_reading strict d o).number ≡ 0) ↔ (((reading_for d o).number ≡ 0) × ((strict && slack o) ≡ false))
  exactly_of = (strict_zero, λ p. ap (λ (r : Reading). r.number) (strict_reads p.0 p.1) ∙ p.0)

pub strictly_reads : StrictReads
strictly_reads = record { answer = strict_answer; exactly = exactly_of }

-- For the code, return by return.
module _ (strict : Bool) (n : ℕ) (o : List ℕ) where
  pub stops_loose : strict ≡ false → stops_slack strict n o ≡ false
  stops_loose e = rw e

-- What was answered, and its row: 23 decides alike.
pub stops_row : (strict : Bool) (r : Result KeysRead Fault) (o : List ℕ) → Refused r → stops_slack strict (row_of r).number o ≡ stops_read strict r o
stops_row strict (Ok k) o h = refl
stops_row strict (Err f) o h = rw (ne_eqb f.number 0 h) refl
