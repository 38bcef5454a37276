-- Demand 1 for the functions asked alone.
use mathlib.Core.Path.{◌≡◌, refl, sym, ◌∙◌, ap}
use mathlib.Core.Bool.{Bool, true, false, cond, not, ◌&&◌}
use mathlib.Core.List.{List, [], ◌∷◌, ◌++◌}
use Prim.Native.Nat.{ℕ}
use native.Mathlib.Omega.{arith}
use lib.Dec.{leb, ltb, eqb}
use lib.ListN.{length, take}
use borrow.Author.Tests.{ne_eqb}
use Rattle.std.specs.Prelude.{None, Some, Err}
use Rattle.std.specs.Option.{ok_or}
use Rattle.label.specs.declared.Run.{Run}
use Rattle.label.specs.declared.Label.{Label}
use Rattle.label.specs.Label.{used, label_of, zero_label, empty_of, well_formed, member, at_most, leq}
use Rattle.option.specs.Option.{domain_of}
use Rattle.option.specs.declared.Spellings.{Spellings}
use Rattle.option.specs.Spelling.{spelled_of}
use Rattle.option_read.specs.Reading.{Reading}
use Rattle.option_read.specs.Reading.{Check, check, not_read, checked_reading, framed, tag_checks, label_in, reading_by, reading_of}
use Rattle.option_form.specs.Spelled.{lacking}
use Rattle.option_spell.specs.Spelling.{spelling_number, spelling_answer, spelling_out}
use Rattle.option_spell.proofs.Answers.{answer_refused, out_refused}
use Rattle.table.specs.Table.{Lent, used_rows, table_sound}
use Rattle.table_levels.specs.Levels.{Partner, partner_of, known}
use Rattle.table.specs.Numbers.{numbered}
use Rattle.renumber.specs.declared.RenumberError.{RenumberError}
use Rattle.renumber.specs.declared.RenumberError.TheVariants.{Unsound, NoNumber, TooMany}
use Rattle.renumber.specs.Renumber.{Renumbered, image_runs, number_of, not_renumbered, row_of, when_numbered, renumbered_of}
use Rattle.demands.specs.First.{NoneOf}
use Rattle.demands.specs.Alone.{read_checks, spell_checks, renumber_checks, FirstCheck, AskedAlone}
use Rattle.demands.proofs.Renumbering.{renumber_alone}

first_check : (bs as' : List Check) (c : Check) (l : Label) → NoneOf (λ (x : Check). x.applies) bs → c.applies ≡ true → checked_reading (bs ++ (c ∷ as')) l ≡ not_read c.number c.pointer
first_check [] as' c l n e = rw e
first_check (b ∷ bs) as' c l n e = rw n.0 (first_check bs as' c l n.1 e)

first_is : (cs : List Check) (c : Check) (l : Label) → FirstCheck cs c → checked_reading cs l ≡ not_read c.number c.pointer
first_is cs c l f = ap (λ (x : List Check). checked_reading x l) f.order ∙ first_check f.before f.after c l f.passed f.applies

abbrev AllReal : List Check → Type 0
AllReal [] = Unit {0}
AllReal (c ∷ cs) = (c.number ≡ 0 → ⊥) × AllReal cs

real_at : (bs as' : List Check) (c : Check) → AllReal (bs ++ (c ∷ as')) → c.number ≡ 0 → ⊥
real_at [] as' c a = a.0
real_at (b ∷ bs) as' c a = real_at bs as' c a.1

real_is : (cs : List Check) (c : Check) → FirstCheck cs c → AllReal cs → c.number ≡ 0 → ⊥
real_is cs c f a = real_at f.before f.after c (rw f.order at a)

-- Reading.
reads : (o : List ℕ) (c : Check) → FirstCheck (read_checks o) c → reading_of o ≡ not_read c.number c.pointer
unfolding reading_of reading_by
reads o c f = go (framed o) refl ∙ first_is (read_checks o) c (label_in o) f
  where
    go : (b : Bool) → framed o ≡ b → cond b (reading_by (eqb (domain_of o) 0) o) (not_read 3 0) ≡ checked_reading (check (not b) 3 0 ∷ check (ltb (length o) 10) 7 1 ∷ check (eqb (domain_of o) 0) 8 2 ∷ tag_checks o) (label_in o)
    go true e = refl
    go false e = refl

-- Spelling.
number_is : (p : Spellings) (l : Label) (n : ℕ) → spelling_number p l n ≡ (checked_reading (spell_checks p l n) zero_label).number
unfolding spelling_number
number_is p l n = go (ltb n 40) (well_formed l) (lacking (spelled_of p l))
  where
    go : (a b c : Bool) → cond a 1 (cond (not b) 2 (cond c 18 0)) ≡ (checked_reading (check a 1 0 ∷ check (not b) 2 0 ∷ check c 18 0 ∷ []) zero_label).number
    go true b c = refl
    go false false c = refl
    go false true true = refl
    go false true false = refl

spells : (p : Spellings) (l : Label) (out : List ℕ) (c : Check) → FirstCheck (spell_checks p l (length out)) c
    → (spelling_answer p l (length out) ≡ record { number = c.number; count = 0 }) × (spelling_out p l out ≡ out)
spells p l out c f =
    let r = real_is (spell_checks p l (length out)) c f (λ z. omega arith, (λ z. omega arith, (λ z. omega arith, tt))) in
    let e : spelling_number p l (length out) ≡ c.number =
    number_is p l (length out) ∙ ap (λ (x : Reading). x.number) (first_is (spell_checks p l (length out)) c zero_label f) in
    (answer_refused p l (length out) c.number r e, out_refused p l out c.number r e)

-- Renumbering.
abbrev Refuses : Renumbered → ℕ → Type 0
Refuses r n = (row_of r ≡ not_renumbered n) × ((e : RenumberError) × (r ≡ Err e) × (number_of e ≡ n))

renumbered_by_lem : (s d : Bool) (q : Partner) (b k : Bool) (to : ℕ) (img : List Run) (n : ℕ) → (n ≡ 0 → ⊥)
    → (checked_reading (check (not s) 2 0 ∷ check (not (d && (known q && b))) 16 0 ∷ check (not k) 18 0 ∷ []) zero_label).number ≡ n
    → Refuses (cond s (cond d (when_numbered NoNumber q b (λ v. ok_or (cond k (Some (label_of to v img)) None) TooMany)) (Err NoNumber)) (Err Unsound)) n
renumbered_by_lem false d q b k to img n z e = (ap not_renumbered e, (Unsound, refl, e))
renumbered_by_lem true false q b k to img n z e = (ap not_renumbered e, (NoNumber, refl, e))
renumbered_by_lem true true None b k to img n z e = (ap not_renumbered e, (NoNumber, refl, e))
renumbered_by_lem true true (Some v) false k to img n z e = (ap not_renumbered e, (NoNumber, refl, e))
renumbered_by_lem true true (Some v) true false to img n z e = (ap not_renumbered e, (TooMany, refl, e))
renumbered_by_lem true true (Some v) true true to img n z e = absurd (z (sym e))

renumber : (l : Label) (t : Lent) (ls : List (List ℕ)) (c : Check) → FirstCheck (renumber_checks l t ls) c → Refuses (renumbered_of l t ls) c.number
unfolding renumbered_of
renumber l t ls c f =
    renumbered_by_lem (table_sound t ls && well_formed l) (eqb l.domain t.from) (partner_of (take t.pairs ls) l.level) (numbered (used_rows t) (used l))
    (leb (length (image_runs l t)) 120) t.to (image_runs l t) c.number
    (real_is (renumber_checks l t ls) c f (λ z. omega arith, (λ z. omega arith, (λ z. omega arith, tt))))
    (ap (λ (x : Reading). x.number) (first_is (renumber_checks l t ls) c zero_label f))

-- Ill-formed labels.
no_members : (l : Label) (c : ℕ) → well_formed l ≡ false → member l c ≡ false
unfolding member
no_members l c e = rw e

not_within : (a b : Label) → (well_formed a && well_formed b) ≡ false → leq a b ≡ false
unfolding leq
not_within a b e = go (well_formed a) (well_formed b) (at_most a b) e
  where
    go : (x y z : Bool) → (x && y) ≡ false → (x && (y && z)) ≡ false
    go false y z e = refl
    go true false z e = refl
    go true true z e = let z : ◌≡◌ {A = ℕ} 0 1 = cc in absurd (omega arith)

-- empty labels
owned : (d v : ℕ) → (d ≡ 0 → ⊥) → empty_of d v ≡ label_of d v []
owned d v h = rw (ne_eqb d 0 h)

unowned : (v : ℕ) → (empty_of 0 v ≡ zero_label) × (well_formed (empty_of 0 v) ≡ false)
unfolding well_formed
unowned v = (refl, refl)

pub asked_alone : AskedAlone
asked_alone =
    record {
      read = reads;
      spell = spells;
      renumber = renumber;
      numbers = renumber_alone;
      contains = no_members;
      within = not_within;
      empty = owned;
      ownerless = unowned;
    }
