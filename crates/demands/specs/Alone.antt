-- Demand 1 for the functions asked alone (document 01, "Asked alone"): the first refusal that applies, with an all-zero label or count 0, and nothing
-- written; membership and comparing say no of an ill-formed label.
use Rattle.std.specs.Prelude.{◌≡◌, true, false, not, ◌&&◌, List, [], ◌∷◌, ◌↔◌, ℕ, leb, ltb, eqb, length, take, Some, Err}
use Rattle.demands.specs.First.{FirstOf}
use Rattle.label.specs.declared.Label.{Label}
use Rattle.label.specs.Label.{used, label_of, zero_label, empty_of, well_formed, member, leq}
use Rattle.option.specs.Option.{domain_of}
use Rattle.option.specs.declared.Spellings.{Spellings}
use Rattle.option.specs.Spelling.{spelled_of}
use Rattle.option_read.specs.Reading.{Check, check, framed, tag_checks, reading_of}
use Rattle.option_form.specs.Spelled.{lacking}
use Rattle.option_spell.specs.Spelling.{spelling_answer, spelling_out}
use Rattle.table.specs.Table.{Lent, used_rows, table_sound}
use Rattle.table_levels.specs.Levels.{partner_of, known}
use Rattle.table.specs.Numbers.{has_number, numbered}
use Rattle.renumber.specs.declared.RenumberError.{RenumberError}
use Rattle.renumber.specs.declared.RenumberError.TheVariants.{NoNumber, TooMany}
use Rattle.renumber.specs.Renumber.{image_runs, number_of, row_of, renumbered_of}
use Rattle.renumber.specs.Theorems.{Far}

-- "One option read alone must begin with 134 and fill its buffer, else 3; then 7 to 13, .. 8 for domain 0 only"
abbrev pub read_checks : List ℕ → List Check
read_checks o = check (not (framed o)) 3 0 ∷ check (ltb (length o) 10) 7 1 ∷ check (eqb (domain_of o) 0) 8 2 ∷ tag_checks o

-- "Spelling gives 1 for an output under 40, then 2, then 18"
abbrev pub spell_checks : Spellings → Label → ℕ → List Check
spell_checks p l n = check (ltb n 40) 1 0 ∷ check (not (well_formed l)) 2 0 ∷ check (lacking (spelled_of p l)) 18 0 ∷ []

-- "Renumbering gives 2 (for an unsound table too), then 16 (also for a foreign domain), then 18 over 120 runs"
abbrev pub renumber_checks : Label → Lent → List (List ℕ) → List Check
renumber_checks l t ls =
    check (not (table_sound t ls && well_formed l)) 2 0
    ∷ check (not (eqb l.domain t.from && (known (partner_of (take t.pairs ls) l.level) && numbered (used_rows t) (used l)))) 16 0
    ∷ check (not (leb (length (image_runs l t)) 120)) 18 0
    ∷ []

-- of the checks in order, c is the first that applies
abbrev pub FirstCheck : List Check → Check → Type 0
FirstCheck checks c = FirstOf (λ (x : Check). x.applies) checks c

-- every part of the label has a number: the table is from its domain, its level has a partner, and every category lies in a row
pub record Numbered (l : Label) (t : Lent) (ls : List (List ℕ)) : Type 0 where
  pub domain : l.domain ≡ t.from
  pub level : (v : ℕ) × (partner_of (take t.pairs ls) l.level ≡ Some v)
  pub whole : (c : ℕ) → member l c ≡ true → has_number (used_rows t) c ≡ true

-- of a sound table and a well-formed label: 16 exactly when not every part has a number, 18 exactly when every part has one and no label holds them
pub record RenumberAlone (l : Label) (t : Lent) (ls : List (List ℕ)) : Type 0 where
  pub sixteen : ((renumbered_of l t ls ≡ Err NoNumber) ↔ (Numbered l t ls → ⊥)) × (((row_of (renumbered_of l t ls)).number ≡ 16) ↔ (Numbered l t ls → ⊥))
  pub eighteen : ((renumbered_of l t ls ≡ Err TooMany) ↔ (Numbered l t ls × ((m : Label) → Far l t ls m → ⊥)))
      × (((row_of (renumbered_of l t ls)).number ≡ 18) ↔ (Numbered l t ls × ((m : Label) → Far l t ls m → ⊥)))

pub record AskedAlone : Type 0 where
  pub read : (o : List ℕ) (c : Check) → FirstCheck (read_checks o) c
      → reading_of o ≡ record { number = c.number; pointer = c.pointer; label = zero_label }
  pub spell : (p : Spellings) (l : Label) (out : List ℕ) (c : Check) → FirstCheck (spell_checks p l (length out)) c
      → (spelling_answer p l (length out) ≡ record { number = c.number; count = 0 }) × (spelling_out p l out ≡ out)
  pub renumber : (l : Label) (t : Lent) (ls : List (List ℕ)) (c : Check) → FirstCheck (renumber_checks l t ls) c
      → (row_of (renumbered_of l t ls) ≡ record { number = c.number; label = zero_label })
      × ((e : RenumberError) × (renumbered_of l t ls ≡ Err e) × (number_of e ≡ c.number))
  pub numbers : (l : Label) (t : Lent) (ls : List (List ℕ)) → table_sound t ls ≡ true → well_formed l ≡ true → RenumberAlone l t ls
  pub contains : (l : Label) (c : ℕ) → well_formed l ≡ false → member l c ≡ false
  pub within : (a b : Label) → (well_formed a && well_formed b) ≡ false → leq a b ≡ false
  -- "a ready-made empty label for each domain and level (for domain 0 the all-zero label, which is ill-formed)"
  pub empty : (d v : ℕ) → (d ≡ 0 → ⊥) → empty_of d v ≡ label_of d v []
  pub ownerless : (v : ℕ) → (empty_of 0 v ≡ zero_label) × (well_formed (empty_of 0 v) ≡ false)
