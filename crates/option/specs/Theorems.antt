-- Demand 3, the part that speaks of labels and options alone, over the meaning of an option and never over the writer; over a set of permitted
-- spellings as document 02, Wish 5, has it, and for tags 1, 2 and 5 as document 01 has it.
use Rattle.std.specs.Prelude.{ℕ, ◌≤◌, ◌<◌, ◌≡◌, List, true, false, ◌⊎◌, ◌↔◌, length}
use Rattle.std.proofs.Math.Option.{none, some}
use Rattle.label.specs.declared.Label.{Label}
use Rattle.label.specs.Runs.{count_below}
use Rattle.label.specs.Label.{used, well_formed, member}
use Rattle.option.specs.declared.Spellings.{Spellings}
use Rattle.option.specs.Option.{domain_of, level_of, tag_of, Means}
use Rattle.option.specs.Reading.{option_runs}
use Rattle.option.specs.Permitted.{usual, Permitted}
use Rattle.option.specs.Spelling.{padded, spelled_of}

-- the option spells the label: it is permitted and means it; every permitted one that means it has at least as many octets, and equal lengths
-- go to tag 1, then 2, then 5 (a shortest and a ten-octet bitmap of one length are one option)
pub record Spells (p : Spellings) (s : List ℕ) (l : Label) : Type 0 where
  pub permitted : Permitted p s l
  pub shortest : (o : List ℕ) → Permitted p o l → length s ≤ length o
  pub first : (o : List ℕ) → Permitted p o l → length o ≡ length s → tag_of s ≤ tag_of o

-- no category is over the given one
abbrev pub AtMost : ℕ → Label → Type 0
AtMost n l = (c : ℕ) → n < c → member l c ≡ false

-- a permitted form holds the categories: "the highest category is at most 239 or there is none" (79 for ten octets), "or there are at most 15
-- categories, or at most 7 runs"
abbrev pub Spellable : Spellings → Label → Type 0
Spellable p l =
    ((p.shortest ≡ true) × AtMost 239 l)
    ⊎ ((p.ten ≡ true) × AtMost 79 l)
    ⊎ ((p.numbers ≡ true) × (count_below 65535 (member l) ≤ 15))
    ⊎ ((p.pairs ≡ true) × (length (used l) ≤ 7))

-- of every set of permitted spellings and every well-formed label
pub record OneSpelling : Type 0 where
  -- what is written spells the label, and nothing else does
  pub spells : (p : Spellings) (l : Label) (s : List ℕ) → well_formed l ≡ true → (spelled_of p l ≡ some s ↔ Spells p s l)
  -- a label is refused exactly when no permitted option means it
  pub refused : (p : Spellings) (l : Label) → well_formed l ≡ true → (spelled_of p l ≡ none ↔ ((o : List ℕ) → Permitted p o l → ⊥))
  -- and a spelling exists exactly when a permitted form holds the categories
  pub exists : (p : Spellings) (l : Label) → well_formed l ≡ true → (((s : List ℕ) × (spelled_of p l ≡ some s)) ↔ Spellable p l)
  -- two labels that have spellings under one set get equal first 40 octets exactly when they are one label
  pub told : (p : Spellings) (a b : Label) (s t : List ℕ)
      → well_formed a ≡ true
      → well_formed b ≡ true
      → spelled_of p a ≡ some s
      → spelled_of p b ≡ some t
      → (padded s ≡ padded t ↔ (a ≡ b))
  -- read again it gives the label back
  pub back : (p : Spellings) (l : Label) (s : List ℕ) → well_formed l ≡ true → spelled_of p l ≡ some s
      → (domain_of s ≡ l.domain) × (level_of s ≡ l.level) × (option_runs s ≡ used l)
  -- at most 40 octets
  pub fits : (p : Spellings) (l : Label) (s : List ℕ) → well_formed l ≡ true → spelled_of p l ≡ some s → length s ≤ 40

-- Document 01's statements, over every valid option: those above for the usual set.
pub record Shortest (s : List ℕ) (l : Label) : Type 0 where
  pub means : Means s l
  pub shortest : (o : List ℕ) → Means o l → length s ≤ length o
  pub first : (o : List ℕ) → Means o l → length o ≡ length s → tag_of s ≤ tag_of o

-- "the highest category is at most 239 or there is none, or there are at most 15 categories, or at most 7 runs"
abbrev pub UsualSpellable : Label → Type 0
UsualSpellable l = AtMost 239 l ⊎ (count_below 65535 (member l) ≤ 15) ⊎ (length (used l) ≤ 7)

pub record UsualSpelling : Type 0 where
  pub spells : (l : Label) (s : List ℕ) → well_formed l ≡ true → (spelled_of usual l ≡ some s ↔ Shortest s l)
  pub refused : (l : Label) → well_formed l ≡ true → (spelled_of usual l ≡ none ↔ ((o : List ℕ) → Means o l → ⊥))
  pub exists : (l : Label) → well_formed l ≡ true → (((s : List ℕ) × (spelled_of usual l ≡ some s)) ↔ UsualSpellable l)
