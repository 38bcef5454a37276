-- Document 01, "Option and tags" and "Asked alone": what is proved of reading, over the meaning of an option.
use Rattle.std.specs.Prelude.{ℕ, ◌≡◌, List, true, ◌↔◌}
use Rattle.label.specs.declared.Label.{Label}
use Rattle.option.specs.Option.{Octets, domain_of, valid, Means}
use Rattle.option_read.specs.Reading.{told, found, reading_row, framed, reading_of, reading_for}

-- reading alone gives number 0 exactly when the option is valid with a domain that is not 0; then the label is the one that it means; and
-- every valid option that means a label gives that label back
pub record ReadsAlone : Type 0 where
  pub exactly : (o : List ℕ) → Octets o → ((reading_of o).number ≡ 0) ↔ ((valid o ≡ true) × (domain_of o ≡ 0 → ⊥))
  pub means : (o : List ℕ) → Octets o → (reading_of o).number ≡ 0 → Means o (reading_of o).label
  pub back : (o : List ℕ) (l : Label) → Means o l → reading_of o ≡ found l
  -- what is answered says the whole row
  pub row : (o : List ℕ) → reading_row (told (reading_of o)) ≡ reading_of o

-- the same for a port's domain, of an option that begins with 134 and whose length octet is its length
pub record ReadsFor (d : ℕ) : Type 0 where
  pub exactly : (o : List ℕ) → Octets o → framed o ≡ true → ((reading_for d o).number ≡ 0) ↔ ((valid o ≡ true) × (domain_of o ≡ d))
  pub means : (o : List ℕ) → Octets o → framed o ≡ true → (d ≡ 0 → ⊥) → (reading_for d o).number ≡ 0 → Means o (reading_for d o).label
  pub back : (o : List ℕ) (l : Label) → Means o l → l.domain ≡ d → reading_for d o ≡ found l

pub record Reads : Type 0 where
  pub alone : ReadsAlone
  pub for : (d : ℕ) → ReadsFor d
