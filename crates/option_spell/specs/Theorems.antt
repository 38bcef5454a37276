-- Document 01, "Asked alone": what is proved of spelling one label, for every set of permitted spellings, every label and every output.
use Rattle.std.specs.Prelude.{ℕ, ◌≤◌, ◌≡◌, true, false, List, ◌↔◌, length, take, drop}
use Rattle.std.proofs.Math.Option.{some}
use Rattle.label.specs.declared.Label.{Label}
use Rattle.label.specs.Label.{well_formed}
use Rattle.option.specs.declared.Spellings.{Spellings}
use Rattle.option.specs.Spelling.{padded, spelled_of}
use Rattle.option_form.specs.Spelled.{lacking}
use Rattle.option_spell.specs.Spelling.{told, row_of, spelling_answer, spelling_out}

pub record SpellingAlone : Type 0 where
  -- a well-formed label and at least 40 octets of output: done exactly where the label has a spelling
  pub done : (p : Spellings) (l : Label) (out : List ℕ) → well_formed l ≡ true → 40 ≤ length out
      → (spelling_answer p l (length out)).number ≡ 0 ↔ (lacking (spelled_of p l) ≡ false)
  -- then the count is its length, and the first 40 octets are the option and zeros
  pub counted : (p : Spellings) (l : Label) (out s : List ℕ) → well_formed l ≡ true → 40 ≤ length out → spelled_of p l ≡ some s
      → (spelling_answer p l (length out)).count ≡ length s
  pub written : (p : Spellings) (l : Label) (out s : List ℕ) → well_formed l ≡ true → 40 ≤ length out → spelled_of p l ≡ some s
      → take 40 (spelling_out p l out) ≡ padded s
  -- a refusal has count 0 and leaves the output as it was
  pub refused : (p : Spellings) (l : Label) (out : List ℕ) → ((spelling_answer p l (length out)).number ≡ 0 → ⊥)
      → ((spelling_answer p l (length out)).count ≡ 0) × (spelling_out p l out ≡ out)
  -- octets from 40 on are unchanged, and so is the output's length
  pub beyond : (p : Spellings) (l : Label) (out : List ℕ) → drop 40 (spelling_out p l out) ≡ drop 40 out
  pub sized : (p : Spellings) (l : Label) (out : List ℕ) → length (spelling_out p l out) ≡ length out
  -- what is answered says the whole row
  pub row : (p : Spellings) (l : Label) (n : ℕ) → row_of (told (spelling_answer p l n)) ≡ spelling_answer p l n
