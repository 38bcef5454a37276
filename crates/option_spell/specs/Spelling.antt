-- Document 01, "Asked alone"; document 02, Wish 5: what spelling one label under a set of permitted spellings answers, and what it leaves in
-- the output.
use Rattle.std.specs.Prelude.{ℕ, cond, not, List, length, ltb, eqb, Result, Ok, Err}
use Rattle.label.specs.declared.Label.{Label}
use Rattle.label.specs.Label.{well_formed}
use Rattle.option.specs.declared.Spellings.{Spellings}
use Rattle.option.specs.Spelling.{spelled_of}
use Rattle.option_form.specs.Spelled.{length_of, lacking}
use Rattle.option_write.specs.Keys.{laid}
use Rattle.option_spell.specs.declared.SpellError.{SpellError}
use Rattle.option_spell.specs.declared.SpellError.TheVariants.{Short, IllFormed, Unspelled}

-- a row of what spelling answers: number 0 and the option's length; or a refusal's number and 0
pub record Spelling : Type 0 where
  pub number : ℕ
  pub count : ℕ

abbrev pub number_of : SpellError → ℕ
number_of Short = 1
number_of IllFormed = 2
number_of Unspelled = 18

abbrev pub error_of : ℕ → SpellError
error_of n = cond (eqb n 1) Short (cond (eqb n 2) IllFormed Unspelled)

-- the answer of a row
abbrev pub told : Spelling → Result ℕ SpellError
told s = cond (eqb s.number 0) (Ok s.count) (Err (error_of s.number))

-- the row of an answer
abbrev pub row_of : Result ℕ SpellError → Spelling
row_of (Ok n) = record { number = 0; count = n }
row_of (Err e) = record { number = number_of e; count = 0 }

-- 1 for an output under 40 octets, then 2 for an ill-formed label, then 18 where it has no spelling; 0 is done
unfoldable pub spelling_number : Spellings → Label → ℕ → ℕ
spelling_number p l n = cond (ltb n 40) 1 (cond (not (well_formed l)) 2 (cond (lacking (spelled_of p l)) 18 0))

-- done, the count is the option's length; a refusal has count 0
unfoldable pub spelling_answer : Spellings → Label → ℕ → Spelling
spelling_answer p l n =
    cond (eqb (spelling_number p l n) 0) (record { number = 0; count = length_of (spelled_of p l) })
    (record { number = spelling_number p l n; count = 0 })

-- the option, zeros from there up to octet 39, and the octets from 40 on as they were; a refusal writes nothing
unfoldable pub spelling_out : Spellings → Label → List ℕ → List ℕ
spelling_out p l out = cond (eqb (spelling_number p l (length out)) 0) (laid (spelled_of p l) out) out
