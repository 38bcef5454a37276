-- What the functions for C and Rust answer, in numbers: what is lent stays as it was behind what is written, and where it is too short for the
-- answer nothing is written and the number is 1 (house).
use Rattle.std.specs.Prelude.{ℕ, ◌≡◌, Bool, cond, ◌&&◌, List, [], ◌∷◌, ◌++◌, length, drop, leb}
use Rattle.label.specs.declared.Label.{Label}
use Rattle.label_keys.specs.Keys.{key_runs, label_from, with_keys}
use Rattle.option_read.specs.Reading.{Reading}
use Rattle.option_read.specs.Reading.{reading_of}
use Rattle.option.specs.Permitted.{usual}
use Rattle.option_spell.specs.Spelling.{Spelling}
use Rattle.option_spell.specs.Spelling.{spelling_answer, spelling_out}
use Rattle.decision.specs.declared.Decision.{Decision}
use Rattle.decision.specs.declared.Facts.{Facts}
use Rattle.forward_rules.specs.Crossing.{Forwarding}
use Rattle.forward_rules.specs.Forward.{forwarding_of}
use Rattle.forward_rules.specs.Forward.{forward_of, output_of}
use Rattle.sample_records.specs.Sample as sample

-- numbers at the head of what is lent
unfoldable pub with_numbers : List ℕ → List ℕ → List ℕ
with_numbers numbers lent = numbers ++ drop (length numbers) lent

-- a label's domain, level and count of runs; the runs themselves stand in a list of their own, as keys
abbrev pub label_numbers : Label → List ℕ
label_numbers l = l.domain ∷ l.level ∷ l.count ∷ []

-- number, pointer, label
abbrev pub reading_numbers : Reading → List ℕ
reading_numbers r = r.number ∷ r.pointer ∷ label_numbers r.label

-- number, length of the option
abbrev pub spelling_numbers : Spelling → List ℕ
spelling_numbers s = s.number ∷ s.count ∷ []

-- number, type, code, pointer, count, label
abbrev pub decision_numbers : Decision → List ℕ
decision_numbers d = d.number ∷ d.kind ∷ d.code ∷ d.pointer ∷ d.count ∷ label_numbers d.label

-- there is room for the numbers, and for the runs of any label
abbrev pub roomy : ℕ → List ℕ → List ℕ → Bool
roomy n answer runs = leb n (length answer) && leb 120 (length runs)

-- One option read: `answer` and `runs` at entry and at exit, and what is returned.
pub record Reads (octets answer runs answer' runs' : List ℕ) (r : ℕ) : Type 0 where
  pub number : r ≡ cond (roomy 5 answer runs) (reading_of octets).number 1
  pub numbers : answer' ≡ cond (roomy 5 answer runs) (with_numbers (reading_numbers (reading_of octets)) answer) answer
  pub keys : runs' ≡ cond (roomy 5 answer runs) (with_keys (reading_of octets).label runs) runs

-- the label that numbers stand for: with over 120 runs the all-zero one, which is ill-formed
abbrev pub label_of_keys : ℕ → ℕ → List ℕ → Label
label_of_keys domain level runs = label_from domain level (key_runs runs)

-- A label spelled as document 01 permits it: `out` and `answer` at entry and at exit, and what is returned.
pub record Spells (l : Label) (out answer out' answer' : List ℕ) (r : ℕ) : Type 0 where
  pub number : r ≡ cond (leb 2 (length answer)) (spelling_answer usual l (length out)).number 1
  pub numbers : answer' ≡ cond (leb 2 (length answer)) (with_numbers (spelling_numbers (spelling_answer usual l (length out))) answer) answer
  pub octets : out' ≡ cond (leb 2 (length answer)) (spelling_out usual l out) out

-- what is asked of the sample's gateway, with the five facts as they are stated
abbrev pub facts_of : Bool → Bool → Bool → Bool → Bool → Facts
facts_of error group link fragment source = record { error = error; group = group; link = link; fragment = fragment; source = source }

abbrev pub sample_forwarding : Facts → List ℕ → ℕ → Forwarding
sample_forwarding facts area room = forwarding_of sample.arriving sample.leaving sample.table sample.levels facts area room

-- An area forwarded: `out`, `answer` and `runs` at entry and at exit, and what is returned.
pub record Forwards (f : Forwarding) (out answer runs out' answer' runs' : List ℕ) (r : ℕ) : Type 0 where
  pub number : r ≡ cond (roomy 8 answer runs) (forward_of f).number 1
  pub numbers : answer' ≡ cond (roomy 8 answer runs) (with_numbers (decision_numbers (forward_of f)) answer) answer
  pub keys : runs' ≡ cond (roomy 8 answer runs) (with_keys (forward_of f).label runs) runs
  pub octets : out' ≡ cond (roomy 8 answer runs) (output_of f out) out
