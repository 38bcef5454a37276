-- The words of the lines that `cases` writes: a decision, a label, an output, yes or no.
use Rattle.std.specs.Prelude.{ℕ, ◌/◌, ◌%◌, Bool, cond, List, [], ◌∷◌, ◌++◌, length, get_or, eqb}
use Rattle.label.specs.declared.Run.{Run}
use Rattle.label.specs.declared.Label.{Label}
use Rattle.label.specs.Label.{used}
use Rattle.decision.specs.declared.Decision.{Decision}
use Rattle.text.specs.Text.{decimal, hex_of}
use Rattle.text.specs.Text.{next}

-- YES or NO
unfoldable pub answer_word : Bool → List ℕ
answer_word b = cond b (89 ∷ 69 ∷ 83 ∷ []) (78 ∷ 79 ∷ [])

-- BROKEN
abbrev pub broken_word : List ℕ
broken_word = 66 ∷ 82 ∷ 79 ∷ 75 ∷ 69 ∷ 78 ∷ []

-- the words of each of a list, one after the other
unfoldable pub each : {A : Type 0} → (A → List ℕ) → List A → List ℕ
each words [] = []
each words (x ∷ xs) = words x ++ each words xs

-- low and high of a run
abbrev pub run_words : Run → List ℕ
run_words r = next r.low ++ next r.high

abbrev pub runs_words : List Run → List ℕ
runs_words = each run_words

-- low and high of a run that is one number
abbrev pub key_words : ℕ → List ℕ
key_words key = next (key / 65536) ++ next (key % 65536)

abbrev pub keys_words : List ℕ → List ℕ
keys_words = each key_words

-- both levels of a pair
abbrev pub pair_words : List ℕ → List ℕ
pair_words p = next (get_or p 0 0) ++ next (get_or p 1 0)

abbrev pub pairs_words : List (List ℕ) → List ℕ
pairs_words = each pair_words

-- numbers
abbrev pub numbers_words : List ℕ → List ℕ
numbers_words = each next

-- domain, level, count, and the first `count` runs
unfoldable pub label_words : Label → List ℕ
label_words l = ((next l.domain ++ next l.level) ++ next l.count) ++ runs_words (used l)

-- an output: all its octets in hex, or `-` where it has none
unfoldable pub output_word : List ℕ → List ℕ
output_word octets = (32 ∷ []) ++ cond (eqb (length octets) 0) (45 ∷ []) (hex_of octets)

-- entries 6 and 7: number, type, code, pointer, count, label
unfoldable pub decision_words : Decision → List ℕ
decision_words d =
    ((((decimal d.number ++ next d.kind) ++ next d.code) ++ next d.pointer) ++ next d.count) ++ label_words d.label
