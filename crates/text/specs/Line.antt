-- Document 01, "The sample program": the line of a forwarding, of a refusal, and of a record that is cut short.
use Rattle.std.specs.Prelude.{ℕ, cond, List, [], ◌∷◌, ◌++◌, take, eqb}
use Rattle.text.specs.Text.{next, hex_of}

-- FORWARD
abbrev pub forward_word : List ℕ
forward_word = 70 ∷ 79 ∷ 82 ∷ 87 ∷ 65 ∷ 82 ∷ 68 ∷ []

-- DROP
abbrev pub drop_word : List ℕ
drop_word = 68 ∷ 82 ∷ 79 ∷ 80 ∷ []

-- BROKEN and the line's end
abbrev pub broken_line : List ℕ
broken_line = 66 ∷ 82 ∷ 79 ∷ 75 ∷ 69 ∷ 78 ∷ 10 ∷ []

-- a blank and the first `count` octets in hex; nothing for a count of 0, so that `FORWARD 0` has no blank behind it
unfoldable pub shown : ℕ → List ℕ → List ℕ
shown count area = cond (eqb count 0) [] (32 ∷ hex_of (take count area))

-- FORWARD, the count, the leaving area
unfoldable pub forward_line : ℕ → List ℕ → List ℕ
forward_line count area = forward_word ++ next count ++ shown count area ++ (10 ∷ [])

-- DROP, number, type, code, pointer
unfoldable pub drop_line : ℕ → ℕ → ℕ → ℕ → List ℕ
drop_line number kind code pointer = drop_word ++ next number ++ next kind ++ next code ++ next pointer ++ (10 ∷ [])
