-- Document 01, the table and "Slips we have made or seen": options, each with what it is read to, alone.
use Rattle.std.specs.Prelude.{ℕ, ◌≡◌, List, [], ◌∷◌, replicate}
use Rattle.label.specs.Runs.{run}
use Rattle.label.specs.Label.{label_of}
use Rattle.option_read.specs.Reading.{Reading}
use Rattle.option_read.specs.Reading.{found, not_read, reading_of}

pub record Example : Type 0 where
  pub octets : List ℕ
  pub reading : Reading

abbrev example : List ℕ → Reading → Example
example o r = record { octets = o; reading = r }

-- an option of domain 5 at level 3: its length, its tag's type and length, and its categories
abbrev option : ℕ → ℕ → ℕ → List ℕ → List ℕ
option n t m b = 134 ∷ n ∷ 0 ∷ 0 ∷ 0 ∷ 5 ∷ t ∷ m ∷ 0 ∷ 3 ∷ b

abbrev pub examples : List Example
examples =
    -- 3: empty, cut short, another type, longer or shorter than its buffer, a length under 2
    example [] (not_read 3 0)
    ∷ example (134 ∷ []) (not_read 3 0)
    ∷ example (130 ∷ 2 ∷ []) (not_read 3 0)
    ∷ example (option 11 1 4 []) (not_read 3 0)
    ∷ example (option 10 1 4 (0 ∷ [])) (not_read 3 0)
    ∷ example (134 ∷ 1 ∷ []) (not_read 3 0)
    -- 7, and 8 before 9
    ∷ example (134 ∷ 2 ∷ []) (not_read 7 1)
    ∷ example (134 ∷ 10 ∷ 0 ∷ 0 ∷ 0 ∷ 0 ∷ 9 ∷ 4 ∷ 0 ∷ 3 ∷ []) (not_read 8 2)
    -- 9, 10: an odd length, one past the option, an eighth pair; 11 after 10
    ∷ example (option 10 3 4 []) (not_read 9 6)
    ∷ example (option 11 2 5 (0 ∷ [])) (not_read 10 7)
    ∷ example (option 11 1 6 (0 ∷ [])) (not_read 10 7)
    ∷ example (option 40 5 34 (replicate 30 0)) (not_read 10 7)
    ∷ example (134 ∷ 10 ∷ 0 ∷ 0 ∷ 0 ∷ 5 ∷ 1 ∷ 5 ∷ 1 ∷ 3 ∷ []) (not_read 10 7)
    ∷ example (134 ∷ 10 ∷ 0 ∷ 0 ∷ 0 ∷ 5 ∷ 1 ∷ 4 ∷ 1 ∷ 3 ∷ []) (not_read 11 8)
    -- 12: a repeated number, 65535, a top below its bottom, a top that is the bottom before it; before 13
    ∷ example (option 14 2 8 (0 ∷ 7 ∷ 0 ∷ 7 ∷ [])) (not_read 12 12)
    ∷ example (option 12 2 6 (255 ∷ 255 ∷ [])) (not_read 12 10)
    ∷ example (option 14 5 8 (0 ∷ 7 ∷ 0 ∷ 8 ∷ [])) (not_read 12 10)
    ∷ example (option 18 5 12 (0 ∷ 9 ∷ 0 ∷ 8 ∷ 0 ∷ 8 ∷ 0 ∷ 1 ∷ [])) (not_read 12 14)
    ∷ example (option 13 2 6 (255 ∷ 255 ∷ 0 ∷ [])) (not_read 12 10)
    ∷ example (option 11 1 4 (0 ∷ [])) (not_read 13 10)
    -- labels: no categories; bit 0 is the top bit; touching numbers and pairs are one run; the last bottom left out; a trailing zero octet
    ∷ example (option 10 5 4 []) (found (label_of 5 3 []))
    ∷ example (option 11 1 5 (128 ∷ [])) (found (label_of 5 3 (run 0 0 ∷ [])))
    ∷ example (option 12 1 6 (0 ∷ 1 ∷ [])) (found (label_of 5 3 (run 15 15 ∷ [])))
    ∷ example (option 14 2 8 (3 ∷ 232 ∷ 3 ∷ 233 ∷ [])) (found (label_of 5 3 (run 1000 1001 ∷ [])))
    ∷ example (option 18 5 12 (1 ∷ 44 ∷ 1 ∷ 43 ∷ 1 ∷ 42 ∷ 1 ∷ 41 ∷ [])) (found (label_of 5 3 (run 297 300 ∷ [])))
    ∷ example (option 12 5 6 (0 ∷ 16 ∷ [])) (found (label_of 5 3 (run 0 16 ∷ [])))
    ∷ example (option 12 1 6 (127 ∷ 0 ∷ [])) (found (label_of 5 3 (run 1 7 ∷ [])))
    ∷ []

abbrev pub Holds : List Example → Type 0
Holds [] = Unit {0}
Holds (e ∷ es) = (reading_of e.octets ≡ e.reading) × Holds es
