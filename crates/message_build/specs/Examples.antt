-- Worked answers, in one table: a report about a header, the room in both outputs, and what is decided.
use Rattle.std.specs.Prelude.{ℕ, ◌≡◌, Bool, true, false, List, [], ◌∷◌, ◌++◌, map, take, drop}
use Rattle.message_build.specs.declared.Report.{Report}
use Rattle.message_build.specs.declared.BuildError.TheVariants.{Unsound, Short}
use Rattle.message_build.specs.Answer.{number_of, without, row_of}
use Rattle.message_build.specs.Build.{unanswered, Outcome, refused, quiet, goes, outcome, built_of}

pub record Example : Type 0 where
  pub report : Report
  pub header : List ℕ
  pub room : ℕ
  pub space : ℕ
  pub out : Outcome

abbrev pub report : ℕ → ℕ → ℕ → ℕ → Report
report number kind code pointer = record { number = number; kind = kind; code = code; pointer = pointer }

abbrev pub example : Report → List ℕ → ℕ → ℕ → Outcome → Example
example r header room space out = record { report = r; header = header; room = room; space = space; out = out }

-- a header without options, one with a valid option 134, one with an option 134 that is too short, and one whose length field says 24 octets
abbrev pub bare : List ℕ
bare = 69 ∷ 0 ∷ 0 ∷ 28 ∷ 0 ∷ 1 ∷ 0 ∷ 0 ∷ 64 ∷ 17 ∷ 0 ∷ 0 ∷ 10 ∷ 0 ∷ 0 ∷ 1 ∷ 10 ∷ 0 ∷ 0 ∷ 2 ∷ []

abbrev pub labelled : List ℕ
labelled = 72 ∷ 0 ∷ 0 ∷ 28 ∷ 0 ∷ 1 ∷ 0 ∷ 0 ∷ 64 ∷ 17 ∷ 0 ∷ 0 ∷ 10 ∷ 0 ∷ 0 ∷ 1 ∷ 10 ∷ 0 ∷ 0 ∷ 2 ∷ 134 ∷ 10 ∷ 0 ∷ 0 ∷ 0 ∷ 5 ∷ 1 ∷ 4 ∷ 0 ∷ 3 ∷ 0 ∷ 0 ∷ []

abbrev pub broken : List ℕ
broken = 70 ∷ 0 ∷ 0 ∷ 28 ∷ 0 ∷ 1 ∷ 0 ∷ 0 ∷ 64 ∷ 17 ∷ 0 ∷ 0 ∷ 10 ∷ 0 ∷ 0 ∷ 1 ∷ 10 ∷ 0 ∷ 0 ∷ 2 ∷ 134 ∷ 4 ∷ 0 ∷ 0 ∷ []

abbrev pub cut : List ℕ
cut = 70 ∷ 0 ∷ 0 ∷ 28 ∷ 0 ∷ 1 ∷ 0 ∷ 0 ∷ 64 ∷ 17 ∷ 0 ∷ 0 ∷ 10 ∷ 0 ∷ 0 ∷ 1 ∷ 10 ∷ 0 ∷ 0 ∷ 2 ∷ []

abbrev pub data8 : List ℕ
data8 = 0 ∷ 53 ∷ 0 ∷ 54 ∷ 0 ∷ 8 ∷ 1 ∷ 2 ∷ []

-- one of 60 octets: an option 134 of 38, and two octets of type 1
abbrev pub longest : List ℕ
longest = 79 ∷ 0 ∷ 0 ∷ 68 ∷ 0 ∷ 1 ∷ 0 ∷ 0 ∷ 64 ∷ 17 ∷ 0 ∷ 0 ∷ 10 ∷ 0 ∷ 0 ∷ 1 ∷ 10 ∷ 0 ∷ 0 ∷ 2 ∷ 134 ∷ 38 ∷ 0 ∷ 0 ∷ 0 ∷ 5 ∷ 1 ∷ 32 ∷ 0 ∷ 3 ∷ 17 ∷ 34 ∷ 51 ∷ 68 ∷ 85 ∷ 102 ∷ 119 ∷ 136 ∷ 153 ∷ 170 ∷ 187 ∷ 204 ∷ 221 ∷ 238 ∷ 255 ∷ 16 ∷ 33 ∷ 50 ∷ 67 ∷ 84 ∷ 101 ∷ 118 ∷ 135 ∷ 152 ∷ 169 ∷ 186 ∷ 203 ∷ 220 ∷ 1 ∷ 1 ∷ []

abbrev pub examples : List Example
examples =
    -- 6 without an option; 17 with the label copied and padded; a number that the box does not give
    example (report 6 12 1 134) bare 36 0 (goes (12 ∷ 1 ∷ 211 ∷ 87 ∷ 134 ∷ 0 ∷ 0 ∷ 0 ∷ 69 ∷ 0 ∷ 0 ∷ 28 ∷ 0 ∷ 1 ∷ 0 ∷ 0 ∷ 64 ∷ 17 ∷ 0 ∷ 0 ∷ 10 ∷ 0 ∷ 0 ∷ 1 ∷ 10 ∷ 0 ∷ 0 ∷ 2 ∷ 0 ∷ 53 ∷ 0 ∷ 54 ∷ 0 ∷ 8 ∷ 1 ∷ 2 ∷ []) [])
    ∷ example (report 17 3 9 0) labelled 48 12 (goes (3 ∷ 9 ∷ 216 ∷ 57 ∷ 0 ∷ 0 ∷ 0 ∷ 0 ∷ 72 ∷ 0 ∷ 0 ∷ 28 ∷ 0 ∷ 1 ∷ 0 ∷ 0 ∷ 64 ∷ 17 ∷ 0 ∷ 0 ∷ 10 ∷ 0 ∷ 0 ∷ 1 ∷ 10 ∷ 0 ∷ 0 ∷ 2 ∷ 134 ∷ 10 ∷ 0 ∷ 0 ∷ 0 ∷ 5 ∷ 1 ∷ 4 ∷ 0 ∷ 3 ∷ 0 ∷ 0 ∷ 0 ∷ 53 ∷ 0 ∷ 54 ∷ 0 ∷ 8 ∷ 1 ∷ 2 ∷ []) (134 ∷ 10 ∷ 0 ∷ 0 ∷ 0 ∷ 5 ∷ 1 ∷ 4 ∷ 0 ∷ 3 ∷ 0 ∷ 0 ∷ []))
    ∷ example (report 99 12 1 134) bare 512 512 (goes (12 ∷ 1 ∷ 211 ∷ 87 ∷ 134 ∷ 0 ∷ 0 ∷ 0 ∷ 69 ∷ 0 ∷ 0 ∷ 28 ∷ 0 ∷ 1 ∷ 0 ∷ 0 ∷ 64 ∷ 17 ∷ 0 ∷ 0 ∷ 10 ∷ 0 ∷ 0 ∷ 1 ∷ 10 ∷ 0 ∷ 0 ∷ 2 ∷ 0 ∷ 53 ∷ 0 ∷ 54 ∷ 0 ∷ 8 ∷ 1 ∷ 2 ∷ []) [])
    -- 17 about a header of 60 octets; 22 of a box of many ports
    ∷ example (report 17 3 9 0) longest 76 40 (goes (3 ∷ 9 ∷ 196 ∷ 223 ∷ 0 ∷ 0 ∷ 0 ∷ 0 ∷ (longest ++ data8)) (take 38 (drop 20 longest) ++ (0 ∷ 0 ∷ [])))
    ∷ example (report 22 3 0 0) bare 36 0 (goes (3 ∷ 0 ∷ 98 ∷ 89 ∷ 0 ∷ 0 ∷ 0 ∷ 0 ∷ (bare ++ data8)) [])
    -- nothing is sent: silent, refusals 3, 4, 8, 13 and 23, and an option 134 that is not valid; no output is asked for room
    ∷ example (report 3 12 0 20) bare 0 0 quiet
    ∷ example (report 13 12 0 30) labelled 0 0 quiet
    ∷ example (report 17 0 0 0) labelled 0 0 quiet
    ∷ example (report 4 12 0 20) bare 0 0 quiet
    ∷ example (report 8 12 0 22) labelled 0 0 quiet
    ∷ example (report 23 12 0 30) labelled 0 0 quiet
    ∷ example (report 17 3 9 0) broken 0 0 quiet
    -- 2: a header cut off, type 11, type 0 with a code, type 3 with a pointer; before nothing is sent
    ∷ example (report 6 12 1 134) cut 512 512 (refused Unsound)
    ∷ example (report 6 11 0 0) bare 512 512 (refused Unsound)
    ∷ example (report 6 0 1 0) bare 512 512 (refused Unsound)
    ∷ example (report 4 3 9 1) bare 512 512 (refused Unsound)
    ∷ example (report 6 0 0 1) bare 512 512 (refused Unsound)
    -- 2 comes before 24, and a silent refusal about a header cut off is 2
    ∷ example (report 6 11 0 0) bare 0 0 (refused Unsound)
    ∷ example (report 6 0 0 0) cut 0 0 (refused Unsound)
    -- 24: one octet short in either output
    ∷ example (report 6 12 1 134) bare 35 512 (refused Short)
    ∷ example (report 17 3 9 0) labelled 512 11 (refused Short)
    ∷ []

-- the refusals from 0 to 24 that are not answered
abbrev pub not_answered : List Bool
not_answered =
    -- 0 to 2; 3 to 5; 6; 7 to 13
    false ∷ false ∷ false ∷ true ∷ true ∷ true ∷ false ∷ true ∷ true ∷ true ∷ true ∷ true ∷ true ∷ true
    -- 14 to 22; 23; 24
    ∷ false ∷ false ∷ false ∷ false ∷ false ∷ false ∷ false ∷ false ∷ false ∷ true ∷ false ∷ []

abbrev pub WorkedAnswers : Type 0
WorkedAnswers =
    (map (λ (e : Example). outcome e.report e.header data8 e.room e.space) examples ≡ map (λ (e : Example). e.out) examples)
    × (map unanswered (0 ∷ 1 ∷ 2 ∷ 3 ∷ 4 ∷ 5 ∷ 6 ∷ 7 ∷ 8 ∷ 9 ∷ 10 ∷ 11 ∷ 12 ∷ 13 ∷ 14 ∷ 15 ∷ 16 ∷ 17 ∷ 18 ∷ 19 ∷ 20 ∷ 21 ∷ 22 ∷ 23 ∷ 24 ∷ []) ≡ not_answered)
    × ((number_of Unsound ≡ 2) × (number_of Short ≡ 24))
    × ((row_of (built_of (refused Unsound)) ≡ without 2) × (row_of (built_of quiet) ≡ without 0) × (row_of (built_of (refused Short)) ≡ without 24))
