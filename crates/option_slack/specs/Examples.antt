-- Options of domain 5 at level 3, and what reading them at a strict port of that domain gives: the number and the pointer.
use Rattle.std.specs.Prelude.{ℕ, ◌+◌, Bool, true, false, List, [], ◌∷◌, ◌++◌, ◌≡◌, length, replicate}
use Rattle.option_slack.specs.Strict.{strict_reading}

-- the tag's type, its length, its categories and what stands after it
pub record Example : Type 0 where
  pub strict : Bool
  pub octets : List ℕ
  pub number : ℕ
  pub pointer : ℕ

-- an option with a whole tag, and octets after it
abbrev option : ℕ → List ℕ → List ℕ → List ℕ
option t b rest = 134 ∷ (10 + length b + length rest) ∷ 0 ∷ 0 ∷ 0 ∷ 5 ∷ t ∷ (4 + length b) ∷ 0 ∷ 3 ∷ (b ++ rest)

abbrev example : Bool → List ℕ → ℕ → ℕ → Example
example s o n p = record { strict = s; octets = o; number = n; pointer = p }

-- refused with 23, or read
abbrev slack_one : ℕ → List ℕ → Example
slack_one t b = example true (option t b []) 23 10

abbrev fine : ℕ → List ℕ → Example
fine t b = example true (option t b []) 0 0

abbrev pub examples : List Example
examples =
    -- tag 1: a trailing zero octet, of one, two, nine and eleven to thirty octets
    slack_one 1 (0 ∷ [])
    ∷ slack_one 1 (128 ∷ 0 ∷ [])
    ∷ slack_one 1 (128 ∷ replicate 8 0)
    ∷ slack_one 1 (128 ∷ replicate 10 0)
    ∷ slack_one 1 (replicate 29 255 ++ (0 ∷ []))
    -- no octets, a last octet that is not 0, and exactly ten octets
    ∷ fine 1 []
    ∷ fine 1 (1 ∷ [])
    ∷ fine 1 (0 ∷ 1 ∷ [])
    ∷ fine 1 (128 ∷ replicate 9 0)
    ∷ fine 1 (replicate 10 0)
    ∷ fine 1 (replicate 9 0 ++ (1 ∷ []))
    ∷ fine 1 (replicate 10 0 ++ (1 ∷ []))
    -- tag 2: an octet of 0 at its end, and the number 0
    ∷ fine 2 (1 ∷ 0 ∷ [])
    ∷ fine 2 (0 ∷ 0 ∷ [])
    ∷ fine 2 (0 ∷ 7 ∷ 0 ∷ 8 ∷ [])
    -- tag 5: touching pairs, the first two, the last two; a gap of one category
    ∷ slack_one 5 (1 ∷ 44 ∷ 1 ∷ 43 ∷ 1 ∷ 42 ∷ 1 ∷ 41 ∷ [])
    ∷ slack_one 5 (1 ∷ 44 ∷ 1 ∷ 0 ∷ 0 ∷ 255 ∷ 0 ∷ 9 ∷ 0 ∷ 7 ∷ 0 ∷ 6 ∷ [])
    ∷ slack_one 5 (0 ∷ 60 ∷ 0 ∷ 50 ∷ 0 ∷ 40 ∷ 0 ∷ 30 ∷ 0 ∷ 29 ∷ 0 ∷ 20 ∷ [])
    ∷ slack_one 5 (0 ∷ 60 ∷ 0 ∷ 50 ∷ 0 ∷ 49 ∷ [])
    ∷ fine 5 (1 ∷ 44 ∷ 1 ∷ 43 ∷ 1 ∷ 41 ∷ 1 ∷ 40 ∷ [])
    ∷ fine 5 (0 ∷ 60 ∷ 0 ∷ 50 ∷ 0 ∷ 48 ∷ [])
    -- a last bottom of 0 written out, of an only pair too; left out; another last bottom
    ∷ slack_one 5 (0 ∷ 7 ∷ 0 ∷ 0 ∷ [])
    ∷ slack_one 5 (0 ∷ 0 ∷ 0 ∷ 0 ∷ [])
    ∷ slack_one 5 (0 ∷ 60 ∷ 0 ∷ 50 ∷ 0 ∷ 40 ∷ 0 ∷ 0 ∷ [])
    ∷ fine 5 (0 ∷ 7 ∷ [])
    ∷ fine 5 (0 ∷ 7 ∷ 0 ∷ 1 ∷ [])
    ∷ fine 5 (1 ∷ 7 ∷ 1 ∷ 0 ∷ [])
    ∷ fine 5 []
    -- 12 comes before 23: the second pair is above the first, and a bottom of 0 has another pair after it
    ∷ example true (option 5 (0 ∷ 7 ∷ 0 ∷ 5 ∷ 0 ∷ 9 ∷ 0 ∷ 0 ∷ []) []) 12 14
    ∷ example true (option 5 (0 ∷ 7 ∷ 0 ∷ 0 ∷ 0 ∷ 9 ∷ 0 ∷ 1 ∷ []) []) 12 14
    -- 23 before 13, over the tag's own octets; 13 where these are not slack
    ∷ example true (option 1 (128 ∷ 0 ∷ []) (7 ∷ [])) 23 10
    ∷ example true (option 1 (128 ∷ []) (0 ∷ [])) 13 11
    ∷ example true (option 5 (0 ∷ 7 ∷ 0 ∷ 0 ∷ []) (0 ∷ 1 ∷ [])) 23 10
    ∷ example true (option 5 (0 ∷ 7 ∷ []) (0 ∷ 0 ∷ [])) 13 12
    -- a port that is not strict
    ∷ example false (option 1 (128 ∷ 0 ∷ []) []) 0 0
    ∷ example false (option 1 (128 ∷ 0 ∷ []) (7 ∷ [])) 13 12
    ∷ example false (option 5 (0 ∷ 7 ∷ 0 ∷ 0 ∷ []) []) 0 0
    ∷ []

abbrev pub Holds : List Example → Type 0
Holds [] = Unit {0}
Holds (e ∷ es) = ((strict_reading e.strict 5 e.octets).number ≡ e.number) × ((strict_reading e.strict 5 e.octets).pointer ≡ e.pointer) × Holds es
