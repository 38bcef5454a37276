-- Document 02, Wishes 5 and 6: worked decisions by the spellings that ports permit, and toward unlabelled hosts, as `Worked` has those of document 01.
use Rattle.std.specs.Prelude.{◌≡◌, Bool, true, false, List, [], ◌∷◌, ◌++◌, map, ℕ, replicate}
use Rattle.label.specs.declared.Label.{Label}
use Rattle.option.specs.declared.Spellings.{Spellings}
use Rattle.option.specs.Table.{only_shortest, only_ten, no_spelling}
use Rattle.port.specs.declared.Port.{Port}
use Rattle.demands.specs.Worked.{bare, one, nothing, requires, assigns, unspelled, beyond, Case, leave, pass, drop, blocked, option, empty, case_answer, awaited}

-- a port with other permitted spellings
abbrev pub permitting : Spellings → Port → Port
permitting s p =
    record {
      domain = p.domain;
      lowest = p.lowest;
      highest = p.highest;
      required = p.required;
      assigned = p.assigned;
      basic = p.basic;
      spellings = s;
      unlabelled = p.unlabelled;
      default = p.default;
      strict = p.strict;
    }

-- a port that faces unlabelled hosts with this label, or a labelled one that has a default label
abbrev pub facing : Bool → Label → Port → Port
facing u l p =
    record {
      domain = p.domain;
      lowest = p.lowest;
      highest = p.highest;
      required = p.required;
      assigned = p.assigned;
      basic = p.basic;
      spellings = p.spellings;
      unlabelled = u;
      default = l;
      strict = p.strict;
    }

-- forwarded between two ports into 41 octets: the count, the label and what the first 40 hold
abbrev pub passed : Port → Port → List ℕ → ℕ → Label → List ℕ → Case
passed p q area n l o = record { job = leave q 41; port = p; area = area; answer = pass n l; output = o ++ (9 ∷ []) }

-- {297..300} in tag 5; {16} in tag 2
abbrev pub pair : List ℕ
pair = option 14 5 5 8 0 3 (1 ∷ 44 ∷ 1 ∷ 41 ∷ 0 ∷ 0 ∷ [])

abbrev pub single : List ℕ
single = option 12 5 2 6 0 3 (0 ∷ 16 ∷ [])

abbrev pub by_spellings : List Case
by_spellings =
    -- a label that needs tag 2 or 5, toward a port that knows tag 1 only: 18; {16} fits its bitmap
    blocked requires (permitting only_shortest beyond) pair (drop 18 3 9 0)
    ∷ passed requires (permitting only_shortest beyond) single 16 (one 3 16 16) (option 13 5 1 7 0 3 (0 ∷ 0 ∷ 128 ∷ replicate 27 0))
    -- toward one that knows ten octets only: ten octets for every label that they hold
    ∷ passed requires (permitting only_ten beyond) (empty 3 (0 ∷ 0 ∷ [])) 20 (bare 3) (option 20 5 1 14 0 3 (replicate 30 0))
    ∷ passed requires (permitting only_ten beyond) single 20 (one 3 16 16) (option 20 5 1 14 0 3 (0 ∷ 0 ∷ 128 ∷ replicate 27 0))
    ∷ blocked requires (permitting only_ten beyond) pair (drop 18 3 9 0)
    -- the leaving port's set decides, not the arriving one's
    ∷ passed (permitting only_ten requires) beyond single 12 (one 3 16 16) (option 12 5 2 6 0 3 (0 ∷ 16 ∷ replicate 28 0))
    -- an empty set is unsound, on either port
    ∷ blocked requires (permitting no_spelling beyond) single (drop 2 0 0 0)
    ∷ blocked (permitting no_spelling requires) beyond single (drop 2 0 0 0)
    ∷ []

abbrev pub by_default : List Case
by_default =
    -- the label is the default label: no option 134, nothing or the kept options
    passed requires (facing true (one 3 16 16) beyond) single 0 (one 3 16 16) (replicate 40 0)
    ∷ passed requires (facing true (bare 3) beyond) (empty 3 (148 ∷ 4 ∷ 7 ∷ 7 ∷ 1 ∷ 0 ∷ [])) 4 (bare 3) (148 ∷ 4 ∷ 7 ∷ 7 ∷ replicate 36 0)
    -- within the range and not equal, at the level or in a category: 17
    ∷ blocked requires (facing true (bare 4) beyond) (empty 3 (0 ∷ 0 ∷ [])) (drop 17 3 9 0)
    ∷ blocked requires (facing true (one 3 16 17) beyond) single (drop 17 3 9 0)
    ∷ blocked requires (facing true (bare 3) beyond) single (drop 17 3 9 0)
    -- a label with no spelling, and 40 octets that are kept: 18 isn't given
    ∷ passed unspelled (facing true unspelled.assigned beyond) [] 0 unspelled.assigned (replicate 40 0)
    ∷ passed assigns (facing true (bare 3) beyond) (148 ∷ 40 ∷ replicate 38 7) 40 (bare 3) (148 ∷ 40 ∷ replicate 38 7)
    -- the leaving port's default label decides, not the arriving one's
    ∷ passed (facing true (bare 4) requires) (facing true (bare 3) beyond) (empty 3 (0 ∷ 0 ∷ [])) 0 (bare 3) (replicate 40 0)
    ∷ passed (facing true (bare 4) requires) beyond (empty 3 (0 ∷ 0 ∷ [])) 12 (bare 3) (empty 3 (replicate 30 0))
    -- unsound: out of the range, all zero, or given on a labelled port
    ∷ blocked requires (facing true (bare 1) beyond) single (drop 2 0 0 0)
    ∷ blocked requires (facing true nothing beyond) single (drop 2 0 0 0)
    ∷ blocked requires (facing false (bare 3) beyond) single (drop 2 0 0 0)
    ∷ []

abbrev pub LeavingDecisions : Type 0
LeavingDecisions = (map case_answer by_spellings ≡ map awaited by_spellings) × (map case_answer by_default ≡ map awaited by_default)
