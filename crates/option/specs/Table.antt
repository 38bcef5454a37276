-- P1 to P11 of document 01: sets of categories, and the tag that each is spelled in, octet by octet.
use Rattle.std.specs.Prelude.{ℕ, zero, suc, ◌+◌, ◌≡◌, true, false, List, [], ◌∷◌, ◌++◌, map, drop, replicate}
use Rattle.std.proofs.Math.Option.{Option, none, some}
use Rattle.label.specs.declared.Run.{Run}
use Rattle.label.specs.Runs.{run}
use Rattle.option.specs.Reading.{option_runs}
use Rattle.option.specs.declared.Spellings.{Spellings}
use Rattle.option.specs.Permitted.{usual}
use Rattle.option.specs.Spelling.{spelling_of}

-- n categories from x on, every other one
abbrev pub every_other : ℕ → ℕ → List Run
every_other x zero = []
every_other x (suc n) = run x x ∷ every_other (x + 2) n

-- a set of categories, and the tag of its spelling at level 3 (type, length, alignment, level, categories), or none where it is refused
pub record Row : Type 0 where
  pub categories : List Run
  pub tag : Option (List ℕ)

abbrev pub table : List Row
table =
    -- P1 no categories: tag 1, length 4
    record { categories = []; tag = some (1 ∷ 4 ∷ 0 ∷ 3 ∷ []) }
    -- P2 {15}: tags 1 and 2 tie at 6, tag 1
    ∷ record { categories = run 15 15 ∷ []; tag = some (1 ∷ 6 ∷ 0 ∷ 3 ∷ 0 ∷ 1 ∷ []) }
    -- P3 {16}: tag 2, length 6
    ∷ record { categories = run 16 16 ∷ []; tag = some (2 ∷ 6 ∷ 0 ∷ 3 ∷ 0 ∷ 16 ∷ []) }
    -- P4 {0..15}: tag 1
    ∷ record { categories = run 0 15 ∷ []; tag = some (1 ∷ 6 ∷ 0 ∷ 3 ∷ 255 ∷ 255 ∷ []) }
    -- P5 {0..16}: tag 5, length 6, octets 00 10
    ∷ record { categories = run 0 16 ∷ []; tag = some (5 ∷ 6 ∷ 0 ∷ 3 ∷ 0 ∷ 16 ∷ []) }
    -- P6 {1000, 1001}: tags 2 and 5 tie at 8, tag 2
    ∷ record { categories = run 1000 1001 ∷ []; tag = some (2 ∷ 8 ∷ 0 ∷ 3 ∷ 3 ∷ 232 ∷ 3 ∷ 233 ∷ []) }
    -- P7 {0..65534}: tag 5, octets ff fe
    ∷ record { categories = run 0 65534 ∷ []; tag = some (5 ∷ 6 ∷ 0 ∷ 3 ∷ 255 ∷ 254 ∷ []) }
    -- P8 240, 242, .. 268 (15): tag 2, length 34
    ∷ record {
      categories = every_other 240 15;
      tag = some (2 ∷ 34 ∷ 0 ∷ 3 ∷ 0 ∷ 240 ∷ 0 ∷ 242 ∷ 0 ∷ 244 ∷ 0 ∷ 246 ∷ 0 ∷ 248 ∷ 0 ∷ 250 ∷ 0 ∷ 252 ∷ 0 ∷ 254 ∷ 1 ∷ 0 ∷ 1 ∷ 2 ∷ 1 ∷ 4 ∷ 1 ∷ 6 ∷ 1 ∷ 8 ∷ 1 ∷ 10 ∷ 1 ∷ 12 ∷ []);
    }
    -- P9 up to 270 (16): refused
    ∷ record { categories = every_other 240 16; tag = none }
    -- P10 odd numbers 1..239 (120 runs): tag 1, length 34
    ∷ record { categories = every_other 1 120; tag = some (1 ∷ 34 ∷ 0 ∷ 3 ∷ replicate 30 85) }
    -- P11 what pairs 300-299, 298-297 are read to: one pair 01 2c 01 29
    ∷ record {
      categories = option_runs (134 ∷ 18 ∷ 0 ∷ 0 ∷ 0 ∷ 5 ∷ 5 ∷ 12 ∷ 0 ∷ 3 ∷ 1 ∷ 44 ∷ 1 ∷ 43 ∷ 1 ∷ 42 ∷ 1 ∷ 41 ∷ []);
      tag = some (5 ∷ 8 ∷ 0 ∷ 3 ∷ 1 ∷ 44 ∷ 1 ∷ 41 ∷ []);
    }
    ∷ []

-- the tag of the spelling at level 3 in domain 5, under a set of permitted ones
abbrev pub tag_at3 : Spellings → List Run → Option (List ℕ)
tag_at3 p rs = elim (spelling_of p 5 3 rs) [ none ↦ none | some o ↦ some (drop 6 o) ]

abbrev pub TableHolds : Type 0
TableHolds = map (λ (r : Row). tag_at3 usual r.categories) table ≡ map (λ (r : Row). r.tag) table

-- Document 02, Wish 5: the same with other sets.
pub record SetRow : Type 0 where
  pub permitted : Spellings
  pub categories : List Run
  pub tag : Option (List ℕ)

abbrev pub only_shortest : Spellings
only_shortest = record { shortest = true; ten = false; numbers = false; pairs = false }

abbrev pub only_ten : Spellings
only_ten = record { shortest = false; ten = true; numbers = false; pairs = false }

abbrev pub ten_and_numbers : Spellings
ten_and_numbers = record { shortest = false; ten = true; numbers = true; pairs = false }

abbrev pub all_four : Spellings
all_four = record { shortest = true; ten = true; numbers = true; pairs = true }

abbrev pub no_spelling : Spellings
no_spelling = record { shortest = false; ten = false; numbers = false; pairs = false }

abbrev pub set_table : List SetRow
set_table =
    -- ten octets, also for no categories
    record { permitted = only_ten; categories = []; tag = some (1 ∷ 14 ∷ 0 ∷ 3 ∷ replicate 10 0) }
    ∷ record { permitted = only_ten; categories = run 15 15 ∷ []; tag = some (1 ∷ 14 ∷ 0 ∷ 3 ∷ 0 ∷ 1 ∷ replicate 8 0) }
    -- 79 is the last category of ten octets
    ∷ record { permitted = only_ten; categories = run 79 79 ∷ []; tag = some (1 ∷ 14 ∷ 0 ∷ 3 ∷ replicate 9 0 ++ 1 ∷ []) }
    ∷ record { permitted = only_ten; categories = run 80 80 ∷ []; tag = none }
    -- tag 1 alone: 239 is its last category
    ∷ record { permitted = only_shortest; categories = run 239 239 ∷ []; tag = some (1 ∷ 34 ∷ 0 ∷ 3 ∷ replicate 29 0 ++ 1 ∷ []) }
    ∷ record { permitted = only_shortest; categories = run 0 240 ∷ []; tag = none }
    -- five numbers and ten octets tie at 14, ten octets; four numbers are shorter
    ∷ record { permitted = ten_and_numbers; categories = every_other 8 5; tag = some (1 ∷ 14 ∷ 0 ∷ 3 ∷ 0 ∷ 170 ∷ 128 ∷ replicate 7 0) }
    ∷ record { permitted = ten_and_numbers; categories = every_other 8 4; tag = some (2 ∷ 12 ∷ 0 ∷ 3 ∷ 0 ∷ 8 ∷ 0 ∷ 10 ∷ 0 ∷ 12 ∷ 0 ∷ 14 ∷ []) }
    -- the shortest bitmap is taken where ten octets are permitted too
    ∷ record { permitted = all_four; categories = run 15 15 ∷ []; tag = some (1 ∷ 6 ∷ 0 ∷ 3 ∷ 0 ∷ 1 ∷ []) }
    -- nothing is permitted
    ∷ record { permitted = no_spelling; categories = []; tag = none }
    ∷ []

abbrev pub SetTableHolds : Type 0
SetTableHolds = map (λ (r : SetRow). tag_at3 r.permitted r.categories) set_table ≡ map (λ (r : SetRow). r.tag) set_table
