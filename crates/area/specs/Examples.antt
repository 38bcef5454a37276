-- Worked areas, in one table: the areas, and what the walk answers for each: where option 130 is not read, where it is, and with check 4 left out.
use Rattle.std.specs.Prelude.{ℕ, true, false, ◌≡◌, List, [], ◌∷◌, map}
use Rattle.std.specs.Prelude.{Ok, Err, Some, None}
use Rattle.area.specs.Kinds.{Walk, places, fault}
use Rattle.area.specs.Area.{walk_of, open_walk}

pub record Example : Type 0 where
  pub area : List ℕ
  pub off : Walk
  pub on : Walk
  pub lax : Walk

abbrev pub alike : List ℕ → Walk → Example
alike area w = record { area = area; off = w; on = w; lax = w }

abbrev pub examples : List Example
examples =
    alike [] (Ok (places None None))
    ∷ alike (0 ∷ 134 ∷ 1 ∷ 0 ∷ []) (Ok (places None None))
    ∷ alike (1 ∷ 134 ∷ 3 ∷ 0 ∷ []) (Ok (places (Some 1) None))
    ∷ alike (134 ∷ 2 ∷ 134 ∷ 2 ∷ []) (Err (fault 5 2))
    ∷ alike (134 ∷ 2 ∷ 134 ∷ 3 ∷ []) (Err (fault 3 2))
    ∷ alike (1 ∷ 130 ∷ 9 ∷ 0 ∷ []) (Err (fault 3 1))
    ∷ alike (1 ∷ 1 ∷ 1 ∷ 7 ∷ []) (Err (fault 3 3))
    ∷ record { area = 1 ∷ 133 ∷ 2 ∷ 0 ∷ []; off = Err (fault 4 1); on = Err (fault 4 1); lax = Ok (places None None) }
    ∷ alike (7 ∷ 4 ∷ 133 ∷ 134 ∷ 134 ∷ 4 ∷ 0 ∷ 0 ∷ []) (Ok (places (Some 4) None))
    -- one option 130, alone and beside an option 134; a second one, and a second 134 before it
    ∷ record { area = 1 ∷ 130 ∷ 2 ∷ 0 ∷ []; off = Err (fault 4 1); on = Ok (places None (Some 1)); lax = Ok (places None (Some 1)) }
    ∷ record { area = 130 ∷ 4 ∷ 90 ∷ 128 ∷ 134 ∷ 4 ∷ 0 ∷ 0 ∷ []; off = Err (fault 4 0); on = Ok (places (Some 4) (Some 0)); lax = Ok (places (Some 4) (Some 0)) }
    ∷ record { area = 130 ∷ 2 ∷ 130 ∷ 2 ∷ []; off = Err (fault 4 0); on = Err (fault 5 2); lax = Err (fault 5 2) }
    ∷ record { area = 134 ∷ 2 ∷ 130 ∷ 2 ∷ 134 ∷ 2 ∷ 130 ∷ 2 ∷ []; off = Err (fault 4 2); on = Err (fault 5 4); lax = Err (fault 5 4) }
    -- two options 133, and a second 134 behind them
    ∷ record { area = 133 ∷ 2 ∷ 133 ∷ 2 ∷ 134 ∷ 2 ∷ 134 ∷ 2 ∷ []; off = Err (fault 4 0); on = Err (fault 4 0); lax = Err (fault 5 6) }
    ∷ []

abbrev pub WorkedAreas : Type 0
WorkedAreas =
    (map (λ (e : Example). walk_of false e.area) examples ≡ map (λ (e : Example). e.off) examples)
    × (map (λ (e : Example). walk_of true e.area) examples ≡ map (λ (e : Example). e.on) examples)
    × (map (λ (e : Example). open_walk e.area) examples ≡ map (λ (e : Example). e.lax) examples)
