-- RFC 791: every option of the list of options met stands in the area.
use Rattle.std.specs.Prelude.{ℕ, ◌<◌, List, [], ◌∷◌, ◌≡◌, length, get_or, drop}
use Rattle.area.specs.Kinds.{kind_of, size_of}
use Rattle.area.specs.Area.{Met, span_of, met_of}

-- and its type and length are those of the octets there
abbrev pub StandIn : List ℕ → List Met → Type 0
StandIn area [] = Unit {0}
StandIn area (m ∷ ms) =
    (m.at < length area) × (m.kind ≡ kind_of (get_or area m.at 0)) × (m.size ≡ span_of m.kind (size_of (drop m.at area))) × StandIn area ms

abbrev pub MetStand : Type 0
MetStand = (area : List ℕ) → StandIn area (met_of area)
