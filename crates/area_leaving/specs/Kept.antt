-- Document 01, "The leaving area": the kept options of an area, and what is written.
use Rattle.std.specs.Prelude.{ℕ, ◌+◌, ◌-◌, ◌*◌, ◌/◌, List, [], ◌∷◌, ◌++◌, Bool, cond, ◌&&◌, leb, length, take, drop, replicate}
use Rattle.area.specs.declared.Kind.{Kind}
use Rattle.area.specs.declared.Kind.TheVariants.{End, NoOperation, Basic, Extended, Cipso, Other}
use Rattle.std.specs.Prelude.{Some, None}
use Rattle.area.specs.Area.{Met, met_of}

-- how many octets are kept of an option of n octets: a kept option is one the walk meets, not 134, 0 or 1
abbrev pub kept_len : Kind → ℕ → ℕ
kept_len End n = 0
kept_len NoOperation n = 0
kept_len Basic n = n
kept_len Extended n = n
kept_len Cipso n = 0
kept_len Other n = n

-- what is kept of an option that the walk meets
abbrev pub kept_in : List ℕ → Met → List ℕ
kept_in area m = elim m.size [ Some n ↦ take (kept_len m.kind n) (drop m.at area) | None ↦ [] ]

-- in order
abbrev pub kept_among : List ℕ → List Met → List ℕ
kept_among area [] = []
kept_among area (m ∷ ms) = kept_in area m ++ kept_among area ms

unfoldable pub kept_of : List ℕ → List ℕ
kept_of area = kept_among area (met_of area)

-- up to a multiple of 4
abbrev pub round_up : ℕ → ℕ
round_up n = (n + 3) / 4 * 4

-- the whole leaving area in the output: the option, the kept options in order, zeros up to octet 39; octets from 40 on are unchanged
abbrev pub leaving_of : List ℕ → List ℕ → List ℕ → List ℕ
leaving_of opt kept out = opt ++ (kept ++ (replicate (40 - (length opt + length kept)) 0 ++ drop 40 out))

-- there is room: an output of at least 40 octets, and at most 40 octets of options
abbrev pub has_room : ℕ → ℕ → ℕ → Bool
has_room from kept n = leb 40 n && leb (from + kept) 40

-- the count of an area whose first `from` octets are written, with `kept` octets of kept options: zeros pad to a multiple of 4
unfoldable pub rest_count : ℕ → ℕ → List ℕ → ℕ → ℕ
rest_count from kept ks n = cond (has_room from kept n) (round_up (from + length (take kept ks))) 0

-- what is written behind the first `from` octets
unfoldable pub rest_of : ℕ → ℕ → List ℕ → List ℕ → List ℕ
rest_of from kept ks out = cond (has_room from kept (length out)) (leaving_of (take from out) (take kept ks) out) out
