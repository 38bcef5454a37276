-- What the private functions answer; no public contract names these.
use Rattle.std.specs.Prelude.{Bool, true, cond, not, ◌&&◌, List, [], ◌∷◌, ◌≡◌, ℕ, ◌+◌, ◌-◌, ◌^◌, leb, eqb, length as count, take, get_or}
use Rattle.route.specs.declared.Route.{Route}
use Rattle.route.specs.Route.{length_sound, clear_past}

-- the route at a place of the list of numbers
abbrev pub route_at : List ℕ → ℕ → Route
route_at ns at = record { prefix = get_or ns at 0; length = get_or ns (at + 1) 0; port = get_or ns (at + 2) 0; domain = get_or ns (at + 3) 0 }

-- a prefix and its length, wherever they lead to
abbrev pub bare_route : ℕ → ℕ → Route
bare_route prefix length = record { prefix = prefix; length = length; port = 0; domain = 0 }

-- what soundness asks of the prefix alone
abbrev pub prefix_sound : Route → Bool
prefix_sound r = length_sound r && clear_past r

-- all 32 bits count: the route of one host
abbrev pub is_host : Route → Bool
is_host r = eqb r.length 32

-- one number for prefix and length: of a host's route the prefix, of a shorter one the prefix with a 1 behind its last bit
abbrev pub prefix_key : Route → ℕ
prefix_key r = cond (is_host r) r.prefix (r.prefix + 2 ^ (31 - r.length))

-- whether the route is among the hosts' routes, or among the others
abbrev pub among : Bool → Route → Bool
among hosts r = cond hosts (is_host r) (not (is_host r))

-- their numbers
abbrev pub keys_of : Bool → List Route → List ℕ
keys_of hosts [] = []
keys_of hosts (r ∷ rs) = cond (among hosts r) (prefix_key r ∷ keys_of hosts rs) (keys_of hosts rs)

-- each number is above the one before it, the first at `f` or above
abbrev pub climbs : ℕ → List ℕ → Bool
climbs f [] = true
climbs f (k ∷ ks) = leb f k && climbs (k + 1) ks

-- what gathering writes, and how many
pub record Gathered (ks out : List ℕ) (n : ℕ) : Type 0 where
  pub many : n ≡ count ks
  pub written : take n out ≡ ks
