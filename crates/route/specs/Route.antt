-- Document 02, Wish 7: routes. A route is a prefix, how many of its first bits count, and the port and domain that it leads to; the longest matching prefix decides.
use Rattle.std.specs.Prelude.{Option, None, Some, Bool, true, cond, not, ◌&&◌, List, [], ◌∷◌, ℕ, ◌-◌, ◌*◌, ◌/◌, ◌%◌, ◌^◌, leb, ltb, eqb, length as count, get_or}
use Rattle.route.specs.declared.Route.{Route}

-- the routes of a lent list of numbers, four a route: prefix, prefix length, port number, domain; what is left over at the end is no route
abbrev pub routes_of : List ℕ → List Route
routes_of [] = []
routes_of (p ∷ []) = []
routes_of (p ∷ l ∷ []) = []
routes_of (p ∷ l ∷ n ∷ []) = []
routes_of (p ∷ l ∷ n ∷ d ∷ ns) = record { prefix = p; length = l; port = n; domain = d } ∷ routes_of ns

-- the number that the first so many of an address's 32 bits are
abbrev pub first_bits : ℕ → ℕ → ℕ
first_bits bits address = address / 2 ^ (32 - bits)

-- an address matches where its first `length` bits are the prefix's; of length 0 every address does
abbrev pub matches : Route → ℕ → Bool
matches r address = eqb (first_bits r.length r.prefix) (first_bits r.length address)

-- the route that decides, where one does
abbrev pub Chosen : Type 0
Chosen = Option Route

-- of the best so far and a route that matches, the longer one
abbrev pub longer : Chosen → Route → Chosen
longer None r = Some r
longer (Some b) r = cond (ltb b.length r.length) (Some r) (Some b)

-- one route more is looked at
abbrev pub preferred : ℕ → Chosen → Route → Chosen
preferred address best r = cond (matches r address) (longer best r) best

abbrev pub chosen_from : ℕ → Chosen → List Route → Chosen
chosen_from address best [] = best
chosen_from address best (r ∷ rs) = chosen_from address (preferred address best r) rs

-- the longest route that matches: `specs/Theorems.antt` says what that means, whatever the order of the routes
unfoldable pub longest : ℕ → List Route → Chosen
longest address rs = chosen_from address None rs

-- Wish 7: what makes routes unsound, part by part. `domains` has the domain of each port of the list, by its number.
-- too long a list: more than 256 routes
abbrev pub few_routes : List ℕ → Bool
few_routes ns = leb (count ns) (4 * 256)

-- numbers left over, which are no route
abbrev pub whole_routes : List ℕ → Bool
whole_routes ns = eqb (count ns % 4) 0

-- a length over 32
abbrev pub length_sound : Route → Bool
length_sound r = leb r.length 32

-- set bits past the length
abbrev pub clear_past : Route → Bool
clear_past r = eqb (r.prefix % 2 ^ (32 - r.length)) 0

-- a port not in the list
abbrev pub port_listed : List ℕ → Route → Bool
port_listed domains r = ltb r.port (count domains)

-- a domain other than its port's
abbrev pub domain_agrees : List ℕ → Route → Bool
domain_agrees domains r = eqb r.domain (get_or domains r.port 0)

abbrev pub route_sound : List ℕ → Route → Bool
route_sound domains r = length_sound r && (clear_past r && (port_listed domains r && domain_agrees domains r))

abbrev pub every : (Route → Bool) → List Route → Bool
every p [] = true
every p (r ∷ rs) = p r && every p rs

-- two equal prefixes of one length
abbrev pub same_prefix : Route → Route → Bool
same_prefix r s = eqb r.prefix s.prefix && eqb r.length s.length

abbrev pub prefixes_differ : List Route → Bool
prefixes_differ [] = true
prefixes_differ (r ∷ rs) = every (λ s. not (same_prefix r s)) rs && prefixes_differ rs

unfoldable pub routes_sound : List ℕ → List ℕ → Bool
routes_sound domains ns = few_routes ns && (whole_routes ns && (every (route_sound domains) (routes_of ns) && prefixes_differ (routes_of ns)))
