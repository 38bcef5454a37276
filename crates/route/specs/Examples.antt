-- Worked examples: a list of routes, and the port that each address goes to.
use Rattle.std.specs.Prelude.{None, Some, List, [], ◌∷◌, map, true, false, ◌≡◌, ℕ}
use Rattle.route.specs.Route.{Chosen, routes_of, longest, routes_sound}

-- 10.0.0.0/8 to port 1, 10.1.0.0/16 to port 2, 10.1.2.3/32 to port 0, 192.168.0.0/16 to port 2; ports 0 to 2 have the domains 5, 9 and 5
abbrev pub some_routes : List ℕ
some_routes = 167772160 ∷ 8 ∷ 1 ∷ 9 ∷ 167837696 ∷ 16 ∷ 2 ∷ 5 ∷ 167838211 ∷ 32 ∷ 0 ∷ 5 ∷ 3232235520 ∷ 16 ∷ 2 ∷ 5 ∷ []

abbrev pub some_domains : List ℕ
some_domains = 5 ∷ 9 ∷ 5 ∷ []

-- the number of the port, and 64 where no route matches
abbrev pub port_of : Chosen → ℕ
port_of None = 64
port_of (Some r) = r.port

abbrev pub ports_of : List ℕ → List ℕ
ports_of addresses = map (λ a. port_of (longest a (routes_of some_routes))) addresses

pub record Examples : Type 0 where
  -- 10.2.0.1, 10.1.2.4, 10.1.2.3, 192.168.7.7, 8.8.8.8
  pub chosen : ports_of (167903233 ∷ 167838212 ∷ 167838211 ∷ 3232237319 ∷ 134744072 ∷ []) ≡ (1 ∷ 2 ∷ 0 ∷ 2 ∷ 64 ∷ [])
  pub sound : routes_sound some_domains some_routes ≡ true
  -- a length of 33; a set bit past the length; port 3; the domain of another port; a number left over; the same prefix of the same length twice
  pub long : routes_sound some_domains (0 ∷ 33 ∷ 0 ∷ 5 ∷ []) ≡ false
  pub past : routes_sound some_domains (167772161 ∷ 8 ∷ 0 ∷ 5 ∷ []) ≡ false
  pub unlisted : routes_sound some_domains (0 ∷ 0 ∷ 3 ∷ 5 ∷ []) ≡ false
  pub foreign : routes_sound some_domains (0 ∷ 0 ∷ 1 ∷ 5 ∷ []) ≡ false
  pub over : routes_sound some_domains (0 ∷ 0 ∷ 0 ∷ 5 ∷ 0 ∷ []) ≡ false
  pub twice : routes_sound some_domains (0 ∷ 0 ∷ 0 ∷ 5 ∷ 0 ∷ 0 ∷ 2 ∷ 5 ∷ []) ≡ false
