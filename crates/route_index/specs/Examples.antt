-- Worked examples: the index of the routes of `route/specs/Examples.antt`, and the port that each address goes to by it.
use Rattle.std.specs.Prelude.{List, [], ◌∷◌, map, ◌≡◌, ℕ}
use Rattle.route.specs.Route.{routes_of}
use Rattle.route.specs.Examples.{some_routes}
use Rattle.route_index.specs.Index.{edges, index_of, found_in}

-- 0.0.0.0, 10.0.0.0, 10.1.0.0, 10.1.2.3, 10.1.2.4, 10.2.0.0, 11.0.0.0, 192.168.0.0, 192.169.0.0: the hosts, the /16 in the /8 and the /8 go on behind one another
abbrev pub some_edges : List ℕ
some_edges = 0 ∷ 167772160 ∷ 167837696 ∷ 167838211 ∷ 167838212 ∷ 167903232 ∷ 184549376 ∷ 3232235520 ∷ 3232301056 ∷ []

abbrev pub ports_found : List ℕ → List ℕ
ports_found addresses = map (λ a. found_in (index_of (routes_of some_routes)) 9 a) addresses

pub record Examples : Type 0 where
  pub edged : edges (routes_of some_routes) ≡ some_edges
  -- 10.2.0.1, 10.1.2.4, 10.1.2.3, 192.168.7.7, 8.8.8.8
  pub found : ports_found (167903233 ∷ 167838212 ∷ 167838211 ∷ 3232237319 ∷ 134744072 ∷ []) ≡ (1 ∷ 2 ∷ 0 ∷ 2 ∷ 4294967295 ∷ [])
