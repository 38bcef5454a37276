-- What is found by an index is the port of the longest matching route: of every list of routes, sound or not.
use Rattle.std.specs.Prelude.{List, ◌≡◌, ℕ, ◌+◌, ◌*◌, ◌/◌, ◌≤◌, ◌<◌, length as count}
use Rattle.route.specs.declared.Route.{Route}
use Rattle.route_index.specs.Index.{port_at, edge_count, indexed, found_in}

pub record IndexLongest : Type 0 where
  pub found : (rs : List Route) (was : List ℕ) (address : ℕ) → count rs * 2 + 1 ≤ count was / 2 → address < 4294967296
      → found_in (indexed rs was) (edge_count rs (count was)) address ≡ port_at rs address
