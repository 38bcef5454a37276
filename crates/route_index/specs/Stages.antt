-- What the private functions answer; no public contract names these.
use Rattle.std.specs.Prelude.{None, Some, ◌≡◌, cond, List, ℕ, zero, suc, ◌+◌, ◌-◌, ◌*◌, ◌/◌, ◌≤◌, ◌<◌, ltb, eqb, length as count, drop, get_or}
use Rattle.route.specs.Route.{Chosen, routes_of, chosen_from, longest}
use Rattle.route.specs.Stages.{route_at}
use Rattle.route_index.specs.Index.{port_number}

-- the best route so far as one number: 0 for none, else its place in the list and one
abbrev pub code_chosen : List ℕ → ℕ → Chosen
code_chosen routes zero = None
code_chosen routes (suc m) = Some (route_at routes (m * 4))

abbrev pub code_port : List ℕ → ℕ → ℕ
code_port routes c = port_number (code_chosen routes c)

-- of the best so far and the route at a place, the longer one
abbrev pub better_code : List ℕ → ℕ → ℕ → ℕ
better_code routes at c = cond (eqb c 0) (at / 4 + 1) (cond (ltb (get_or routes ((c - 1) * 4 + 1) 0) (get_or routes (at + 1) 0)) (at / 4 + 1) c)

-- the first n numbers rise
abbrev pub Rising : List ℕ → ℕ → Type 0
Rising index n = (i j : ℕ) → i ≤ j → j < n → get_or index i 0 ≤ get_or index j 0

-- of the first n numbers the first k are below x, and no other
pub record Below (index : List ℕ) (n x k : ℕ) : Type 0 where
  pub inside : k ≤ n
  pub under : (j : ℕ) → j < n → j < k → get_or index j 0 < x
  pub above : (j : ℕ) → j < n → k ≤ j → x ≤ get_or index j 0

-- each number names a route before `at`, or none
abbrev pub Within : ℕ → List ℕ → Type 0
Within at codes = (i : ℕ) → i < count codes → get_or codes i 0 * 4 ≤ at

-- for each address the best of the routes before `at`, as a number
pub record Painted (routes addresses codes : List ℕ) (at : ℕ) : Type 0 where
  pub sized : count codes ≡ count addresses
  pub inside : Within at codes
  pub chosen : (i : ℕ) → i < count addresses → longest (get_or addresses i 0) (routes_of routes) ≡ chosen_from (get_or addresses i 0) (code_chosen routes (get_or codes i 0)) (routes_of (drop at routes))
