-- Document 02, Wish 7 ("the longest matching prefix decides"): an index of routes, made once for many datagrams, and what is found by it, whatever numbers it has.
use Rattle.std.specs.Prelude.{None, Some, Bool, cond, List, [], ◌∷◌, ◌++◌, map, ℕ, ◌+◌, ◌-◌, ◌*◌, ◌/◌, ◌%◌, ◌^◌, leb, eqb, length as count, drop, get_or}
use Rattle.lists_search.specs.Halves.{halved}
use Rattle.lists_sort.specs.Order.{sort_keys}
use Rattle.route.specs.declared.Route.{Route}
use Rattle.route.specs.Route.{Chosen, longest}

-- the port of the route that decides, as a number; the highest number stands for none
abbrev pub port_number : Chosen → ℕ
port_number None = 4294967295
port_number (Some r) = r.port

-- the port that an address goes to
abbrev pub port_at : List Route → ℕ → ℕ
port_at rs address = port_number (longest address rs)

-- the first address with these first bits, and the one behind the last; behind the highest address it is 0 again
abbrev pub first_address : ℕ → ℕ → ℕ
first_address prefix length = prefix / 2 ^ (32 - length) * 2 ^ (32 - length)

abbrev pub behind_address : ℕ → ℕ → ℕ
behind_address prefix length = (first_address prefix length + 2 ^ (32 - length)) % 4294967296

-- where the port can change: where a route begins, and where the route around it goes on
abbrev pub edges_of : List Route → List ℕ
edges_of [] = []
edges_of (r ∷ rs) = first_address r.prefix r.length ∷ behind_address r.prefix r.length ∷ edges_of rs

-- these in order, from address 0 on
abbrev pub edges : List Route → List ℕ
edges rs = sort_keys (0 ∷ edges_of rs)

-- and behind them the ports
abbrev pub index_of : List Route → List ℕ
index_of rs = edges rs ++ map (port_at rs) (edges rs)

-- the list has a place for all of it
abbrev pub held : List Route → ℕ → Bool
held rs room = leb (count rs * 2 + 1) (room / 2)

-- how many addresses the index has
unfoldable pub edge_count : List Route → ℕ → ℕ
edge_count rs room = cond (held rs room) (count rs * 2 + 1) 0

-- the list with the index at its head, or as it was where it does not fit
unfoldable pub indexed : List Route → List ℕ → List ℕ
indexed rs was = cond (held rs (count was)) (index_of rs ++ drop (count (index_of rs)) was) was

-- the port behind the last of the first n numbers that is not above the address
abbrev pub behind_place : List ℕ → ℕ → ℕ → ℕ
behind_place index n k = cond (eqb k 0) 4294967295 (get_or index (n + (k - 1)) 0)

unfoldable pub found_in : List ℕ → ℕ → ℕ → ℕ
found_in index n address = cond (leb n (count index / 2)) (behind_place index n (halved n (λ i. leb (get_or index i 0) address) 0 n)) 4294967295
