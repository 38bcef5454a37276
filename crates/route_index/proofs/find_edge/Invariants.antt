-- `route_index::find_edge` meets its contract.
use mathlib.Core.Bool.{Bool}
use mathlib.Core.List.{List}
use Prim.Native.Nat.{ℕ, ◌-◌}
use lib.Dec.{leb}
use lib.ListN.{get_or}
use Rattle.lists_search.specs.Halves.{halved}
use Rattle.lists_search.proofs.Halves.{Halving}
use Rattle.route_index.proofs.find_edge.Given as goal

-- the number at the place is not above the address
abbrev pub past : List ℕ → ℕ → ℕ → Bool
past index address i = leb (get_or index i 0) address

abbrev pub invariant-loop-low : goal.invariant-loop-low
invariant-loop-low l = Halving (past l.index l.address) (halved l.n (past l.index l.address) 0 l.n) l.n l.low l.high

abbrev pub decreases-loop-low : goal.decreases-loop-low
decreases-loop-low l = l.high - l.low
