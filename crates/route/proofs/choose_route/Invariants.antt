-- `route::choose_route` meets its contract.
use mathlib.Core.Path.{◌≡◌}
use Prim.Native.Nat.{◌*◌}
use lib.ListN.{drop}
use Rattle.route.specs.Route.{routes_of, chosen_from, longest}
use Rattle.route.proofs.choose_route.Given as goal

abbrev pub invariant-loop-numbers : goal.invariant-loop-numbers
invariant-loop-numbers l = longest l.address (routes_of l.routes) ≡ chosen_from l.address l.best (routes_of (drop (4 * l.numbers-index) l.routes))
