-- `route_index::paint_routes` meets its contract.
use Prim.Native.Nat.{◌*◌}
use Rattle.route_index.specs.Stages.{Painted}
use Rattle.route_index.proofs.paint_routes.Given as goal

abbrev pub invariant-loop-i : goal.invariant-loop-i
invariant-loop-i l = Painted l.routes l.addresses l.ports (4 * l.i)
