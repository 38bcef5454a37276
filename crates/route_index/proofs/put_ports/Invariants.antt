-- `route_index::put_ports` meets its contract.
use Rattle.route.specs.Route.{routes_of}
use Rattle.route_index.specs.Index.{port_at}
use Rattle.route_index.proofs.Paint.{Mapped}
use Rattle.route_index.proofs.put_ports.Given as goal

abbrev pub invariant-loop-i : goal.invariant-loop-i
invariant-loop-i l = Mapped (port_at (routes_of l.routes)) l.addresses l.ports l.i
