-- `route_index::put_ports` meets its contract.
use mathlib.Core.Path.{◌∙◌, ap}
use native.Mathlib.Omega.{arith}
use Rattle.route.specs.Route.{routes_of}
use Rattle.route_index.specs.Index.{port_number, port_at}
use Rattle.route_index.proofs.Paint.{mapped_start, mapped_next, mapped_end}
use Rattle.route_index.proofs.put_ports.Goals as goal

pub loop-i-init : goal.loop-i-init
loop-i-init c = mapped_start (port_at (routes_of c.args.routes.now)) c.args.addresses.now c.args.ports.now c.requires

pub loop-i-preserved : goal.loop-i-preserved
loop-i-preserved c =
    mapped_next (port_at (routes_of c.args.routes.now)) c.args.addresses.now c.loop-i.ports c.loop-i.i c.loop-i.invariant (omega arith) c.port_number.result (c.port_number.ensures ∙ ap port_number c.choose_route.ensures)

pub returns : goal.returns
returns c = mapped_end (port_at (routes_of c.args.routes.now)) c.args.addresses.now c.loop-i.ports c.loop-i.i c.loop-i.invariant (omega arith)
