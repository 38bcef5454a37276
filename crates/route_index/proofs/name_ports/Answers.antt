-- `route_index::name_ports` meets its contract.
use native.Mathlib.Omega.{arith}
use Prim.Native.Nat.{◌<◌}
use mathlib.Core.Path.{◌≡◌, refl, ◌∙◌, ap}
use lib.ListN.{length, get_or}
use Rattle.route_index.specs.Stages.{code_port}
use Rattle.route_index.proofs.Paint.{mapped_start, mapped_next, mapped_end, ahead_next}
use Rattle.route_index.proofs.name_ports.Goals as goal

pub loop-port-init : goal.loop-port-init
loop-port-init c = (mapped_start (code_port c.args.routes.now) c.args.ports.now c.args.ports.now refl, λ j h. refl)

pub port_of-requires : goal.port_of-requires
port_of-requires c =
    let h : c.loop-port.port-index < length c.args.ports.now = omega (arith, c.loop-port.invariant.0.sized) in
    let e : get_or c.loop-port.ports c.loop-port.port-index 0 ≡ get_or c.args.ports.now c.loop-port.port-index 0 = c.loop-port.invariant.1 c.loop-port.port-index (omega arith) in
    (c.requires.0, omega (arith, e, c.requires.1 c.loop-port.port-index h))

pub loop-port-preserved : goal.loop-port-preserved
loop-port-preserved c =
    let h : c.loop-port.port-index < length c.args.ports.now = omega (arith, c.loop-port.invariant.0.sized) in
    let e : get_or c.loop-port.ports c.loop-port.port-index 0 ≡ get_or c.args.ports.now c.loop-port.port-index 0 = c.loop-port.invariant.1 c.loop-port.port-index (omega arith) in
    (mapped_next (code_port c.args.routes.now) c.args.ports.now c.loop-port.ports c.loop-port.port-index c.loop-port.invariant.0 h c.port_of.result (c.port_of.ensures ∙ ap (code_port c.args.routes.now) e), ahead_next c.args.ports.now c.loop-port.ports c.loop-port.port-index c.port_of.result c.loop-port.invariant.1)

pub returns : goal.returns
returns c = mapped_end (code_port c.args.routes.now) c.args.ports.now c.loop-port.ports c.loop-port.port-index c.loop-port.invariant.0 (omega (arith, c.loop-port.invariant.0.sized))
