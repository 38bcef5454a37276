-- `route_index::name_ports` meets its contract.
use Rattle.route_index.specs.Stages.{code_port}
use Rattle.route_index.proofs.Paint.{Mapped, Ahead}
use Rattle.route_index.proofs.name_ports.Given as goal

abbrev pub invariant-loop-port : goal.invariant-loop-port
invariant-loop-port l = Mapped (code_port l.routes) l.initial.ports l.ports l.port-index × Ahead l.initial.ports l.ports l.port-index
