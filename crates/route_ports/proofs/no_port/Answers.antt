-- `route_ports::no_port` meets its contract.
use Rattle.route_ports.proofs.no_port.Goals as goal

pub returns : goal.returns
returns c = cc
