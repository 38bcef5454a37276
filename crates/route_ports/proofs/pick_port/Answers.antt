-- `route_ports::pick_port` meets its contract.
use mathlib.Core.Path.{sym, ◌∙◌}
use lib.ListN.{get_or-eq_default}
use Rattle.std.proofs.lemmas.List.{get_or_default}
use Rattle.route_ports.specs.Ports.{unlisted_port, port_at}
use Rattle.route_ports.proofs.pick_port.Goals as goal

pub returns-then-i-ports : goal.returns-then-i-ports
unfolding port_at
returns-then-i-ports c = get_or_default c.args.ports.now c.args.i _ unlisted_port c.if-i-ports.true

pub returns : goal.returns
unfolding port_at
returns c = c.no_port.ensures ∙ sym (get_or-eq_default c.args.ports.now unlisted_port c.if-i-ports.false)
