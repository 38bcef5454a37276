-- `route_ports::survey_ports` meets its contract: what is known of the ports before the turn.
use mathlib.Core.Path.{◌≡◌}
use lib.ListN.{take}
use Rattle.route_ports.specs.Ports.{survey_of}
use Rattle.route_ports.proofs.survey_ports.Given as goal

abbrev pub invariant-loop-p : goal.invariant-loop-p
invariant-loop-p l = l.s ≡ survey_of (take l.p-index l.ports)
