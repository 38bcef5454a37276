-- `route_ports::still_sound` meets its contract.
use Rattle.route_ports.proofs.still_sound.Goals as goal

pub returns-then-ok : goal.returns-then-ok
returns-then-ok c = simp (c.if-ok.true, c.port_sound.ensures)

pub returns : goal.returns
returns c = simp c.if-ok.false
