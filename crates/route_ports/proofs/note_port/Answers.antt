-- `route_ports::note_port` meets its contract.
use borrow.Author.Tests.{le-leb, lt-leb}
use Rattle.route_ports.proofs.note_port.Goals as goal

pub returns-then-n-ge-MAX_PORTS : goal.returns-then-n-ge-MAX_PORTS
returns-then-n-ge-MAX_PORTS c = simp (le-leb _ _ c.if-n-ge-MAX_PORTS.true)

pub returns : goal.returns
returns c = simp (lt-leb _ _ c.if-n-ge-MAX_PORTS.false, c.still_sound.ensures)
