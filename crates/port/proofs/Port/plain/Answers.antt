-- `port::Port::plain` meets its contract.
use Rattle.port.proofs.Port.plain.Goals as goal

pub returns : goal.returns
returns c = rw (c.off.ensures, c.usual.ensures, c.empty.ensures)
