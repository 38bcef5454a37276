-- `forward_batch::port_places` meets its contract.
use Rattle.forward_batch.proofs.port_places.Goals as goal

pub returns : goal.returns
returns c = (c.label_places.ensures, c.label_places-2.ensures, c.way_places.ensures, c.way_places-2.ensures)
