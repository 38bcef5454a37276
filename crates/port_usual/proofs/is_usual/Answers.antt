-- `port_usual::is_usual` meets its contract.
use Rattle.port_usual.proofs.Usual.{usual_is}
use Rattle.port_usual.proofs.is_usual.Goals as goal

pub returns : goal.returns
returns c =
    rw (c.range_usual-formed.ensures, c.labels_zero-zero.ensures, c.ways_zero-off.ensures, c.some_of-some.ensures) (usual_is c.args.port)
