-- `port_usual::labels_zero` meets its contract.
use Rattle.port_usual.proofs.Usual.{labels_zero}
use Rattle.port_usual.proofs.labels_zero.Goals as goal

pub returns : goal.returns
returns c = rw c.runs_unused-rest.ensures (labels_zero c.args.x.now c.args.y.now)
