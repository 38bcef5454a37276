-- `inspect_line::put_differs` meets its contract.
use Rattle.text.proofs.Laws.{writes_then}
use Rattle.inspect_line.specs.Lines.{differs_line}
use Rattle.inspect_line.proofs.put_differs.Goals as goal

pub returns : goal.returns
unfolding differs_line
returns c = writes_then (writes_then c.word.ensures c.next.ensures) c.octet.ensures
