-- `text::Line::put_forward` meets its contract.
use Rattle.text.specs.Line.{forward_line}
use Rattle.text.proofs.Laws.{writes_then}
use Rattle.text.proofs.Line.put_forward.Goals as goal

pub returns : goal.returns
unfolding forward_line
returns c = writes_then (writes_then (writes_then c.word.ensures c.next.ensures) c.first.ensures) c.octet.ensures
