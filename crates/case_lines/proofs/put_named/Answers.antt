-- `case_lines::put_named` meets its contract.
use Rattle.text.proofs.Laws.{writes_then}
use Rattle.case_lines.proofs.put_named.Goals as goal

pub returns : goal.returns
returns c = writes_then c.word.ensures c.next.ensures
