-- `case_lines::put_two` meets its contract.
use Rattle.text.proofs.Laws.{writes_then}
use Rattle.case_lines.proofs.put_two.Goals as goal

pub returns : goal.returns
returns c = writes_then c.decimal.ensures c.next.ensures
