-- `case_lines::ArrayU82Words::put` meets its contract.
use Rattle.text.proofs.Laws.{writes_then}
use Rattle.case_lines.proofs.ArrayU82Words.put.Goals as goal

pub returns : goal.returns
returns c = writes_then (rw c.from.ensures at c.next.ensures) (rw c.from-2.ensures at c.next-2.ensures)
