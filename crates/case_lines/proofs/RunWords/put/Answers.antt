-- `case_lines::RunWords::put` meets its contract.
use Rattle.text.proofs.Laws.{writes_then}
use Rattle.case_lines.proofs.RunWords.put.Goals as goal

pub returns : goal.returns
returns c = writes_then (rw c.from.ensures at c.next.ensures) (rw c.from-2.ensures at c.next-2.ensures)
