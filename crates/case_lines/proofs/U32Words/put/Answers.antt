-- `case_lines::U32Words::put` meets its contract.
use Rattle.text.proofs.Laws.{writes_then}
use Rattle.case_lines.proofs.U32Words.put.Goals as goal

pub returns : goal.returns
returns c = writes_then (rw c.from.ensures at c.next.ensures) (rw c.from-2.ensures at c.next-2.ensures)
