-- `case_lines::U16Words::put` meets its contract.
use Rattle.case_lines.proofs.U16Words.put.Goals as goal

pub returns : goal.returns
returns c = rw c.from.ensures at c.next.ensures
