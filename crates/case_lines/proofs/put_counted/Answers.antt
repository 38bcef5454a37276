-- `case_lines::put_counted` meets its contract.
use Rattle.text.proofs.Laws.{writes_then}
use Rattle.case_lines.proofs.put_counted.Goals as goal

pub returns : goal.returns
returns c = writes_then (rw c.from.ensures at c.put_two.ensures) c.put_part.ensures
