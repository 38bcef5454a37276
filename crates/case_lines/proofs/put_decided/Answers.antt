-- `case_lines::put_decided` meets its contract.
use Rattle.text.proofs.Laws.{writes_then}
use Rattle.case_lines.proofs.put_decided.Goals as goal

pub returns : goal.returns
returns c = writes_then c.put.ensures c.put_part.ensures
