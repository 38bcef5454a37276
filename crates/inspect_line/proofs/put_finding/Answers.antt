-- `inspect_line::put_finding` meets its contract.
use Rattle.inspect_line.specs.Lines.{finding_line}
use Rattle.inspect_line.proofs.put_finding.Goals as goal

pub returns-in-None : goal.returns-in-None
unfolding finding_line
returns-in-None c = rw c.in-None.is c.word.ensures

pub returns-in-Some : goal.returns-in-Some
unfolding finding_line
returns-in-Some c = rw c.in-Some.is c.put_differs.ensures
