-- `case_lines::put_part` meets its contract.
use Rattle.std.proofs.lemmas.List.{take_min}
use Rattle.case_lines.proofs.put_part.Goals as goal

pub returns : goal.returns
returns c = rw (c.min.ensures, take_min) at c.put_output.ensures
