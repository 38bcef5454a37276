-- `sample_records::leaving` meets its contract.
use Rattle.sample_records.proofs.leaving.Goals as goal

pub returns : goal.returns
returns c = cc (c.plain.ensures, c.empty-2.ensures, c.up_to.ensures, c.empty.ensures)
