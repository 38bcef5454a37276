-- `file_port::given_fits` meets its contract.
use Rattle.file_port.proofs.given_fits.Goals as goal

pub returns-then-none : goal.returns-then-none
returns-then-none c = simp c.if-none.true

pub returns : goal.returns
returns c = simp c.if-none.false c.in_range.ensures
