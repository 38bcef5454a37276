-- `area::bad_area` meets its contract.
use borrow.Author.Tests.{lt-ltb, le-ltb}
use Rattle.area.proofs.bad_area.Goals as goal

pub returns-then-n-gt-AREA_OCTETS : goal.returns-then-n-gt-AREA_OCTETS
returns-then-n-gt-AREA_OCTETS c = simp (lt-ltb _ _ c.if-n-gt-AREA_OCTETS.true)

pub returns : goal.returns
returns c = simp (le-ltb _ _ c.if-n-gt-AREA_OCTETS.false)
