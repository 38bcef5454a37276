-- `inspect_split::measure_first` meets its contract.
use mathlib.Core.Path.{sym}
use Rattle.inspect_split.proofs.Laws.{measured_short, measured_cut, measured_all}
use Rattle.inspect_split.proofs.measure_first.Goals as goal

pub returns-then-octets-lt-LEAD : goal.returns-then-octets-lt-LEAD
returns-then-octets-lt-LEAD c = sym (measured_short _ c.if-octets-lt-LEAD.true)

pub returns-then-octets-size : goal.returns-then-octets-size
returns-then-octets-size c = sym (measured_cut _ _ c.framed_size-size.ensures c.if-octets-size.true)

pub returns : goal.returns
returns c = measured_all _ _ c.framed_size-size.ensures c.if-octets-size.false
