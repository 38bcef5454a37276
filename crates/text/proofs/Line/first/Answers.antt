-- `text::Line::first` meets its contract.
use borrow.Author.Tests.{ne_eqb, eq-eqb}
use Rattle.std.proofs.lemmas.List.{take_min}
use Rattle.text.specs.Line.{shown}
use Rattle.text.proofs.Laws.{writes_then, writes_none}
use Rattle.text.proofs.Line.first.Goals as goal

pub returns-then-count-eq0 : goal.returns-then-count-eq0
unfolding shown
returns-then-count-eq0 c = rw (eq-eqb _ 0 c.if-count-eq0.true) writes_none

pub returns : goal.returns
unfolding shown
returns c =
    rw (ne_eqb _ 0 c.if-count-eq0.false) (writes_then c.octet.ensures (rw (c.min.ensures, take_min) at c.hex.ensures))
