-- `text::Line::put_drop` meets its contract.
use Rattle.text.specs.Line.{drop_line}
use Rattle.text.proofs.Laws.{writes_then}
use Rattle.text.proofs.Line.put_drop.Goals as goal

pub returns : goal.returns
unfolding drop_line
returns c =
    let typed = writes_then (writes_then c.word.ensures (rw c.from.ensures at c.next.ensures)) (rw c.from-2.ensures at c.next-2.ensures) in
    let coded = writes_then typed (rw c.from-3.ensures at c.next-3.ensures) in
    writes_then (writes_then coded (rw c.from-4.ensures at c.next-4.ensures)) c.octet.ensures
