-- `case_lines::LabelWords::put` meets its contract.
use Rattle.text.proofs.Laws.{writes_then}
use Rattle.case_lines.specs.Line.{label_words}
use Rattle.case_lines.proofs.LabelWords.put.Goals as goal

pub returns : goal.returns
unfolding label_words
returns c =
    let levelled = writes_then (rw c.from.ensures at c.next.ensures) (rw c.from-2.ensures at c.next-2.ensures) in
    writes_then (writes_then levelled c.next-3.ensures) c.put_first.ensures
