-- `case_lines::DecisionWords::put` meets its contract.
use Rattle.text.proofs.Laws.{writes_then}
use Rattle.case_lines.specs.Line.{decision_words}
use Rattle.case_lines.proofs.DecisionWords.put.Goals as goal

pub returns : goal.returns
unfolding decision_words
returns c =
    let typed = writes_then (rw c.from.ensures at c.decimal.ensures) (rw c.from-2.ensures at c.next.ensures) in
    let pointed = writes_then (writes_then typed (rw c.from-3.ensures at c.next-2.ensures)) (rw c.from-4.ensures at c.next-3.ensures) in
    writes_then (writes_then pointed c.next-4.ensures) c.put.ensures
