-- `case_lines::BoolWords::put` meets its contract.
use Rattle.case_lines.specs.Line.{answer_word}
use Rattle.case_lines.proofs.BoolWords.put.Goals as goal

pub returns-then-self : goal.returns-then-self
unfolding answer_word
returns-then-self c = rw c.if-self.true c.word.ensures

pub returns-else-self : goal.returns-else-self
unfolding answer_word
returns-else-self c = rw c.if-self.false c.word-else-self.ensures
