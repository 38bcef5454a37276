use Rattle.stream.proofs.Laws.{holds_enough, holds_read}
use Rattle.stream.proofs.input.hold.Goals as goal

pub returns-then-n-end : goal.returns-then-n-end
returns-then-n-end c = holds_enough _ _ c.lie-w.result c.lie-w.ensures.value c.lie-w.ensures.at_le_end _ c.if-n-end.true

pub returns : goal.returns
returns c =
    holds_read
    _
    _
    c.lie-w.result
    c.lie-w.ensures.value
    c.lie-w.ensures.at_le_end
    _
    c.copy_within.new.self
    c.read_until-last.new.input
    c.read_until-last.result
    c.if-n-end.false
    c.copy_within.ensures.after
    c.copy_within.ensures.len
    c.read_until-last.ensures.lower_bound.0
    c.read_until-last.ensures.lower_bound.1
    c.read_until-last.ensures.input_len_unchanged.0
    c.read_until-last.ensures.input_len_unchanged.1
