use Rattle.std.proofs.Common.{arith, rules, ◌-◌, take}
use lib.Seq.{take_at, length-take-le}
use Rattle.stream.proofs.Laws.{holds_piece}
use Rattle.stream.proofs.input.hold_piece.Goals as goal

pub returns : goal.returns
returns c =
    holds_piece
    _
    _
    c.lie-w.result
    c.lie-w.ensures.value
    c.lie-w.ensures.at_le_end
    _
    c.copy_within.new.self
    _
    c.read_once-got.result
    c.copy_within.ensures.after
    c.copy_within.ensures.len
    (search rules)
    (search rules)
    (search rules)
    (take_at (take (c.lie-w.result.end - c.lie-w.result.at) c.copy_within.new.self) _ (c.lie-w.result.end - c.lie-w.result.at) (length-take-le _ _ (omega arith)))
