use Rattle.stream.proofs.Laws.{feeds_enough, feeds_unsent, feeds_read}
use Rattle.stream.proofs.place.feed.Goals as goal

pub returns-then-n-w : goal.returns-then-n-w
returns-then-n-w c = rw c.go_on.ensures (feeds_enough _ _ c.lie-w.result c.lie-w.ensures.value c.lie-w.ensures.at_le_end _ c.if-n-w.true)

pub returns-then-not-sent : goal.returns-then-not-sent
returns-then-not-sent c = (feeds_unsent _ _ c.lie-w.result c.lie-w.ensures.value c.lie-w.ensures.at_le_end _ c.if-n-w.false)

pub returns : goal.returns
returns c =
    rw
    c.go_on-2.ensures
    (feeds_read _ _ c.lie-w.result c.lie-w.ensures.value c.lie-w.ensures.at_le_end _ _ c.hold-h.result c.if-n-w.false c.hold-h.ensures)
