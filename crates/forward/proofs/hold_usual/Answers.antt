-- `forward::hold_usual` meets its contract.
use mathlib.Core.Path.{sym, ◌∙◌}
use Rattle.std.proofs.lemmas.Result.{err_from_is_err_and}
use Rattle.forward_leave.specs.Departure.{held_by_range}
use Rattle.forward.proofs.hold_usual.Goals as goal

pub returns-in_err-passed : goal.returns-in_err-passed
unfolding held_by_range
returns-in_err-passed c =
    let p = err_from_is_err_and c.from_residual.result c.from_residual.ensures.1 in rw (c.in_err-passed.was, p.1, p.2)

pub returns-then-not-lies_usual : goal.returns-then-not-lies_usual
unfolding held_by_range
returns-then-not-lies_usual c =
    rw (c.in_ok-passed.was, sym c.lies_usual.ensures ∙ c.if-not-lies_usual.true) c.barred.ensures

pub returns : goal.returns
unfolding held_by_range
returns c =
    rw (c.in_ok-passed.was, sym c.lies_usual.ensures ∙ c.if-not-lies_usual.false)
