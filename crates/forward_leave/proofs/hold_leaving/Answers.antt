-- `forward_leave::hold_leaving` meets its contract.
use Rattle.std.proofs.lemmas.Result.{err_from_is_err_and}
use mathlib.Core.Path.{sym, ◌∙◌}
use Rattle.forward_leave.specs.Departure.{held_by_range}
use Rattle.forward_leave.proofs.hold_leaving.Goals as goal
use Rattle.forward_leave.proofs.hold_leaving.Goals.{then-unlabelled, else-unlabelled}

pub returns-in_err-passed : goal.returns-in_err-passed
unfolding held_by_range
returns-in_err-passed c =
    let p = err_from_is_err_and c.from_residual.result c.from_residual.ensures.1 in
    rw (p.1, p.2, c.in_err-passed.was)

pub returns-then-not-held : goal.returns-then-not-held
unfolding held_by_range
returns-then-not-held c =
    elim c.if-unlabelled.branch [
      | then-unlabelled w ↦ rw (c.in_ok-passed.was, w.if-unlabelled.true, sym w.held_between-held.ensures ∙ sym w.held-is ∙ c.if-not-held.true) c.barred.ensures
      | else-unlabelled w ↦ rw (c.in_ok-passed.was, w.if-unlabelled.false, sym w.held_between-held-else-unlabelled.ensures ∙ sym w.held-is ∙ c.if-not-held.true) c.barred.ensures
    ]

pub returns : goal.returns
unfolding held_by_range
returns c =
    elim c.if-unlabelled.branch [
      | then-unlabelled w ↦ rw (c.in_ok-passed.was, w.if-unlabelled.true, sym w.held_between-held.ensures ∙ sym w.held-is ∙ c.if-not-held.false)
      | else-unlabelled w ↦ rw (c.in_ok-passed.was, w.if-unlabelled.false, sym w.held_between-held-else-unlabelled.ensures ∙ sym w.held-is ∙ c.if-not-held.false)
    ]
