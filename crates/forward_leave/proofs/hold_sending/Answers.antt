-- `forward_leave::hold_sending` meets its contract.
use borrow.Author.Tests.{not-true, not-false}
use mathlib.Core.Path.{◌≡◌, sym, ap, ◌∙◌}
use mathlib.Core.Bool.{true, false}
use Rattle.area.specs.Area.{walk_of, octets_at}
use Rattle.basic.specs.Settings.{passes_read}
use Rattle.arrive.specs.Checks.{basic_in}
use Rattle.arrive.specs.Stages.{basic_read}
use Rattle.arrive.proofs.First.{before_none}
use Rattle.forward_leave.specs.Departure.{sent_by}
use Rattle.forward_leave.proofs.hold_sending.Goals as goal
use Rattle.forward_leave.proofs.hold_sending.Goals.{in_default-via-in-Some+else-passes_way, in_default-via-in_default}

-- the stage's answer, by its tests
pub returns-then-not-on : goal.returns-then-not-on
unfolding sent_by
returns-then-not-on c =
    rw (not-true c.args.from c.if-not-from.true-raw, not-true c.args.on c.if-not-on.true-raw) (sym (before_none c.args.ready))

pub returns-then-not-from : goal.returns-then-not-from
unfolding sent_by
returns-then-not-from c =
    rw (not-true c.args.from c.if-not-from.true-raw, not-false c.args.on c.if-not-on.false-raw) c.bar_basic.ensures

pub returns-then-not-on-2 : goal.returns-then-not-on-2
unfolding sent_by
returns-then-not-on-2 c =
    rw (not-false c.args.from c.if-not-from.false-raw, not-true c.args.on c.if-not-on-2.true-raw) c.bar_basic-then-not-on-2.ensures

pub returns-in-Some : goal.returns-in-Some
unfolding sent_by
returns-in-Some c =
    rw (not-false c.args.from c.if-not-from.false-raw, not-false c.args.on c.if-not-on-2.false-raw, sym c.find_basic.ensures ∙ c.in-Some.is, sym c.passes_way.ensures ∙ c.if-passes_way.true)
    (sym (before_none c.args.ready))

pub returns-in_default : goal.returns-in_default
unfolding sent_by
returns-in_default c =
    let barred : passes_read c.args.sending (basic_read (octets_at (basic_in (walk_of true c.args.area.now)) c.args.area.now)) ≡ false = elim c.in_default.branch [
      | in_default-via-in-Some+else-passes_way w ↦ ap (passes_read c.args.sending) (sym c.find_basic.ensures ∙ w.in-Some.is) ∙ sym w.passes_way.ensures ∙ w.if-passes_way.false
      | in_default-via-in_default w ↦ ap (passes_read c.args.sending) (sym c.find_basic.ensures ∙ w.in_default.is)
    ] in
    rw (not-false c.args.from c.if-not-from.false-raw, not-false c.args.on c.if-not-on-2.false-raw, barred) c.bar_basic-in_default.ensures
