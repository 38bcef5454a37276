-- `forward_leave::check_leaving` meets its contract.
use borrow.Author.Tests.{lt-ltb, le-ltb}
use mathlib.Core.Path.{sym, ◌∙◌}
use Rattle.forward_leave.specs.Departure.{recorded_by}
use Rattle.forward_leave.proofs.check_leaving.Goals as goal

pub returns-then-stopped_by : goal.returns-then-stopped_by
unfolding recorded_by
returns-then-stopped_by c = rw (sym c.stopped_by.ensures ∙ c.if-stopped_by.true)

pub returns-then-room-lt-AREA_OCTETS : goal.returns-then-room-lt-AREA_OCTETS
unfolding recorded_by
returns-then-room-lt-AREA_OCTETS c =
    rw (sym c.stopped_by.ensures ∙ c.if-stopped_by.false, lt-ltb _ 40 c.if-room-lt-AREA_OCTETS.true) c.silent.ensures

pub returns-then-not-sound : goal.returns-then-not-sound
unfolding recorded_by
returns-then-not-sound c =
    rw (sym c.stopped_by.ensures ∙ c.if-stopped_by.false, le-ltb _ 40 c.if-room-lt-AREA_OCTETS.false, c.if-not-sound.true) c.silent-then-not-sound.ensures

pub returns : goal.returns
unfolding recorded_by
returns c =
    rw (sym c.stopped_by.ensures ∙ c.if-stopped_by.false, le-ltb _ 40 c.if-room-lt-AREA_OCTETS.false, c.if-not-sound.false)
