-- `route_decide::find_no_route` meets its contract.
use borrow.Author.Tests.{lt-ltb, le-ltb}
use mathlib.Core.Path.{sym, ◌∙◌}
use Rattle.route_decide.specs.Stages.{unrouted_by}
use Rattle.route_decide.proofs.find_no_route.Goals as goal

pub returns-then-stopped_by : goal.returns-then-stopped_by
unfolding unrouted_by
returns-then-stopped_by c = rw (sym c.stopped_by.ensures ∙ c.if-stopped_by.true)

pub returns-then-room-lt40 : goal.returns-then-room-lt40
unfolding unrouted_by
returns-then-room-lt40 c =
    rw (sym c.stopped_by.ensures ∙ c.if-stopped_by.false, lt-ltb _ 40 c.if-room-lt40.true) c.silent.ensures

pub returns-then-is_ok : goal.returns-then-is_ok
unfolding unrouted_by
returns-then-is_ok c =
    rw (sym c.stopped_by.ensures ∙ c.if-stopped_by.false, le-ltb _ 40 c.if-room-lt40.false, sym c.is_ok.ensures.value ∙ c.if-is_ok.true) c.stop.ensures

pub returns : goal.returns
unfolding unrouted_by
returns c =
    rw (sym c.stopped_by.ensures ∙ c.if-stopped_by.false, le-ltb _ 40 c.if-room-lt40.false, sym c.is_ok.ensures.value ∙ c.if-is_ok.false)
