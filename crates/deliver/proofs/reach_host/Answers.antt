-- `deliver::reach_host` meets its contract.
use Rattle.std.proofs.lemmas.Result.{err_from_is_err_and}
use mathlib.Core.Path.{sym, ◌∙◌}
use Rattle.deliver.specs.Stages.{hosted_by}
use Rattle.deliver.proofs.reach_host.Goals as goal

pub returns-then-stopped_by : goal.returns-then-stopped_by
unfolding hosted_by
returns-then-stopped_by c = rw (sym c.stopped_by.ensures ∙ c.if-stopped_by.true)

pub returns-then-not-host_sound : goal.returns-then-not-host_sound
unfolding hosted_by
returns-then-not-host_sound c =
    rw (sym c.stopped_by.ensures ∙ c.if-stopped_by.false, sym c.host_sound.ensures ∙ c.if-not-host_sound.true) c.silent.ensures

pub returns-in_err-passed : goal.returns-in_err-passed
unfolding hosted_by
returns-in_err-passed c =
    let p = err_from_is_err_and c.from_residual.result c.from_residual.ensures.1 in
    rw (p.1, p.2, sym c.stopped_by.ensures ∙ c.if-stopped_by.false, sym c.host_sound.ensures ∙ c.if-not-host_sound.false, c.in_err-passed.was)

pub returns-then-not-held_between : goal.returns-then-not-held_between
unfolding hosted_by
returns-then-not-held_between c =
    rw (sym c.stopped_by.ensures ∙ c.if-stopped_by.false, sym c.host_sound.ensures ∙ c.if-not-host_sound.false, c.in_ok-passed.was, sym c.held_between.ensures ∙ c.if-not-held_between.true) c.barred.ensures

pub returns : goal.returns
unfolding hosted_by
returns c =
    rw (sym c.stopped_by.ensures ∙ c.if-stopped_by.false, sym c.host_sound.ensures ∙ c.if-not-host_sound.false, c.in_ok-passed.was, sym c.held_between.ensures ∙ c.if-not-held_between.false)
