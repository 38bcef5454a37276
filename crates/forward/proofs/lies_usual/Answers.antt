-- `forward::lies_usual` meets its contract.
use mathlib.Core.Path.{sym, ◌∙◌}
use Rattle.label_keys.specs.Keys.{key_runs}
use lib.ListN.{take}
use Rattle.forward.proofs.Usual.{look_last}
use Rattle.forward.proofs.lies_usual.Goals as goal

pub returns-in-Within : goal.returns-in-Within
returns-in-Within c = rw (sym c.look_between.ensures ∙ c.in-Within.is)

pub returns-in-Outside : goal.returns-in-Outside
returns-in-Outside c = rw (sym c.look_between.ensures ∙ c.in-Outside.is)

pub returns-in-Open : goal.returns-in-Open
returns-in-Open c =
    let v = c.args.passed in
    let told = sym c.look_between.ensures ∙ c.in-Open.is in
    sym (look_last c.args.lowest c.args.highest v.level (key_runs (take v.count c.args.keys.now)) c.requires.0 c.requires.1 ∙ rw told)
