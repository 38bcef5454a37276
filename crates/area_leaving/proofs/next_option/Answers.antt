use mathlib.Core.Path.{sym, ap, ◌∙◌}
use Rattle.std.specs.Prelude.{Some}
use Rattle.area_leaving.specs.Stages.{over, over_of}
use Rattle.area_leaving.proofs.Laws.{next_is}
use Rattle.area_leaving.proofs.next_option.Goals as goal

pub returns-in-None : goal.returns-in-None
returns-in-None c =
    ap (over_of c.read_kind-k.result) (sym c.in-None.is)
    ∙ next_is c.args.rest.now _ c.read_size.result _ c.read_kind-k.ensures c.read_size.ensures c.step.ensures

pub returns-in-Some : goal.returns-in-Some
returns-in-Some c =
    ap (λ (m : _). Some (over c.in-Some.n m)) c.kept_len.ensures
    ∙ ap (over_of c.read_kind-k.result) (sym c.in-Some.is)
    ∙ next_is c.args.rest.now _ c.read_size.result _ c.read_kind-k.ensures c.read_size.ensures c.step.ensures
