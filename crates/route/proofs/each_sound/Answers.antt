-- `route::each_sound` meets its contract.
use mathlib.Core.Path.{ap, ◌∙◌}
use mathlib.Core.List.{List}
use Prim.Native.Nat.{ℕ}
use Rattle.std.proofs.Common.{rules}
use Rattle.std.proofs.lemmas.Iterator.{YieldsList-from_slice}
use Rattle.std.proofs.lemmas.Iterator.Search.{all_from_yields_List}
use Rattle.std.specs.List.{list_all}
use Rattle.route.specs.Route.{route_sound}
use Rattle.route.specs.Stages.{route_at}
use Rattle.route.proofs.Laws.{every_chunk}
use Rattle.route.proofs.each_sound.Goals as goal

pub returns : goal.returns
returns c =
    let p = λ (ns : List ℕ). route_sound c.args.domains.now (route_at ns 0) in
    all_from_yields_List p _ _ c.all.result c.all.ensures.ran (YieldsList-from_slice c.as_chunks.result.0.now cc) (λ x b q k. search rules)
    ∙ ap (list_all p) c.as_chunks.ensures.front
    ∙ every_chunk (route_sound c.args.domains.now) c.args.routes.now
