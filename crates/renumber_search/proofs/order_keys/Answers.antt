-- `renumber_search::order_keys` meets its contract.
use mathlib.Core.Path.{◌∙◌}
use Rattle.std.proofs.lemmas.Bool.{MatchBool-at_true}
use Rattle.std.proofs.lemmas.List.Sorted.{non_decreasing_from_is_sorted}
use Rattle.renumber_search.proofs.Joining.{stands_same, all_sorted}
use Rattle.renumber_search.proofs.order_keys.Goals as goal

pub returns-then-is_sorted : goal.returns-then-is_sorted
returns-then-is_sorted c =
    let ks = c.args.keys.now in
    stands_same ks (MatchBool-at_true _ _ c.if-is_sorted.true (non_decreasing_from_is_sorted ks _ c.is_sorted.ensures.cases))

pub returns : goal.returns
returns c = c.sort_keys.ensures ∙ all_sorted c.args.keys.now
