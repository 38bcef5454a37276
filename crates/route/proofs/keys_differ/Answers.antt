-- `route::keys_differ` meets its contract.
use borrow.Author.Rules.{rules}
use lib.Dec.{ltb}
use lib.ListN.{take}
use Rattle.std.proofs.lemmas.List.Sorted.{answers_always}
use Rattle.route.proofs.Keys.{climbs_adjacent, climbs_gathered}
use Rattle.route.proofs.keys_differ.Goals as goal

pub returns : goal.returns
returns c =
    climbs_gathered c.gather_keys-n.ensures.gathered c.sort_keys.ensures
    (climbs_adjacent (take c.gather_keys-n.result c.sort_keys.new.s) c.is_sorted_by.result (c.is_sorted_by.ensures.cases (λ x y. ltb x y) (answers_always _ _ _ (λ f a r g h. search rules))))
