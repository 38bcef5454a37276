-- `route_index::count_below` meets its contract.
use borrow.Author.Rules.{rules}
use lib.Dec.{ltb}
use Rattle.std.proofs.lemmas.List.Sorted.{IsPartitionPoint-from_clause}
use Rattle.route_index.proofs.Paint.{rising_parted, below_place}
use Rattle.route_index.proofs.count_below.Goals as goal

pub returns : goal.returns
returns c =
    let xs = c.args.addresses.now in
    below_place xs c.args.x c.partition_point.result c.partition_point.ensures.bound
    (IsPartitionPoint-from_clause (λ y. ltb y c.args.x) _ _ c.partition_point.ensures.partitioned (rising_parted xs c.args.x c.requires) (λ a r q k. search rules))
