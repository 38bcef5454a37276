-- `route_index::paint_route` meets its contract.
use borrow.Author.Rules.{rules}
use Prim.Native.Nat.{◌≤◌}
use Rattle.route_index.proofs.Paint.{in_order, part_within, painted_next}
use Rattle.route_index.proofs.paint_route.Goals as goal

pub slice_bounds-paint_places-count : goal.slice_bounds-paint_places-count
slice_bounds-paint_places-count c =
    in_order c.args.routes.now c.args.addresses.now c.args.ports.now c.args.at c.count_below-low.result c.count_below-high.result c.first_address-first.result c.block-size.result c.requires.3 c.requires.4 c.requires.1 c.requires.2 c.first_address-first.ensures c.block-size.ensures.0 c.count_below-low.ensures c.count_below-high.ensures

pub slice_bounds-paint_places-start : goal.slice_bounds-paint_places-start
slice_bounds-paint_places-start c =
    let h : c.count_below-low.result ≤ c.count_below-high.result =
    in_order c.args.routes.now c.args.addresses.now c.args.ports.now c.args.at c.count_below-low.result c.count_below-high.result c.first_address-first.result c.block-size.result c.requires.3 c.requires.4 c.requires.1 c.requires.2 c.first_address-first.ensures c.block-size.ensures.0 c.count_below-low.ensures c.count_below-high.ensures in
    search rules

pub paint_places-requires : goal.paint_places-requires
paint_places-requires c =
    (c.requires.0, c.requires.1, part_within c.args.routes.now c.args.addresses.now c.args.ports.now c.args.at c.count_below-low.result c.count_below-high.result c.first_address-first.result c.block-size.result c.requires.3 c.requires.4 c.requires.1 c.requires.2 c.first_address-first.ensures c.block-size.ensures.0 c.count_below-low.ensures c.count_below-high.ensures)

pub returns : goal.returns
returns c =
    rw c.paint_places.ensures (painted_next c.args.routes.now c.args.addresses.now c.args.ports.now c.args.at c.count_below-low.result c.count_below-high.result c.first_address-first.result c.block-size.result c.requires.3 c.requires.4 c.requires.1 c.requires.2 c.first_address-first.ensures c.block-size.ensures.0 c.count_below-low.ensures c.count_below-high.ensures)
