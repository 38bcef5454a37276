-- `route_index::paint_ports` meets its contract.
use native.Mathlib.Omega.{arith}
use mathlib.Core.Path.{◌≡◌, ◌∙◌}
use Prim.Native.Nat.{ℕ, ◌<◌}
use borrow.Author.Rules.{rules}
use lib.ListN.{length, get_or}
use Rattle.route_index.proofs.Paint.{painted_start, painted_all}
use Rattle.route_index.proofs.paint_ports.Goals as goal

pub paint_routes-requires : goal.paint_routes-requires
paint_routes-requires c =
    let z : (i : ℕ) → i < length c.fill.new.self → get_or c.fill.new.self i 0 ≡ 0 = λ i h. search rules in
    (c.requires.1, c.requires.2, painted_start c.args.routes.now c.args.addresses.now c.fill.new.self (c.fill.ensures.len ∙ c.requires.0) z)

pub name_ports-requires : goal.name_ports-requires
name_ports-requires c = (c.requires.1, λ i h. omega (arith, c.paint_routes.ensures.inside i h))

pub returns : goal.returns
returns c = c.name_ports.ensures ∙ painted_all c.args.routes.now c.args.addresses.now c.paint_routes.new.ports c.paint_routes.ensures
