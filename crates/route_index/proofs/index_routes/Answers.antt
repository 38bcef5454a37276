-- `route_index::index_routes` meets its contract.
use borrow.Author.Rules.{rules}
use native.Mathlib.Omega.{arith}
use mathlib.Core.Path.{◌≡◌, refl}
use mathlib.Core.List.{List, ◌++◌, map}
use Prim.Native.Nat.{ℕ, ◌+◌, ◌*◌, ◌/◌, ◌≤◌}
use lib.ListN.{length, take, drop}
use lib.Seq.{drop-drop, length-take-le}
use Rattle.route.specs.Route.{routes_of}
use Rattle.route_index.specs.Index.{port_at}
use Rattle.route_index.specs.Stages.{Rising}
use Rattle.route_index.proofs.Put.{index_none, index_all}
use Rattle.route_index.proofs.Paint.{sorted_rising, rising_front}
use Rattle.route_index.proofs.index_routes.Goals as goal

pub returns-then-index-n : goal.returns-then-index-n
returns-then-index-n c =
    index_none c.args.routes.now c.args.index.now (length c.args.routes.now / 4 * 2 + 1) refl c.if-index-n.true

-- the two parts of the list, and what is put in the second
joined : (f : ℕ → ℕ) (n : ℕ) (b addresses behind ports : List ℕ) → addresses ≡ take n b → behind ≡ drop n b → ports ≡ map f addresses
    → addresses ++ (ports ++ drop n behind) ≡ take n b ++ (map f (take n b) ++ drop (n + n) b)
joined f n b addresses behind ports p q e = rw (e, p, q, drop-drop n n b)

pub paint_ports-requires : goal.paint_ports-requires
paint_ports-requires c =
    let n = length c.args.routes.now / 4 * 2 + 1 in
    let a : length c.put_edges.new.index ≡ length c.args.index.now = search rules in
    let b : length c.sort_keys.new.s ≡ length c.put_edges.new.index = search rules in
    let h : n ≤ length c.args.index.now / 2 = c.if-index-n.false in
    let s = c.split_at_mut-addresses.ensures in
    let r : Rising (take n c.sort_keys.new.s) (length (take n c.sort_keys.new.s)) =
    rising_front c.sort_keys.new.s n (omega arith) (sorted_rising n c.put_edges.new.index c.sort_keys.new.s (omega arith) c.sort_keys.ensures) in
    (omega (arith, s.front_len, s.back_len, length-take-le n c.split_at_mut-addresses.result.1.now (omega (arith, s.back_len))), c.if-routes-le1024.true, rw s.front r)

pub returns-then-routes-le1024 : goal.returns-then-routes-le1024
returns-then-routes-le1024 c =
    let s = c.split_at_mut-addresses in
    index_all c.args.routes.now c.args.index.now (length c.args.routes.now / 4 * 2 + 1) refl c.if-index-n.false c.put_edges.new.index c.sort_keys.new.s _ c.put_edges.ensures c.sort_keys.ensures
    (joined (port_at (routes_of c.args.routes.now)) (length c.args.routes.now / 4 * 2 + 1) c.sort_keys.new.s s.result.0.now s.result.1.now c.paint_ports.new.ports s.ensures.front s.ensures.back c.paint_ports.ensures)

pub returns : goal.returns
returns c =
    let s = c.split_at_mut-addresses in
    index_all c.args.routes.now c.args.index.now (length c.args.routes.now / 4 * 2 + 1) refl c.if-index-n.false c.put_edges.new.index c.sort_keys.new.s _ c.put_edges.ensures c.sort_keys.ensures
    (joined (port_at (routes_of c.args.routes.now)) (length c.args.routes.now / 4 * 2 + 1) c.sort_keys.new.s s.result.0.now s.result.1.now c.put_ports.new.ports s.ensures.front s.ensures.back c.put_ports.ensures)
