-- `route_index::find_route` meets its contract.
use native.Mathlib.Omega.{arith}
use mathlib.Core.Path.{sym}
use Prim.Native.Nat.{◌≤◌}
use lib.Dec.{leb}
use lib.ListN.{get_or}
use borrow.Author.Tests.{le-leb, lt-leb, eq-eqb, ne_eqb}
use Rattle.lists_search.proofs.Theorems.{searches}
use Rattle.route_index.specs.Index.{found_in}
use Rattle.route_index.proofs.find_route.Goals as goal

pub returns-then-index-n : goal.returns-then-index-n
unfolding found_in
returns-then-index-n c = sym (rw (lt-leb _ _ c.if-index-n.true))

pub returns-then-k-eq0 : goal.returns-then-k-eq0
unfolding found_in
returns-then-k-eq0 c = sym (rw (le-leb _ _ c.if-index-n.false, ← c.find_edge-k.ensures, eq-eqb _ _ c.if-k-eq0.true))

-- no more than there are
few : (c : goal.Else-k-eq0) → c.find_edge-k.result ≤ c.args.n
few c =
    rw c.find_edge-k.ensures (searches.between c.args.n (λ i. leb (get_or c.args.index.now i 0) c.args.address) 0 c.args.n (omega arith)).1

pub overflow_add-result : goal.overflow_add-result
overflow_add-result c = omega (arith, few c, c.if-index-n.false)

pub offset_bounds-index-n : goal.offset_bounds-index-n
offset_bounds-index-n c = omega (arith, few c, c.if-index-n.false)

-- no more than there are
few-After-shared_slice_known-2-1-unread : (c : goal.After-shared_slice_known-2-1-unread) → c.find_edge-k.result ≤ c.args.n
few-After-shared_slice_known-2-1-unread c =
    rw c.find_edge-k.ensures (searches.between c.args.n (λ i. leb (get_or c.args.index.now i 0) c.args.address) 0 c.args.n (omega arith)).1

pub bounds-index-n : goal.bounds-index-n
bounds-index-n c = omega (arith, few-After-shared_slice_known-2-1-unread c, c.if-index-n.false, c.if-k-eq0.false)

pub returns : goal.returns
unfolding found_in
returns c = sym (rw (le-leb _ _ c.if-index-n.false, ← c.find_edge-k.ensures, ne_eqb _ _ c.if-k-eq0.false))
