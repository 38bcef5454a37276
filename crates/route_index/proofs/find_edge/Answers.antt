-- `route_index::find_edge` meets its contract.
use native.Mathlib.Omega.{arith}
use borrow.Author.Tests.{le-leb, lt-leb}
use Rattle.lists_search.proofs.Halves.{halving_start, halving_up, halving_down, halving_end}
use Rattle.route_index.proofs.find_edge.Invariants.{past}
use Rattle.route_index.proofs.find_edge.Goals as goal

pub loop-low-init : goal.loop-low-init
loop-low-init c = halving_start (past c.args.index.now c.args.address) c.args.n 0 _ c.args.n (omega arith) (omega arith)

pub loop-low-preserved-then-edge-address : goal.loop-low-preserved-then-edge-address
loop-low-preserved-then-edge-address c =
    halving_up (past c.args.index.now c.args.address) _ c.args.n c.loop-low.low c.loop-low.high c.loop-low-test.true c.loop-low.invariant (le-leb _ c.args.address c.if-edge-address.true)

pub loop-low-preserved : goal.loop-low-preserved
loop-low-preserved c =
    halving_down (past c.args.index.now c.args.address) _ c.args.n c.loop-low.low c.loop-low.high c.loop-low-test.true c.loop-low.invariant (lt-leb _ c.args.address c.if-edge-address.false)

pub returns : goal.returns
returns c =
    halving_end (past c.args.index.now c.args.address) _ c.args.n c.loop-low.low c.loop-low.high c.loop-low.invariant c.loop-low-test.false
