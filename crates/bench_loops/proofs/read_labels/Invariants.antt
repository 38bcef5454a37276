-- `bench_loops::read_labels` meets its contract.
use Prim.Native.Nat.{◌≤◌}
use Rattle.bench_loops.proofs.read_labels.Given as goal

abbrev pub invariant-loop-label : goal.invariant-loop-label
invariant-loop-label l = l.at ≤ l.last
