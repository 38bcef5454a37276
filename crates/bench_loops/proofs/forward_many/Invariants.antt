-- `bench_loops::forward_many` meets its contract.
use Prim.Native.Nat.{◌≤◌}
use Rattle.bench_loops.proofs.forward_many.Given as goal

abbrev pub invariant-loop : goal.invariant-loop
invariant-loop l = (l.at ≤ l.last) × (l.from ≤ l.last_table)
