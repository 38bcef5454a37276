-- `bench_loops::time_read` meets its contract.
use Prim.Native.Nat.{◌≤◌}
use Rattle.bench_loops.proofs.time_read.Given as goal

abbrev pub invariant-loop : goal.invariant-loop
invariant-loop l = l.at ≤ l.last
