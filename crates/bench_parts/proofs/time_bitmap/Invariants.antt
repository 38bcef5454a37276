-- `bench_parts::time_bitmap` meets its contract.
use Prim.Native.Nat.{◌≤◌}
use Rattle.bench_parts.proofs.time_bitmap.Given as goal

abbrev pub invariant-loop : goal.invariant-loop
invariant-loop l = l.at ≤ l.last
