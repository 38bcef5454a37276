-- `inspect_claim::compare::compare_claim` meets its contract: up to the place k of the head all agrees.
use mathlib.Core.Path.{◌≡◌}
use Prim.Native.Nat.{◌≤◌}
use lib.ListN.{length, drop}
use Rattle.inspect_claim.specs.Compare.{said_of, find_from}
use Rattle.inspect_claim.proofs.compare.compare_claim.Given as goal

abbrev pub invariant-loop-k : goal.invariant-loop-k
invariant-loop-k l = record {
  reached : l.k ≤ length l.claimed;
  agreed : find_from 0 (said_of l.d l.leaving) l.claimed ≡ find_from l.k (drop l.k (said_of l.d l.leaving)) (drop l.k l.claimed);
}
