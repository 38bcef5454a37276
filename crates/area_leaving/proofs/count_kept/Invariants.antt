use Prim.Native.Nat.{◌≤◌, ◌-◌, ◌+◌}
use mathlib.Core.Path.{◌≡◌}
use lib.ListN.{length}
use Rattle.area_leaving.specs.Kept.{kept_of}
use Rattle.area_leaving.proofs.Laws.{kept_from}
use Rattle.area_leaving.proofs.count_kept.Given as goal

abbrev pub invariant-loop-at : goal.invariant-loop-at
invariant-loop-at l = (l.at ≤ length l.area) × (l.w ≤ l.at) × (l.w + length (kept_from l.area l.at) ≡ length (kept_of l.area))

abbrev pub decreases-loop-at : goal.decreases-loop-at
decreases-loop-at l = length l.area - l.at
