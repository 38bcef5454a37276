-- `area_leaving::copy_kept` meets its contract.
use Prim.Native.Nat.{◌≤◌, ◌-◌, ◌+◌}
use mathlib.Core.Path.{◌≡◌}
use lib.ListN.{length, take}
use Rattle.lists.specs.Lists.{paint}
use Rattle.area_leaving.specs.Kept.{kept_of}
use Rattle.area_leaving.proofs.Laws.{kept_from}
use Rattle.area_leaving.proofs.copy_kept.Given as goal

-- what is still to be written is the rest of what was asked for
abbrev pub invariant-loop-at : goal.invariant-loop-at
invariant-loop-at l =
    (l.at ≤ length l.area) × (length l.out ≡ length l.initial.out) × (l.w + l.left ≤ length l.out)
    × (l.w + length (take l.left (kept_from l.area l.at)) ≡ l.from + length (take l.most (kept_of l.area)))
    × (paint l.w (take l.left (kept_from l.area l.at)) l.out ≡ paint l.from (take l.most (kept_of l.area)) l.initial.out)

abbrev pub decreases-loop-at : goal.decreases-loop-at
decreases-loop-at l = length l.area - l.at
