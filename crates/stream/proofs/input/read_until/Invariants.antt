use Rattle.std.proofs.Common.{◌≡◌, ◌-◌, ◌≤◌, length, take}
use Rattle.stream.proofs.input.read_until.Given as goal

abbrev pub invariant-loop-end : goal.invariant-loop-end
invariant-loop-end l =
    (length l.input ≡ length l.initial.input) × (l.held ≤ l.end) × (l.end ≤ length l.input) × (take l.held l.input ≡ take l.held l.initial.input)

abbrev pub decreases-loop-end : goal.decreases-loop-end
decreases-loop-end l = l.n - l.end
