-- `inspect_line::inspect_held` meets its contract.
use Prim.Native.Nat.{◌+◌, ◌-◌, ◌*◌, ◌≤◌}
use lib.ListN.{length}
use Rattle.inspect_line.specs.Lines.{record_line}
use Rattle.inspect_line.proofs.Held.{Going}
use Rattle.inspect_line.proofs.inspect_held.Given as goal

abbrev pub invariant-loop-size : goal.invariant-loop-size
invariant-loop-size l =
    (l.at + l.size ≤ length l.held) × (2 ≤ l.size + 2 * (1 - l.size)) × Going (record_line l.set l.rows) l.held l.initial.lines l.lines l.at l.size

abbrev pub decreases-loop-size : goal.decreases-loop-size
decreases-loop-size l = length l.held - l.at
