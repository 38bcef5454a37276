-- `file_table::first_meeting` meets its contract.
use Prim.Native.Nat.{◌-◌, ◌/◌, ◌≤◌, ◌<◌}
use mathlib.Core.Bool.{true, false}
use mathlib.Core.Path.{◌≡◌}
use lib.ListN.{length, take}
use Rattle.table.specs.Table.{rows_from, targets_apart}
use Rattle.file_table.proofs.first_meeting.Given as goal

abbrev pub invariant-loop-low : goal.invariant-loop-low
invariant-loop-low l = (l.low < l.high) × (l.high ≤ length l.rows / 3) × (targets_apart (take l.low (rows_from l.rows)) ≡ true) × (targets_apart (take l.high (rows_from l.rows)) ≡ false)

abbrev pub decreases-loop-low : goal.decreases-loop-low
decreases-loop-low l = l.high - l.low
