-- `forward_batch::forward_each` meets its contract.
use mathlib.Core.Path.{◌≡◌}
use mathlib.Core.List.{◌++◌}
use Prim.Native.Nat.{◌-◌, ◌*◌}
use lib.ListN.{length, take, drop}
use Rattle.table.specs.Table.{lent}
use Rattle.forward_batch.specs.Batch.{batch_of}
use Rattle.forward_batch.proofs.forward_each.Given as goal

abbrev pub invariant-loop-i : goal.invariant-loop-i
invariant-loop-i l =
    (length l.output ≡ length l.initial.output)
    × (batch_of (record { arriving = l.arriving; leaving = l.leaving; table = lent l.table l.rows; levels = l.levels }) l.n l.input l.initial.output
    ≡ take (l.i * 64) l.output ++ batch_of (record { arriving = l.arriving; leaving = l.leaving; table = lent l.table l.rows; levels = l.levels }) (l.n - l.i) (drop (l.i * 64) l.input) (drop (l.i * 64) l.output))
