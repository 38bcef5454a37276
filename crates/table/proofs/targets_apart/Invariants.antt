-- `table::targets_apart` meets its contract. The loop's invariant: the rows that are left along the order decide, as long as all kept apart so far.
use mathlib.Core.Path.{◌≡◌}
use mathlib.Core.Bool.{◌&&◌}
use lib.ListN.{drop}
use Rattle.table.specs.Table.{rows_from}
use Rattle.table.specs.Order.{in_order}
use Rattle.table.specs.Stages.{chain}
use Rattle.table.proofs.targets_apart.Given as goal

abbrev pub invariant-loop-k : goal.invariant-loop-k
invariant-loop-k l =
    chain 0 (in_order (rows_from l.rows)) ≡ (l.apart && chain l.past (drop l.k-index (in_order (rows_from l.rows))))
