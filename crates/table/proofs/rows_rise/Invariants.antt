-- `table::rows_rise` meets its contract.
use mathlib.Core.Path.{◌≡◌}
use mathlib.Core.Bool.{◌&&◌}
use mathlib.Core.List.{◌++◌}
use lib.ListN.{take, drop}
use Rattle.table.specs.Table.{rows_from, rising}
use Rattle.table.specs.Order.{order_keys}
use Rattle.table.specs.Stages.{chain}
use Rattle.table.proofs.rows_rise.Given as goal

abbrev pub invariant-loop-i : goal.invariant-loop-i
invariant-loop-i l =
    record {
      rise : rising 0 (rows_from l.rows) ≡ rising l.floor (drop l.i (rows_from l.rows));
      ordered : chain 0 (rows_from l.rows) ≡ (l.targets && chain l.past (drop l.i (rows_from l.rows)));
      written : l.order ≡ order_keys 0 (take l.i (rows_from l.rows)) ++ drop l.i l.initial.order;
    }
