-- `renumber_keys::cut_runs` meets its contract.
use Prim.Native.Nat.{◌-◌, ◌+◌}
use Rattle.table.specs.Table.{rows_from}
use Rattle.renumber_keys.proofs.Cutting.{Turning}
use Rattle.renumber_keys.proofs.cut_runs.Given as goal

abbrev pub invariant-loop-j : goal.invariant-loop-j
invariant-loop-j l = Turning (rows_from l.rows) l.own l.cut l.start l.w l.i l.j l.from

abbrev pub decreases-loop-j : goal.decreases-loop-j
decreases-loop-j l = (l.n - l.i) + (l.m - l.j)
