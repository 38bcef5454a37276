-- `renumber_search::cut_run` meets its contract.
use Prim.Native.Nat.{◌/◌, ◌%◌}
use lib.ListN.{drop}
use Rattle.table.specs.Table.{rows_from}
use Rattle.renumber_search.specs.Search.{run_cut}
use Rattle.renumber_search.proofs.Cuts.{RunCutting}
use Rattle.renumber_search.proofs.cut_run.Given as goal

abbrev pub invariant-loop-j : goal.invariant-loop-j
invariant-loop-j l =
    RunCutting (rows_from l.rows) l.row l.w (l.run % 65536) (run_cut (drop l.row (rows_from l.rows)) (l.run / 65536) (l.run % 65536)) l.initial.far l.j l.k l.low l.far
