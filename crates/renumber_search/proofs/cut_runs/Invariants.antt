-- `renumber_search::cut_runs` meets its contract.
use Rattle.label_keys.specs.Keys.{key_runs}
use Rattle.table.specs.Table.{rows_from}
use Rattle.renumber_search.proofs.Cuts.{AllCutting}
use Rattle.renumber_search.proofs.cut_runs.Given as goal

abbrev pub invariant-loop-run : goal.invariant-loop-run
invariant-loop-run l = AllCutting (rows_from l.rows) (key_runs l.own) l.initial.far l.w l.run-index l.j l.far
