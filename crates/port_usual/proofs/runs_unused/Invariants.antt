-- `port_usual::runs_unused` meets its contract. The loop's invariant: all places from the first that is looked at are zero exactly when the OR so far is and what is
-- left of both lists is.
use mathlib.Core.Path.{◌≡◌}
use mathlib.Core.Bool.{◌&&◌}
use lib.Dec.{eqb}
use lib.ListN.{drop}
use Rattle.label.specs.Runs.{unused}
use Rattle.port_usual.proofs.runs_unused.Given as goal

abbrev pub invariant-loop-i : goal.invariant-loop-i
invariant-loop-i g l =
    (unused (drop g.row.FIRST l.x) && unused (drop g.row.FIRST l.y)) ≡ (eqb l.rest 0 && (unused (drop l.i l.x) && unused (drop l.i l.y)))
