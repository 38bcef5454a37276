-- `port_usual::ways_zero` meets its contract. The loop's invariant: all places are 0 exactly when those passed have no bit and what is left of both is 0.
use mathlib.Core.Path.{◌≡◌}
use mathlib.Core.Bool.{◌&&◌}
use lib.Dec.{eqb}
use Rattle.basic.specs.Settings.{unused}
use Rattle.port_usual.proofs.Usual.{none_from}
use Rattle.port_usual.proofs.ways_zero.Given as goal

abbrev pub invariant-loop-i : goal.invariant-loop-i
invariant-loop-i l =
    ((unused l.receiving.flags && unused l.sending.flags) ≡ (eqb l.any 0 && (none_from l.receiving.flags l.i && none_from l.sending.flags l.i)))
