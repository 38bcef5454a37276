-- `basic::all_zero` meets its contract. The loop's invariant: what was gone through has no bit exactly when each of its places is 0.
use mathlib.Core.Path.{◌≡◌}
use lib.Dec.{eqb}
use lib.ListN.{take}
use Rattle.basic.specs.Settings.{unused}
use Rattle.basic.proofs.all_zero.Given as goal

abbrev pub invariant-loop-field : goal.invariant-loop-field
invariant-loop-field l = eqb l.any 0 ≡ unused (take l.field-index l.fields)
