-- `basic::permits` meets its contract. The loop's invariant: it was found exactly when it is among what was gone through.
use mathlib.Core.Path.{◌≡◌}
use lib.ListN.{take}
use Rattle.basic.specs.Settings.{among}
use Rattle.basic.proofs.permits.Given as goal

abbrev pub invariant-loop-field : goal.invariant-loop-field
invariant-loop-field l = l.found ≡ among (take l.field-index l.field-items) l.flags
