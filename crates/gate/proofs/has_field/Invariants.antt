-- `gate::has_field` meets its contract. The loop's invariant: the flag field is one of the list exactly when it was found or is one of what is left.
use mathlib.Core.Path.{◌≡◌}
use mathlib.Core.Bool.{◌||◌}
use lib.ListN.{drop}
use Rattle.basic.specs.Settings.{among}
use Rattle.gate.proofs.has_field.Given as goal

abbrev pub invariant-loop-field : goal.invariant-loop-field
invariant-loop-field l = among l.fields l.flags ≡ (l.found || among (drop l.field-index l.fields) l.flags)
