-- `memory::is_distinct` meets its contract.
use mathlib.Core.Path.{◌≡◌}
use lib.ListN.{drop}
use Rattle.memory.specs.Memory.{distinct}
use Rattle.memory.proofs.is_distinct.Given as goal

abbrev pub invariant-loop-i : goal.invariant-loop-i
invariant-loop-i l = distinct l.list ≡ distinct (drop l.i l.list)
