-- `renumber_reverse::reverse_levels` meets its contract.
use mathlib.Core.Path.{◌≡◌}
use Rattle.renumber_reverse.proofs.Steps.{part_levels}
use Rattle.renumber_reverse.proofs.reverse_levels.Given as goal

abbrev pub invariant-loop-i : goal.invariant-loop-i
invariant-loop-i l = l.out ≡ part_levels l.fn.levels l.i
