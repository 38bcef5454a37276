-- `table_levels::partner_of` meets its contract. The loop's invariant: the pairs that are left decide.
use mathlib.Core.Path.{◌≡◌}
use lib.ListN.{drop}
use Rattle.table_levels.specs.Levels.{partner_of}
use Rattle.table_levels.proofs.partner_of.Given as goal

abbrev pub invariant-loop-pair : goal.invariant-loop-pair
invariant-loop-pair l = partner_of l.pair-items l.level ≡ partner_of (drop l.pair-index l.pair-items) l.level
