-- `table_levels::look_levels` meets its contract.
use mathlib.Core.Path.{◌≡◌}
use mathlib.Core.Bool.{◌&&◌}
use lib.Dec.{eqb}
use lib.ListN.{drop}
use Rattle.table_levels.specs.Levels.{levels_rise, unused_pairs, level_numbers, partner_of}
use Rattle.table_levels.proofs.Partners.{first_found}
use Rattle.table_levels.proofs.look_levels.Given as goal

abbrev pub invariant-loop-pair : goal.invariant-loop-pair
invariant-loop-pair l =
    record {
      rise : levels_rise 0 0 l.pair-items ≡ levels_rise l.from l.to (drop l.pair-index l.pair-items);
      numbers : level_numbers l.pair-items ≡ level_numbers (drop l.pair-index l.pair-items);
      found : partner_of l.pair-items l.level ≡ first_found l.partner (partner_of (drop l.pair-index l.pair-items) l.level);
    }

abbrev pub invariant-loop-pair-2 : goal.invariant-loop-pair-2
invariant-loop-pair-2 l = unused_pairs l.pair-items ≡ (eqb l.rest 0 && unused_pairs (drop l.pair-index l.pair-items))
