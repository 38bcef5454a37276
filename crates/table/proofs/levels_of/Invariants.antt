-- `table::levels_of` meets its contract.
use mathlib.Core.Bool.{true}
use mathlib.Core.Path.{◌≡◌}
use lib.ListN.{length, take}
use mathlib.Core.List.{map}
use Rattle.table.specs.Renumbering.{two_each}
use Rattle.table.proofs.levels_of.Given as goal

abbrev pub invariant-loop-i : goal.invariant-loop-i
invariant-loop-i l =
    record {
      long : length l.levels ≡ 256;
      taken : take l.i l.levels ≡ map (λ p. p.levels) (take l.i l.fn.renumbering.levels);
      typed : two_each (take l.i l.fn.renumbering.levels) ≡ true;
    }
