-- `renumber_reverse::reverse_levels` meets its contract.
use borrow.Author.Rules.{rules}
use native.Mathlib.Omega.{arith}
use mathlib.Core.Path.{◌≡◌, ◌∙◌, ap}
use mathlib.Core.List.{List}
use Prim.Native.Nat.{ℕ}
use lib.ListN.{length, set}
use Rattle.renumber_reverse.proofs.Steps.{levels_next}
use Rattle.renumber_reverse.proofs.reverse_levels.Goals as goal

sized : (c : goal.After-turn_pair) → length c.args.levels ≡ 256
sized c = search rules

pub loop-i-preserved : goal.loop-i-preserved
loop-i-preserved c =
    let v = c.loop-i in
    ap (λ (p : List ℕ). set v.out v.i p) c.turn_pair.ensures
    ∙ levels_next c.args.levels v.out v.i v.invariant (omega (arith, sized c)) (omega (arith, sized c))
