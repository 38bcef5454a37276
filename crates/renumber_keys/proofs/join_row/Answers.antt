-- `renumber_keys::join_row` meets its contract.
use native.Mathlib.Omega.{arith}
use Prim.Native.Nat.{ℕ, ◌+◌}
use mathlib.Core.Path.{◌≡◌, sym, ◌∙◌, ap}
use mathlib.Core.List.{List, ◌∷◌}
use lib.ListN.{take, drop, get_or, length}
use Rattle.label.proofs.Steps.{next_used}
use Rattle.renumber_keys.specs.Stages.{join_onto}
use Rattle.renumber_keys.proofs.Turns.{same_later}
use Rattle.renumber_keys.proofs.join_row.Goals as goal

pub loop-i-preserved : goal.loop-i-preserved
loop-i-preserved c =
    let v = c.loop-i in
    let p = c.push_key-k in
    let rest = drop (v.i + 1) (take c.args.e c.args.cut.now) in
    let seen : drop v.i (take c.args.e c.args.cut.now) ≡ get_or c.args.cut.now v.i 0 ∷ rest = next_used 0 c.args.cut.now c.args.e v.i (omega arith) c.requires.0 in (
      omega (arith, v.invariant.0, p.ensures.0),
      p.ensures.2 ∙ same_later v.keys c.args.keys.now v.k p.result p.ensures.0 v.invariant.1,
      omega (arith, v.invariant.2, ap length seen, p.ensures.1),
      ap (λ (z : List ℕ). join_onto z rest) p.ensures.3 ∙ ap (join_onto (take v.k v.keys)) (sym seen) ∙ v.invariant.3,
    )
