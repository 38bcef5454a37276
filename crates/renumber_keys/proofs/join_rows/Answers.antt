-- `renumber_keys::join_rows` meets its contract.
use native.Mathlib.Omega.{arith}
use Prim.Native.Nat.{ℕ, ◌+◌, ◌%◌}
use mathlib.Core.Path.{◌≡◌, sym, ◌∙◌, ap}
use mathlib.Core.List.{List, ◌∷◌}
use lib.ListN.{take, drop, get_or, length, length-append}
use Rattle.label.proofs.Steps.{next}
use Rattle.renumber_keys.specs.Stages.{join_onto, parts_of}
use Rattle.renumber_keys.proofs.Join.{onto_append}
use Rattle.renumber_keys.proofs.Turns.{same_later}
use Rattle.renumber_keys.proofs.join_rows.Goals as goal

pub loop-x-preserved : goal.loop-x-preserved
loop-x-preserved c =
    let v = c.loop-x in
    let p = c.join_row-w in
    let order = c.args.order.now in
    let start = c.args.start.now in
    let cut = c.args.cut.now in
    let x = get_or order v.x-index 0 in
    let here = drop (get_or start (x % 65536) 0) (take (get_or start (x % 65536 + 1) 0) cut) in
    let rest = parts_of (drop (v.x-index + 1) order) start cut in
    let seen : drop v.x-index order ≡ x ∷ drop (v.x-index + 1) order = next 0 order v.x-index (omega arith) in
    let left : length (parts_of (drop v.x-index order) start cut) ≡ length here + length rest = ap (λ (z : List ℕ). length (parts_of z start cut)) seen ∙ length-append here rest in (
      p.ensures.2 ∙ same_later v.keys c.args.keys.now v.w p.result p.ensures.0 v.invariant.0,
      omega (arith, left, v.invariant.1, p.ensures.1),
      ap (λ (z : List ℕ). join_onto z rest) p.ensures.3
          ∙ sym (onto_append (take v.w v.keys) here rest)
          ∙ ap (λ (z : List ℕ). join_onto (take v.w v.keys) (parts_of z start cut)) (sym seen)
          ∙ v.invariant.2,
    )
