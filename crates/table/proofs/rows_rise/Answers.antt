-- `table::rows_rise` meets its contract.
use native.Mathlib.Omega.{arith}
use Prim.Native.Nat.{ℕ, ◌+◌, ◌*◌}
use mathlib.Core.Path.{◌≡◌, sym, ◌∙◌, ap}
use mathlib.Core.Bool.{and_assoc, and-true}
use mathlib.Core.List.{List, [], ◌∷◌, ◌++◌}
use lib.Dec.{leb}
use lib.ListN.{take, drop, set, drop_of_length-le}
use Rattle.label.proofs.Steps.{next}
use Rattle.table.specs.declared.Row.{Row}
use Rattle.table.specs.Table.{rows_from, no_row, target_end}
use Rattle.table.specs.Order.{order_keys}
use Rattle.table.specs.Stages.{chain}
use Rattle.table.proofs.Lent.{rows_counted}
use Rattle.table.proofs.Order.{order_step, order_done, rise_parts, refused}
use Rattle.table.proofs.rows_rise.Goals as goal

pub returns-then-not-row_rises : goal.returns-then-not-row_rises
returns-then-not-row_rises c =
    let v = c.loop-i in
    let r = c.read_row-row.result in
    let rs = rows_from c.args.rows.now in
    let sized = rows_counted c.args.rows.now c.args.n c.requires.0 in
    let seen = next no_row rs v.i (omega (arith, sized, c.loop-i-test.true)) ∙ ap (λ (z : Row). z ∷ drop (v.i + 1) rs) (sym c.read_row-row.ensures) in
    let bad = sym c.row_rises.ensures ∙ c.if-not-row_rises.true in
    refused (v.invariant.rise ∙ rw seen (rise_parts v.floor r (drop (v.i + 1) rs) ∙ rw bad))

pub loop-i-preserved : goal.loop-i-preserved
loop-i-preserved c =
    let v = c.loop-i in
    let r = c.read_row-row.result in
    let rs = rows_from c.args.rows.now in
    let was = c.args.order.now in
    let sized = rows_counted c.args.rows.now c.args.n c.requires.0 in
    let seen = next no_row rs v.i (omega (arith, sized, c.loop-i-test.true)) ∙ ap (λ (z : Row). z ∷ drop (v.i + 1) rs) (sym c.read_row-row.ensures) in
    let good = sym c.row_rises.ensures ∙ c.if-not-row_rises.false in
    record {
      rise = v.invariant.rise ∙ rw seen (rise_parts v.floor r (drop (v.i + 1) rs) ∙ rw good);
      ordered = rw c.after_targets-past.ensures (v.invariant.ordered ∙ rw seen (sym (and_assoc v.targets (leb v.past r.target) (chain (target_end r + 1) (drop (v.i + 1) rs)))));
      written =
          ap (λ (z : List ℕ). set z v.i (r.target * 65536 + v.i)) v.invariant.written
          ∙ ap (λ (z : Row). set (order_keys 0 (take v.i rs) ++ drop v.i was) v.i (z.target * 65536 + v.i)) c.read_row-row.ensures
          ∙ order_step rs was v.i (omega (arith, sized, c.loop-i-test.true)) (omega (arith, c.requires.2, c.loop-i-test.true));
    }

pub returns : goal.returns
returns c =
    let v = c.loop-i in
    let rs = rows_from c.args.rows.now in
    let sized = rows_counted c.args.rows.now c.args.n c.requires.0 in
    let done : drop v.i rs ≡ [] = drop_of_length-le rs {i = v.i} (omega (arith, sized, c.loop-i-test.false)) in
    record {
      rise = sym (v.invariant.rise ∙ rw done);
      ordered = λ w. sym (v.invariant.ordered ∙ rw done (and-true v.targets));
      written = λ w. v.invariant.written ∙ order_done rs c.args.order.now v.i (omega (arith, sized, c.loop-i-test.false, c.loop-i.auto.i-end));
    }
