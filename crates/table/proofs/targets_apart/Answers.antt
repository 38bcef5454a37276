-- `table::targets_apart` meets its contract. The loop's invariant: the rows that are left along the order decide, as long as all kept apart so far.
use native.Mathlib.Omega.{arith}
use Prim.Native.Nat.{◌+◌}
use mathlib.Core.Path.{◌≡◌, sym, ◌∙◌, ap}
use mathlib.Core.Bool.{and_assoc, and-true}
use mathlib.Core.List.{[], ◌∷◌}
use lib.Dec.{leb}
use lib.ListN.{drop, length-map, drop_of_length-le}
use lib.Seq.{length-take-le}
use Rattle.table.specs.declared.Row.{Row}
use Rattle.table.specs.Table.{rows_from, target_end}
use Rattle.table.specs.Order.{row_at, row_order, in_order}
use Rattle.table.specs.Stages.{chain}
use Rattle.table.proofs.Lent.{rows_length}
use Rattle.table.proofs.Order.{turn_read, order_length}
use Rattle.table.proofs.targets_apart.Goals as goal

pub read_row-row-requires : goal.read_row-row-requires
read_row-row-requires c =
    let a = c.args in
    let turn = turn_read (rows_from a.rows.now) a.n a.order.now c.loop-k.k-index c.requires c.loop-k-test.true in
    omega (arith, rows_length a.rows.now, turn.place)

pub after_targets-past-requires : goal.after_targets-past-requires
after_targets-past-requires c =
    let a = c.args in
    let turn = turn_read (rows_from a.rows.now) a.n a.order.now c.loop-k.k-index c.requires c.loop-k-test.true in
    rw c.read_row-row.ensures turn.ordered

pub loop-k-preserved : goal.loop-k-preserved
loop-k-preserved c =
    let a = c.args in
    let v = c.loop-k in
    let turn = turn_read (rows_from a.rows.now) a.n a.order.now v.k-index c.requires c.loop-k-test.true in
    let r = c.read_row-row.result in
    let rest = drop (v.k-index + 1) (in_order (rows_from a.rows.now)) in
    let seen = turn.next ∙ ap (λ (z : Row). z ∷ rest) (sym c.read_row-row.ensures) in
    rw c.after_targets-past.ensures (v.invariant ∙ rw seen (sym (and_assoc v.apart (leb v.past r.target) (chain (target_end r + 1) rest))))

pub returns : goal.returns
returns c =
    let a = c.args in
    let v = c.loop-k in
    let rs = rows_from a.rows.now in
    let n = length-map (row_order rs) (row_at rs) ∙ order_length rs ∙ c.requires.0 in
    let m = length-take-le a.n a.order.now c.requires.2 in
    let done : drop v.k-index (in_order rs) ≡ [] = drop_of_length-le (in_order rs) {i = v.k-index} (omega (arith, n, m, c.loop-k-test.false)) in
    sym (v.invariant ∙ rw done (and-true v.apart))
