-- `renumber_reverse::reverse_by` meets its contract.
use native.Mathlib.Omega.{arith}
use Prim.Native.Nat.{◌/◌}
use mathlib.Core.Path.{◌≡◌, sym, ◌∙◌}
use lib.ListN.{length, take}
use Rattle.table.specs.Table.{lent}
use Rattle.table.proofs.Sound.{sound}
use Rattle.table.proofs.Order.{sound_room}
use Rattle.renumber_reverse.proofs.Answers.{in_order, first_order, reversed_unsound, rows_unsound, reversed_short, rows_short, reversed_done, rows_done}
use Rattle.renumber_reverse.proofs.reverse_by.Goals as goal

pub returns-then-not-table_order : goal.returns-then-not-table_order
returns-then-not-table_order c =
    let a = c.args in
    let t = lent a.table a.rows.now in
    let u = sym (sound_room t a.levels _ c.requires) ∙ sym c.if-not-table_order.ensures.0 in
    (reversed_unsound t a.levels (length a.back.now / 3) u, rows_unsound t a.levels a.back.now u)

pub returns-then-back-n : goal.returns-then-back-n
returns-then-back-n c =
    let a = c.args in
    let t = lent a.table a.rows.now in
    let s = sym (sound_room t a.levels _ c.requires) ∙ sym c.if-not-table_order.ensures.0 in
    (reversed_short t a.levels (length a.back.now / 3) s c.if-back-n.true, rows_short t a.levels a.back.now s c.if-back-n.true)

pub write_rows-requires : goal.write_rows-requires
write_rows-requires c =
    let a = c.args in
    let t = lent a.table a.rows.now in
    let s = sym (sound_room t a.levels _ c.requires) ∙ sym c.if-not-table_order.ensures.0 in
    let o = first_order _ _ _ (in_order t a.levels a.order.now _ s (c.requires (sound t a.levels s).rows_held) c.table_order.ensures.1) in
    (o, omega (arith, o.counted, (sound t a.levels s).counted))

pub returns : goal.returns
returns c =
    let a = c.args in
    let t = lent a.table a.rows.now in
    let s = sym (sound_room t a.levels _ c.requires) ∙ sym c.if-not-table_order.ensures.0 in
    let o = first_order _ _ _ (in_order t a.levels a.order.now _ s (c.requires (sound t a.levels s).rows_held) c.table_order.ensures.1) in
    let n : length (take a.table.count c.table_order.new.order) ≡ a.table.count = sym o.counted ∙ (sound t a.levels s).counted in
    (reversed_done t a.levels (length a.back.now / 3) s c.if-back-n.false, rows_done t a.levels a.back.now _ s c.if-back-n.false (rw n at c.write_rows.ensures))
