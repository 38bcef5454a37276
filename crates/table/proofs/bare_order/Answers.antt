-- `table::bare_order` meets its contract.
use borrow.Author.Rules.{rules}
use borrow.Author.Tests.{leb-true}
use Prim.Native.Nat.{ℕ}
use mathlib.Core.Path.{◌≡◌, sym, ◌∙◌, ap}
use lib.ListN.{length, replicate}
use Rattle.label.proofs.Bools.{and_left, and_right}
use Rattle.table.proofs.Order.{tests_failed, order_refused, order_given, fields_held, rows_unsound, both_sound}
use Rattle.table.proofs.bare_order.Goals as goal

pub returns-then-not-fields-n : goal.returns-then-not-fields-n
returns-then-not-fields-n c =
    let a = c.args in
    order_refused a.table a.rows.now a.order.now _ (tests_failed a.table a.rows.now c.fields_sound-fields.result _ c.fields_sound-fields.ensures c.if-not-fields-n.true) (c.fill.ensures.after (λ y h. h))

pub rows_order-requires : goal.rows_order-requires
rows_order-requires c =
    let a = c.args in
    let t = c.if-not-fields-n.false in
    let h = fields_held a.table a.rows.now (sym c.fields_sound-fields.ensures ∙ and_left c.fields_sound-fields.result _ t) in
    (h.1, h.0, leb-true _ _ (and_right c.fields_sound-fields.result _ t))

pub returns-then-rows_order : goal.returns-then-rows_order
returns-then-rows_order c =
    let a = c.args in
    let t = c.if-not-fields-n.false in
    let b = both_sound a.table a.rows.now (sym c.fields_sound-fields.ensures ∙ and_left c.fields_sound-fields.result _ t) (sym c.rows_order.ensures.sound ∙ c.if-rows_order.true) in
    order_given a.table a.rows.now a.order.now _ b (leb-true _ _ (and_right c.fields_sound-fields.result _ t)) (c.rows_order.ensures.written c.if-rows_order.true)

pub returns : goal.returns
returns c =
    let a = c.args in
    let u = rows_unsound a.table a.rows.now (sym c.rows_order.ensures.sound ∙ c.if-rows_order.false) in
    let n : length c.rows_order.new.order ≡ length a.order.now = search rules in
    order_refused a.table a.rows.now a.order.now _ (rw u) (c.fill-2.ensures.after (λ y h. h) ∙ ap (λ (z : ℕ). replicate z 0) n)
