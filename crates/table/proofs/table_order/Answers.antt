-- `table::table_order` meets its contract.
use mathlib.Core.Path.{sym, ◌∙◌}
use Rattle.table.specs.Table.{lent}
use Rattle.table.proofs.Order.{pairs_unsound, pairs_sound_lem}
use Rattle.table.proofs.table_order.Goals as goal

pub returns-then-not-levels_sound : goal.returns-then-not-levels_sound
returns-then-not-levels_sound c =
    let a = c.args in
    pairs_unsound (lent a.table a.rows.now) a.levels a.order.now _ (sym c.levels_sound.ensures ∙ c.if-not-levels_sound.true) (c.fill.ensures.after (λ y h. h))

pub returns : goal.returns
returns c =
    let a = c.args in
    pairs_sound_lem (lent a.table a.rows.now) a.levels a.order.now _ _ (sym c.levels_sound.ensures ∙ c.if-not-levels_sound.false) c.bare_order.ensures.0 c.bare_order.ensures.1
