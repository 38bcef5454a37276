-- `table_choose::tables_sound` meets its contract.
use borrow.Author.Tests.{lt-leb, le-leb}
use mathlib.Core.Path.{refl, ◌∙◌, ap}
use lib.ListN.{take}
use Rattle.table.specs.Table.{table_sound}
use Rattle.table_choose.specs.Tables.{tables_sound}
use Rattle.table_choose.proofs.Laws.{fails, passes, left_turn, sound_end}
use Rattle.table_choose.proofs.tables_sound.Goals as goal

pub returns-then-n-gt-MAX_TABLES : goal.returns-then-n-gt-MAX_TABLES
unfolding tables_sound
returns-then-n-gt-MAX_TABLES c = simp (lt-leb _ _ c.if-n-gt-MAX_TABLES.true)

pub returns-then-not-table_sound : goal.returns-then-not-table_sound
unfolding tables_sound
returns-then-not-table_sound c =
    let v = c.loop-item in
    let items = take c.args.tables.count c.args.tables.items in
    rw (le-leb _ _ c.if-n-gt-MAX_TABLES.false) (fails items v.item-index c.args.rows.now v.at c.loop-item-test.true _ refl
    c.end_of-end.result v.invariant.inside c.end_of-end.ensures.2 _ v.invariant.sound c.table_sound.result (c.table_sound.ensures ∙ ap (table_sound _) c.levels_of.ensures.0) _ c.if-not-table_sound.true)

pub loop-item-preserved : goal.loop-item-preserved
loop-item-preserved c =
    let v = c.loop-item in
    let items = take c.args.tables.count c.args.tables.items in
    record {
      inside = c.end_of-end.ensures.1;
      sound = passes items v.item-index c.args.rows.now v.at c.loop-item-test.true _ refl
          c.end_of-end.result v.invariant.inside c.end_of-end.ensures.2 _ v.invariant.sound c.table_sound.result (c.table_sound.ensures ∙ ap (table_sound _) c.levels_of.ensures.0) c.if-not-table_sound.false;
      left = left_turn items v.item-index c.args.rows.now v.at c.loop-item-test.true _ refl c.end_of-end.result v.invariant.inside c.end_of-end.ensures.2 _ v.invariant.left;
    }

pub returns : goal.returns
unfolding tables_sound
returns c =
    let v = c.loop-item in
    let items = take c.args.tables.count c.args.tables.items in
    rw (le-leb _ _ c.if-n-gt-MAX_TABLES.false) (sound_end items v.item-index c.args.rows.now v.at _ _ c.loop-item-test.false v.invariant.inside v.invariant.sound v.invariant.left)
