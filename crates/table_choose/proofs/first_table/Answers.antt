-- `table_choose::first_table` meets its contract.
use borrow.Author.Rules.{rules}
use mathlib.Core.Path.{refl, ◌∙◌, ap}
use mathlib.Core.List.{List}
use native.Mathlib.Omega.{arith}
use lib.ListN.{take}
use Rattle.label.proofs.Steps.{length_mapped}
use Rattle.table.specs.declared.Renumbering.{Renumbering}
use Rattle.table_choose.specs.Tables.{tables_from, first_table}
use Rattle.table_choose.proofs.Laws.{used_same, found, passed, none_left, found_none}
use Rattle.table_choose.proofs.first_table.Goals as goal

pub returns-then-table-from : goal.returns-then-table-from
returns-then-table-from c =
    let a = c.args in
    let v = c.loop-item in
    let items = take c.min-n.result a.tables.items in
    let used = used_same a.tables c.min-n.result (search (length_mapped, rules)) c.min-n.ensures in
    let e = c.end_of-end.ensures in (
      found items v.item-index a.rows.now v.at c.loop-item-test.true _ refl c.end_of-end.result v.invariant.inside e.2 a.from a.to _ v.invariant.first _ refl c.if-table-from.true
          ∙ ap (λ (z : List Renumbering). first_table a.from a.to (tables_from z a.rows.now)) used,
      e.0,
      e.1,
    )

pub loop-item-preserved : goal.loop-item-preserved
loop-item-preserved c =
    let a = c.args in
    let v = c.loop-item in
    let items = take c.min-n.result a.tables.items in
    let e = c.end_of-end.ensures in
    record {
      inside = e.1;
      first = passed items v.item-index a.rows.now v.at c.loop-item-test.true _ refl c.end_of-end.result v.invariant.inside e.2 a.from a.to _ v.invariant.first _ refl c.if-table-from.false;
    }

pub returns : goal.returns
returns c =
    let a = c.args in
    let v = c.loop-item in
    let items = take c.min-n.result a.tables.items in
    let used = used_same a.tables c.min-n.result (search (length_mapped, rules)) c.min-n.ensures in
    let e = c.no_table_from.ensures in (
      found_none c.no_table_from.result a.rows.now a.from e.0 e.1 e.2
          ∙ none_left items v.item-index a.rows.now v.at a.from a.to _ v.invariant.first c.loop-item-test.false
          ∙ ap (λ (z : List Renumbering). first_table a.from a.to (tables_from z a.rows.now)) used,
      omega (arith, e.1, e.2),
      omega (arith, e.2),
    )
