-- `table::rows_order` meets its contract.
use borrow.Author.Rules.{rules}
use borrow.Author.Tests.{not-true, not-false}
use native.Mathlib.Omega.{arith}
use Prim.Native.Nat.{◌≤◌}
use mathlib.Core.Path.{sym, ◌∙◌}
use mathlib.Core.Bool.{true≢false}
use lib.ListN.{length}
use Rattle.label.proofs.Bools.{and_both}
use Rattle.table.specs.Table.{rows_from}
use Rattle.table.proofs.Lent.{rows_counted}
use Rattle.table.proofs.Rows.{chain_order, chain_apart, targets_chain}
use Rattle.table.proofs.Order.{rows_placed, rows_sorted, rows_front}
use Rattle.table.proofs.rows_order.Goals as goal

pub rows_rise-rise-requires : goal.rows_rise-rise-requires
rows_rise-rise-requires c = (c.requires.0, c.requires.1, c.requires.2)

pub returns-then-not-rise : goal.returns-then-not-rise
returns-then-not-rise c =
    let bad = sym c.rows_rise-rise.ensures.rise ∙ not-true _ c.if-not-rise.true in
    record { sound = sym (rw bad); written = λ w. absurd (true≢false (sym w)) }

pub returns-then-rise : goal.returns-then-rise
returns-then-rise c =
    let rs = rows_from c.args.rows.now in
    let sized = rows_counted c.args.rows.now c.args.n c.requires.0 in
    let few : length rs ≤ 65536 = omega (arith, sized, c.requires.1) in
    let told = not-false _ c.if-not-rise.false in
    let chained = sym (c.rows_rise-rise.ensures.ordered told) ∙ c.if-rise.true in
    record {
      sound = sym (and_both (sym c.rows_rise-rise.ensures.rise ∙ told) (chain_apart rs few chained));
      written = λ w. rows_placed rs c.args.n c.args.order.now c.rows_rise-rise.new.order sized (c.rows_rise-rise.ensures.written told) (chain_order rs chained);
    }

pub targets_apart-requires : goal.targets_apart-requires
targets_apart-requires c =
    let rs = rows_from c.args.rows.now in
    let sized = rows_counted c.args.rows.now c.args.n c.requires.0 in
    let told = not-false _ c.if-not-rise.false in (
      sized,
      c.requires.1,
      search rules,
      sym c.rows_rise-rise.ensures.rise ∙ told,
      rows_front rs c.args.n c.args.order.now c.rows_rise-rise.new.order sized (c.rows_rise-rise.ensures.written told) c.sort_keys.new.s c.sort_keys.ensures,
    )

pub returns : goal.returns
returns c =
    let rs = rows_from c.args.rows.now in
    let sized = rows_counted c.args.rows.now c.args.n c.requires.0 in
    let few : length rs ≤ 65536 = omega (arith, sized, c.requires.1) in
    let told = not-false _ c.if-not-rise.false in
    let risen = sym c.rows_rise-rise.ensures.rise ∙ told in
    record {
      sound = c.targets_apart.ensures ∙ targets_chain rs few ∙ sym (rw risen);
      written = λ w. rows_sorted rs c.args.n c.args.order.now c.rows_rise-rise.new.order sized (c.rows_rise-rise.ensures.written told) c.sort_keys.new.s c.sort_keys.ensures;
    }
