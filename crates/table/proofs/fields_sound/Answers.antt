-- `table::fields_sound` meets its contract.
use borrow.Author.Rules.{rules}
use borrow.Author.Tests.{eq-eqb, ne_eqb, le-leb, lt-leb}
use Prim.Native.Nat.{◌≤◌}
use mathlib.Core.List.{[]}
use Rattle.table.specs.Stages.{fields_sound}
use Rattle.table.proofs.Order.{fields_rest}
use Rattle.table.proofs.fields_sound.Goals as goal

pub returns-then-table-eq0 : goal.returns-then-table-eq0
unfolding fields_sound
returns-then-table-eq0 c = simp (eq-eqb _ _ c.if-table-eq0.true)

pub returns-then-table-eq0-2 : goal.returns-then-table-eq0-2
unfolding fields_sound
returns-then-table-eq0-2 c = simp (ne_eqb _ _ c.if-table-eq0.false, eq-eqb _ _ c.if-table-eq0-2.true)

pub returns-then-table-gt-MAX_PAIRS : goal.returns-then-table-gt-MAX_PAIRS
unfolding fields_sound
returns-then-table-gt-MAX_PAIRS c =
    simp (ne_eqb _ _ c.if-table-eq0.false, ne_eqb _ _ c.if-table-eq0-2.false, lt-leb _ _ c.if-table-gt-MAX_PAIRS.true)

pub returns-then-count-gt-MAX_ROWS : goal.returns-then-count-gt-MAX_ROWS
unfolding fields_sound
returns-then-count-gt-MAX_ROWS c =
    simp (ne_eqb _ _ c.if-table-eq0.false, ne_eqb _ _ c.if-table-eq0-2.false, le-leb _ _ c.if-table-gt-MAX_PAIRS.false, lt-leb _ _ c.if-count-gt-MAX_ROWS.true)

pub returns : goal.returns
returns c =
    let p : c.args.table.from ≤ 4294967295 = search rules in
    let q : c.args.table.to ≤ 4294967295 = search rules in
    fields_rest c.args.table [] c.args.held c.if-table-eq0.false c.if-table-eq0-2.false c.if-table-gt-MAX_PAIRS.false c.if-count-gt-MAX_ROWS.false p q
