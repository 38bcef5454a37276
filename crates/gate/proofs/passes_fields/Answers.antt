-- `gate::passes_fields` meets its contract.
use borrow.Author.Tests.{not-true, not-false}
use mathlib.Core.Path.{sym, ◌∙◌}
use mathlib.Core.Bool.{and-false}
use Rattle.gate.proofs.Back.{passes_fields}
use Rattle.gate.proofs.passes_fields.Goals as goal

pub returns-then-not-at_most : goal.returns-then-not-at_most
returns-then-not-at_most c =
    let a = c.args in
    sym (passes_fields a.low a.high a.level a.flags a.fields.now ∙ simp (sym c.at_most.ensures ∙ not-true _ c.if-not-at_most.true-raw))

pub returns-then-not-at_most-2 : goal.returns-then-not-at_most-2
returns-then-not-at_most-2 c =
    let a = c.args in
    sym (passes_fields a.low a.high a.level a.flags a.fields.now ∙ simp (sym c.at_most-2.ensures ∙ not-true _ c.if-not-at_most-2.true-raw, and-false))

pub returns : goal.returns
returns c =
    let a = c.args in
    c.has_field.ensures
    ∙ sym (passes_fields a.low a.high a.level a.flags a.fields.now ∙ simp (sym c.at_most.ensures ∙ not-false _ c.if-not-at_most.false-raw, sym c.at_most-2.ensures ∙ not-false _ c.if-not-at_most-2.false-raw))
