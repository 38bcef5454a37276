-- `port::lies_within` meets its contract.
use borrow.Author.Tests.{not-true, not-false}
use mathlib.Core.Path.{◌≡◌, sym, ◌∙◌}
use mathlib.Core.Bool.{true, false}
use Rattle.label.specs.Label.{well_formed, at_most}
use Rattle.label.proofs.Labels.{compared_at_most}
use Rattle.port.proofs.Laws.{assigned_ill, assigned_is}
use Rattle.port.proofs.lies_within.Goals as goal

pub returns-then-not-well_formed : goal.returns-then-not-well_formed
returns-then-not-well_formed c =
    let a = c.args in
    assigned_ill a.lowest a.highest a.label (sym c.well_formed-2.ensures ∙ not-true _ c.if-not-well_formed.true-raw)

formed : (c : goal.Then-not-at_most) → well_formed c.args.label ≡ true
formed c = sym c.well_formed-2.ensures ∙ not-false _ c.if-not-well_formed.false-raw

pub returns-then-not-at_most : goal.returns-then-not-at_most
returns-then-not-at_most c =
    let a = c.args in
    let out : at_most a.lowest a.label ≡ false = sym (c.at_most.ensures ∙ compared_at_most a.lowest a.label c.requires.lowest_value (formed c)) ∙ not-true _ c.if-not-at_most.true-raw in
    simp out at (assigned_is a.lowest a.highest a.label c.requires.lowest_value c.requires.highest_value (formed c))

formed-After-at_most-2 : (c : goal.After-at_most-2) → well_formed c.args.label ≡ true
formed-After-at_most-2 c = sym c.well_formed-2.ensures ∙ not-false _ c.if-not-well_formed.false-raw

pub returns : goal.returns
returns c =
    let a = c.args in
    let low : at_most a.lowest a.label ≡ true = sym (c.at_most.ensures ∙ compared_at_most a.lowest a.label c.requires.lowest_value (formed-After-at_most-2 c)) ∙ not-false _ c.if-not-at_most.false-raw in
    c.at_most-2.ensures
    ∙ compared_at_most a.label a.highest (formed-After-at_most-2 c) c.requires.highest_value
    ∙ simp low at (assigned_is a.lowest a.highest a.label c.requires.lowest_value c.requires.highest_value (formed-After-at_most-2 c))
