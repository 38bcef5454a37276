-- `port::range_sound` meets its contract.
use borrow.Author.Tests.{not-true, not-false, ne_eqb}
use mathlib.Core.Path.{sym, ◌∙◌}
use mathlib.Core.Bool.{and-false}
use Rattle.label.proofs.Labels.{compared_at_most}
use Rattle.port.specs.Port.{range_sound}
use Rattle.port.proofs.Laws.{range_at_most, range_ill_low, range_ill_high}
use Rattle.port.proofs.range_sound.Goals as goal

pub returns-then-lowest-domain : goal.returns-then-lowest-domain
unfolding range_sound
returns-then-lowest-domain c = simp (ne_eqb _ _ c.if-lowest-domain.true)

pub returns-then-highest-domain : goal.returns-then-highest-domain
unfolding range_sound
returns-then-highest-domain c = simp (ne_eqb _ _ c.if-highest-domain.true, and-false)

pub returns-then-not-well_formed : goal.returns-then-not-well_formed
returns-then-not-well_formed c =
    let a = c.args in
    range_ill_low a.lowest a.highest a.domain (sym c.well_formed-2.ensures ∙ not-true _ c.if-not-well_formed.true-raw)

pub returns-then-not-well_formed-2 : goal.returns-then-not-well_formed-2
returns-then-not-well_formed-2 c =
    let a = c.args in
    range_ill_high a.lowest a.highest a.domain (sym c.well_formed-3.ensures ∙ not-true _ c.if-not-well_formed-2.true-raw)

pub returns : goal.returns
returns c =
    let a = c.args in
    let low = sym c.well_formed-2.ensures ∙ not-false _ c.if-not-well_formed.false-raw in
    let high = sym c.well_formed-3.ensures ∙ not-false _ c.if-not-well_formed-2.false-raw in
    c.at_most.ensures
    ∙ compared_at_most a.lowest a.highest low high
    ∙ range_at_most a.lowest a.highest a.domain c.if-lowest-domain.false c.if-highest-domain.false low high
