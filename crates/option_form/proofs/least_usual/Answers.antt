-- `option_form::least_usual` meets its contract: each return by the tests taken.
-- Assumes nothing.
use mathlib.Core.Path.{sym, ◌∙◌}
use Rattle.option_form.proofs.Sizes.{usual_one, usual_two, usual_five, usual_none}
use Rattle.option_form.proofs.least_usual.Goals as goal

pub returns-then-takes_one : goal.returns-then-takes_one
returns-then-takes_one c =
    let a = c.args in
    usual_one a.one a.two a.five (sym c.takes_one.ensures ∙ c.if-takes_one.true)

pub returns-then-takes_two : goal.returns-then-takes_two
returns-then-takes_two c =
    let a = c.args in
    usual_two a.one a.two a.five (sym c.takes_one.ensures ∙ c.if-takes_one.false) (sym c.takes_two.ensures ∙ c.if-takes_two.true)

pub returns-then-takes_five : goal.returns-then-takes_five
returns-then-takes_five c =
    let a = c.args in
    usual_five a.one a.two a.five (sym c.takes_one.ensures ∙ c.if-takes_one.false) (sym c.takes_two.ensures ∙ c.if-takes_two.false)
    (sym c.takes_five.ensures ∙ c.if-takes_five.true)

pub returns : goal.returns
returns c =
    let a = c.args in
    usual_none a.one a.two a.five c.requires (sym c.takes_one.ensures ∙ c.if-takes_one.false)
    (sym c.takes_two.ensures ∙ c.if-takes_two.false) (sym c.takes_five.ensures ∙ c.if-takes_five.false)
