-- `option_form::least` meets its contract: the forms that may be taken, and the shorter of them.
-- Assumes nothing.
use mathlib.Core.Path.{◌∙◌}
use Rattle.option.specs.Spelling.{shorter, least_form}
use Rattle.option_form.proofs.least.Goals as goal

pub returns : goal.returns
unfolding least_form
returns c =
    let last = c.shorter_of.ensures ∙ (λ i. shorter (c.form_if-numbers.ensures i) (c.form_if-pairs.ensures i)) in
    let rest = c.shorter_of-2.ensures ∙ (λ i. shorter (c.form_if-ten.ensures i) (last i)) in
    c.shorter_of-3.ensures ∙ (λ i. shorter (c.form_if-shortest.ensures i) (rest i))
