-- `port::Port::is_plain` meets its contract.
use borrow.Author.Tests.{not-true, not-false}
use mathlib.Core.Path.{sym, ◌∙◌}
use mathlib.Core.Bool.{and-false, and-true}
use Rattle.port.specs.Port.{is_plain}
use Rattle.port.proofs.Laws.{later_flag, default_given}
use Rattle.port.proofs.Port.is_plain.Goals as goal

pub returns-then-not-is_usual : goal.returns-then-not-is_usual
unfolding is_plain
returns-then-not-is_usual c = simp (sym c.is_usual.ensures ∙ not-true _ c.if-not-is_usual.true-raw, and-false)

pub returns-then-self : goal.returns-then-self
returns-then-self c = later_flag c.args.self c.if-self.true

pub returns-then-not-is_zero : goal.returns-then-not-is_zero
returns-then-not-is_zero c = default_given c.args.self (sym c.is_zero.ensures ∙ not-true _ c.if-not-is_zero.true-raw)

pub returns : goal.returns
unfolding is_plain
returns c =
    c.is_off.ensures
    ∙ sym (simp (sym c.is_usual.ensures ∙ not-false _ c.if-not-is_usual.false-raw, c.if-self.false, sym c.is_zero.ensures ∙ not-false _ c.if-not-is_zero.false-raw, and-true))
