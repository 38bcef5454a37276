-- `message_build::is_unsound` meets its contract.
use mathlib.Core.Path.{sym, ap, ◌∙◌}
use mathlib.Core.Bool.{not}
use borrow.Author.Tests.{not-true, not-false}
use Rattle.message_build.proofs.Laws.{unsound_header, sound_silent, unsound_report}
use Rattle.message_build.proofs.is_unsound.Goals as goal

pub returns-then-not-whole_header : goal.returns-then-not-whole_header
returns-then-not-whole_header c =
    sym (unsound_header c.args.report c.args.header.now (sym c.whole_header.ensures ∙ not-true _ c.if-not-whole_header.true-raw))

pub returns-then-is_silent : goal.returns-then-is_silent
returns-then-is_silent c =
    sym (sound_silent c.args.report c.args.header.now (sym c.whole_header.ensures ∙ not-false _ c.if-not-whole_header.false-raw) (sym c.is_silent.ensures ∙ c.if-is_silent.true))

pub returns : goal.returns
returns c =
    ap not c.reports_refusal.ensures
    ∙ sym (unsound_report c.args.report c.args.header.now (sym c.whole_header.ensures ∙ not-false _ c.if-not-whole_header.false-raw) (sym c.is_silent.ensures ∙ c.if-is_silent.false))
