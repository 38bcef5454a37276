-- `message::is_message` meets its contract.
use mathlib.Core.Path.{sym, ◌∙◌}
use borrow.Author.Tests.{not-true, not-false}
use Rattle.message.proofs.Laws.{too_short, no_report, wrong_check, not_zeros, by_quote}
use Rattle.message.proofs.is_message.Goals as goal

pub returns-then-octets-lt-HEADER_AT : goal.returns-then-octets-lt-HEADER_AT
returns-then-octets-lt-HEADER_AT c = sym (too_short c.args.octets.now c.if-octets-lt-HEADER_AT.true)

pub returns-then-not-reports_refusal : goal.returns-then-not-reports_refusal
returns-then-not-reports_refusal c =
    let o = c.args.octets.now in
    sym (no_report o c.if-octets-lt-HEADER_AT.false (sym c.reports_refusal.ensures ∙ not-true _ c.if-not-reports_refusal.true-raw))

pub returns-then-not-right_check : goal.returns-then-not-right_check
returns-then-not-right_check c =
    let o = c.args.octets.now in
    sym (wrong_check o c.if-octets-lt-HEADER_AT.false (sym c.reports_refusal.ensures ∙ not-false _ c.if-not-reports_refusal.false-raw) (sym c.right_check.ensures ∙ not-true _ c.if-not-right_check.true-raw))

pub returns-then-not-three_zeros : goal.returns-then-not-three_zeros
returns-then-not-three_zeros c =
    let o = c.args.octets.now in
    sym (not_zeros o c.if-octets-lt-HEADER_AT.false (sym c.reports_refusal.ensures ∙ not-false _ c.if-not-reports_refusal.false-raw) (sym c.right_check.ensures ∙ not-false _ c.if-not-right_check.false-raw)
    (sym c.three_zeros.ensures ∙ not-true _ c.if-not-three_zeros.true-raw))

pub returns : goal.returns
returns c =
    let o = c.args.octets.now in
    c.whole_quote.ensures
    ∙ sym (by_quote o c.if-octets-lt-HEADER_AT.false (sym c.reports_refusal.ensures ∙ not-false _ c.if-not-reports_refusal.false-raw) (sym c.right_check.ensures ∙ not-false _ c.if-not-right_check.false-raw)
    (sym c.three_zeros.ensures ∙ not-false _ c.if-not-three_zeros.false-raw))
