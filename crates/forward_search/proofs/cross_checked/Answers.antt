-- `forward_search::cross_checked` meets its contract.
use borrow.Author.Tests.{not-true, not-false}
use Rattle.std.proofs.lemmas.Result.{err_from_is_err_and}
use Rattle.forward_search.proofs.Acts.{acts_same, acts_stopped, acts_none, acts_searched}
use Rattle.table.specs.Table.{rows_from}
use Rattle.forward_search.proofs.cross_checked.Goals as goal

pub returns-then-same : goal.returns-then-same
returns-then-same c =
    let a = c.args in let whole = acts_same a.same a.there a.partners.now (rows_from a.rows.now) a.own.now a.far.now c.if-same.true a.arrived c.copy_list.new.dst c.copy_list.ensures in record { value = whole.0; far_after = whole.1 }

pub returns-in_err-passed : goal.returns-in_err-passed
returns-in_err-passed c =
    let a = c.args in
    let whole = acts_stopped a.same a.there a.partners.now (rows_from a.rows.now) a.own.now a.far.now c.if-same.false c.in_err-passed.field-0.0 in
    let p = err_from_is_err_and c.from_residual.result c.from_residual.ensures.1 in
    rw (c.in_err-passed.was, p.1, p.2) (record { value = whole.0; far_after = whole.1 })

pub returns-then-not-there-known : goal.returns-then-not-there-known
returns-then-not-there-known c =
    let a = c.args in let whole = acts_none a.same a.there a.partners.now (rows_from a.rows.now) a.own.now a.far.now c.if-same.false c.in_ok-passed.passed c.partner_at-to.result c.partner_at-to.ensures (not-true _ c.if-not-there-known.true-raw) c.barred.result c.barred.ensures in rw c.in_ok-passed.was (record { value = whole.0; far_after = whole.1 })

pub returns : goal.returns
returns c =
    let a = c.args in let whole = acts_searched a.same a.there a.partners.now (rows_from a.rows.now) a.own.now a.far.now c.if-same.false c.in_ok-passed.passed c.partner_at-to.result c.partner_at-to.ensures (not-false _ c.if-not-there-known.false-raw)
    c.carry_rows.result c.carry_rows.ensures.0 c.carry_rows.new.far c.carry_rows.ensures.1 c.verdict_of.result c.verdict_of.ensures in rw c.in_ok-passed.was (record { value = whole.0; far_after = whole.1 })
