-- `renumber::renumber_by` meets its contract.
use native.Mathlib.Omega.{arith}
use mathlib.Core.Path.{sym, ◌∙◌, ap}
use lib.ListN.{length}
use lib.Seq.{length-take-le}
use Rattle.std.specs.Prelude.{Option, Err}
use Rattle.std.specs.Option.{ok_or}
use Rattle.std.proofs.lemmas.Result.{err_from_is_err_and}
use Rattle.label.specs.declared.Label.{Label}
use Rattle.table.specs.Table.{lent}
use Rattle.renumber.specs.declared.RenumberError.TheVariants.{TooMany}
use Rattle.renumber.specs.Renumber.{fit_of}
use Rattle.renumber.proofs.Answers.{runs_missed, runs_found, found_length, found_keys}
use Rattle.renumber.proofs.renumber_by.Goals as goal

pub returns-in_err-carried : goal.returns-in_err-carried
returns-in_err-carried c =
    let a = c.args in
    let p = err_from_is_err_and c.from_residual.result c.from_residual.ensures.1 in
    p.1
    ∙ ap Err p.2
    ∙ runs_missed a.own.now a.level (lent a.table a.rows.now) a.levels c.requires.0 (length a.far.now) c.requires.1 c.in_err-carried.field-0.0 (sym c.in_err-carried.was ∙ c.carry.ensures.0)

-- as many are written as the list has places for
pub slice_bounds-fit_label-end : goal.slice_bounds-fit_label-end
slice_bounds-fit_label-end c =
    let a = c.args in
    let n = found_length a.own.now a.level (lent a.table a.rows.now) a.levels c.requires.0 (length a.far.now) c.requires.1 c.in_ok-carried.carried (sym c.in_ok-carried.was ∙ c.carry.ensures.0) in
    omega (arith, n.1)

pub slice_bounds-fit_label-end-2 : goal.slice_bounds-fit_label-end-2
slice_bounds-fit_label-end-2 c =
    let a = c.args in
    let n = found_length a.own.now a.level (lent a.table a.rows.now) a.levels c.requires.0 (length a.far.now) c.requires.1 c.in_ok-carried.carried (sym c.in_ok-carried.was ∙ c.carry.ensures.0) in
    sym (length-take-le _ c.carry.new.far (omega (arith, n.1)))

pub returns : goal.returns
returns c =
    let a = c.args in
    let t = lent a.table a.rows.now in
    let r = c.in_ok-carried.carried in
    let k = sym c.in_ok-carried.was ∙ c.carry.ensures.0 in
    c.ok_or.ensures.value
    ∙ ap (λ (z : Option Label). ok_or z TooMany)
    (c.fit_label.ensures
    ∙ ap (fit_of a.table.to r.level) (found_keys a.own.now a.level t a.levels c.requires.0 (length a.far.now) c.requires.1 r k c.carry.result c.in_ok-carried.was a.far.now _ c.carry.ensures.1))
    ∙ runs_found a.own.now a.level t a.levels c.requires.0 (length a.far.now) c.requires.1 r k
