-- `option_form::choose` meets its contract.
use native.Mathlib.Omega.{arith}
use Prim.Native.Nat.{◌*◌}
use mathlib.Core.Path.{refl, ◌∙◌}
use lib.ListN.{length, length-map}
use Rattle.label_keys.specs.Keys.{key_run, key_runs}
use Rattle.option.specs.Spelling.{least_form}
use Rattle.option_form.proofs.Sizes.{choice_none}
use Rattle.option_form.proofs.Keys.{choice_keys, form_over, form_within}
use Rattle.option_form.proofs.choose.Goals as goal

pub returns-then-n-eq0 : goal.returns-then-n-eq0
returns-then-n-eq0 c =
    let a = c.args in
    c.least.ensures
    ∙ choice_none a.permitted (key_runs a.keys.now) (length-map a.keys.now key_run ∙ c.if-n-eq0.true)
    ∙ form_within a.permitted a.keys.now (omega (arith, c.if-n-eq0.true))

pub returns-then-n-gt-MAX_RUNS : goal.returns-then-n-gt-MAX_RUNS
returns-then-n-gt-MAX_RUNS c =
    let a = c.args in
    form_over a.permitted a.keys.now c.if-n-gt-MAX_RUNS.true

pub returns : goal.returns
returns c =
    let a = c.args in
    let ks = a.keys.now in
    let q = c.if-n-eq0.false in
    c.least-2.ensures
    ∙ (λ i. least_form a.permitted (c.bitmap_size-one.ensures i) (2 * c.count_categories-two.ensures i) (c.pairs_size-five.ensures i))
    ∙ choice_keys a.permitted ks (length ks) refl (omega arith)
    ∙ form_within a.permitted ks c.if-n-gt-MAX_RUNS.false
