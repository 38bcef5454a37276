-- `option_spell::unused_after_few` meets its contract. The loop's invariant: all past the first 16 places is zero exactly when the OR so far is and what is left of them is.
-- Assumes nothing.
use mathlib.Core.Path.{◌≡◌, ap, sym, ◌∙◌}
use mathlib.Core.Bool.{and-true}
use mathlib.Core.List.{[]}
use native.Mathlib.Omega.{arith}
use Prim.Native.Nat.{◌+◌}
use lib.ListN.{drop, get_or, drop_of_length-le}
use Rattle.label.specs.Runs.{unused}
use Rattle.label.specs.Label.{no_run}
use Rattle.label.proofs.Steps.{next}
use Rattle.label.proofs.Places.{or_step}
use Rattle.option_spell.proofs.Few.{behind, behind_is}
use Rattle.option_spell.proofs.unused_after_few.Goals as goal

pub loop-run-init : goal.loop-run-init
loop-run-init c = ap unused (behind_is 16 c.args.label.runs)

pub loop-run-preserved : goal.loop-run-preserved
loop-run-preserved c =
    let v = c.loop-run in
    let rs = behind 16 c.args.label.runs in
    let r = get_or rs v.run-index no_run in
    v.invariant
    ∙ rw (next no_run rs v.run-index c.loop-run-test.true, c.word-rest.ensures) (or_step v.rest r.low r.high (unused (drop (v.run-index + 1) rs)))

pub returns : goal.returns
returns c =
    let v = c.loop-run in
    let rs = behind 16 c.args.label.runs in
    let none : drop v.run-index rs ≡ [] = drop_of_length-le rs {i = v.run-index} (omega arith) in
    sym (v.invariant ∙ rw none (and-true _))
