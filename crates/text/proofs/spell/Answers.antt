-- `text::spell` meets its contract.
use borrow.Author.Rules.{rules}
use Prim.Native.Nat.{◌<◌}
use mathlib.Core.Path.{◌≡◌, ◌∙◌}
use native.Mathlib.Omega.{arith}
use lib.ListN.{length, length-set}
use Rattle.text.specs.Text.{decimal}
use Rattle.text.proofs.Laws.{some_digit, tenth_below, leading_zero, leading_more, last_place}
use Rattle.text.proofs.spell.Goals as goal

pub loop-rest-init : goal.loop-rest-init
unfolding decimal
loop-rest-init c =
    let h : length c.args.digits.now ≡ 20 = search rules in
    (search rules, omega arith, simp length-set h, rw (last_place c.args.digits.now c.digit.result h, c.digit.ensures))

pub overflow_sub-i-in-loop-rest : goal.overflow_sub-i-in-loop-rest
overflow_sub-i-in-loop-rest c = some_digit _ _ c.loop-rest.invariant.1 c.loop-rest-test.true

pub loop-rest-smaller : goal.loop-rest-smaller
loop-rest-smaller c =
    omega (arith, some_digit c.loop-rest.i c.loop-rest.rest c.loop-rest.invariant.1 c.loop-rest-test.true)

pub loop-rest-preserved : goal.loop-rest-preserved
loop-rest-preserved c =
    let p : 0 < c.loop-rest.i = some_digit c.loop-rest.i c.loop-rest.rest c.loop-rest.invariant.1 c.loop-rest-test.true in (
      omega arith,
      tenth_below _ _ c.loop-rest.invariant.1 p,
      simp length-set c.loop-rest.invariant.2,
      leading_more c.loop-rest.digits c.loop-rest.i c.loop-rest.rest c.digit-in-loop-rest.result (omega arith) c.loop-rest-test.true p c.digit-in-loop-rest.ensures
          ∙ c.loop-rest.invariant.3,
    )

pub returns : goal.returns
returns c =
    let e : c.loop-rest.rest ≡ 0 = omega arith in
    (c.loop-rest.invariant.0, rw (e, leading_zero) at c.loop-rest.invariant.3)
