-- `option_slack::some_touch` meets its contract.
use native.Mathlib.Omega.{arith}
use Prim.Native.Nat.{ℕ, ◌+◌, ◌-◌, ◌*◌}
use mathlib.Core.Path.{◌≡◌, sym, ◌∙◌, ap}
use lib.ListN.{drop}
use Rattle.option.specs.Option.{numbers_in}
use Rattle.option_slack.specs.Slack.{touching}
use Rattle.option_slack.proofs.Pairs.{touch_found, touch_on, touch_done}
use Rattle.option_slack.proofs.some_touch.Goals as goal

pub returns-then-touch : goal.returns-then-touch
returns-then-touch c =
    let l = c.loop-j in
    sym (l.invariant ∙ touch_found c.args.octets.now (2 * l.j) _ _ (omega arith) (omega arith) c.number_at-top.ensures c.number_at-bottom.ensures (sym c.touch.ensures ∙ c.if-touch.true))

pub loop-j-preserved : goal.loop-j-preserved
loop-j-preserved c =
    let l = c.loop-j in
    let e : 2 * l.j + 2 - 2 ≡ 2 * (l.j + 1) - 2 = omega arith in
    l.invariant
    ∙ touch_on c.args.octets.now (2 * l.j) _ _ (omega arith) (omega arith) c.number_at-top.ensures c.number_at-bottom.ensures (sym c.touch.ensures ∙ c.if-touch.false)
    ∙ ap (λ (i : ℕ). touching (drop i (numbers_in c.args.octets.now))) e

pub returns : goal.returns
returns c =
    let l = c.loop-j in
    sym (l.invariant ∙ touch_done c.args.octets.now (2 * l.j) (omega arith) (omega arith))
