-- `option_slack::some_touch` meets its contract.
use Prim.Native.Nat.{◌-◌, ◌*◌}
use mathlib.Core.Path.{◌≡◌}
use lib.ListN.{drop}
use Rattle.option.specs.Option.{numbers_in}
use Rattle.option_slack.specs.Slack.{touching}
use Rattle.option_slack.proofs.some_touch.Given as goal

abbrev pub invariant-loop-j : goal.invariant-loop-j
invariant-loop-j l = touching (numbers_in l.octets) ≡ touching (drop (2 * l.j - 2) (numbers_in l.octets))
