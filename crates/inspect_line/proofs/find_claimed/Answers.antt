-- `inspect_line::find_claimed` meets its contract.
use Prim.Native.Nat.{◌-◌}
use mathlib.Core.Path.{ap, ◌∙◌}
use mathlib.Core.List.{List}
use Prim.Native.Nat.{ℕ}
use lib.ListN.{take, drop}
use Rattle.lists.proofs.Laws.{tail_is}
use Rattle.route_decide.specs.Routing.{between}
use Rattle.inspect_line.specs.Lines.{finding_by}
use Rattle.inspect_line.proofs.find_claimed.Goals as goal

pub returns : goal.returns
returns c =
    c.find_difference.ensures
    ∙ ap (λ (x : List ℕ). finding_by (between c.args.a c.args.l c.args.tables c.args.rows.now c.args.facts (take (c.args.at - 9) (drop 9 c.args.octets.now)) 40) x) (tail_is c.args.octets.now c.args.at)
