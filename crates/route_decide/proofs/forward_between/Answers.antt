-- `route_decide::forward_between` meets its contract.
use borrow.Author.Rules.{rules}
use native.Mathlib.Omega.{arith}
use mathlib.Core.Path.{◌∙◌, ap}
use Prim.Native.Nat.{◌*◌, ◌<◌}
use lib.ListN.{length}
use Rattle.forward_rules.specs.Crossing.{Forwarding}
use Rattle.forward_rules.specs.Forward.{forward_of, output_of}
use Rattle.route_decide.proofs.Decides.{by_first}
use Rattle.route_decide.proofs.forward_between.Goals as goal

-- what the type of the rows says of their number
short : (c : goal.After-forward-arg-1) → length c.args.rows.now * 2 < 18446744073709551616
short c = search rules

pub offset_bounds-rows-at : goal.offset_bounds-rows-at
offset_bounds-rows-at c =
    record { fits = omega (arith, short c, c.first_table-found.ensures.1, c.first_table-found.ensures.2) }

pub returns : goal.returns
returns c =
    let same = by_first {a = c.args.a} {l = c.args.l} c.args.tables c.args.rows.now c.args.facts c.args.area.now (length c.args.out.now) c.first_table-found.ensures.0 c.levels_of.ensures.0 in
    (c.forward.ensures.value ∙ ap forward_of same, c.forward.ensures.out_after ∙ ap (λ (x : Forwarding). output_of x c.args.out.now) same)
