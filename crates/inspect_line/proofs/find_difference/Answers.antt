-- `inspect_line::find_difference` meets its contract.
use native.Mathlib.Omega.{arith}
use Prim.Native.Nat.{◌*◌, ◌<◌}
use lib.ListN.{length}
use Rattle.route_decide.proofs.Decides.{by_first}
use Rattle.inspect_line.proofs.Laws.{found_by}
use borrow.Author.Rules.{rules}
use Rattle.inspect_line.proofs.find_difference.Goals as goal

-- what the type of the rows says of their number
short : (c : goal.After-forward-arg-1) → length c.args.rows.now * 2 < 18446744073709551616
short c = search rules

pub offset_bounds-rows-at : goal.offset_bounds-rows-at
offset_bounds-rows-at c =
    record { fits = omega (arith, short c, c.first_table-found.ensures.1, c.first_table-found.ensures.2) }

pub returns : goal.returns
returns c =
    let same = by_first {a = c.args.a} {l = c.args.l} c.args.tables c.args.rows.now c.args.facts c.args.area.now 40 c.first_table-found.ensures.0 c.levels_of.ensures.0 in
    found_by _ _ c.forward-d.result _ c.args.claimed.now c.compare_claim.result c.compare_claim.ensures c.forward-d.ensures.value c.forward-d.ensures.out_after same
