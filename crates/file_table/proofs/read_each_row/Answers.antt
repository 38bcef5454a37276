-- `file_table::read_each_row` meets its contract.
use native.Mathlib.Omega.{arith}
use Prim.Native.Nat.{◌+◌, ◌*◌, ◌≤◌}
use mathlib.Core.Path.{◌≡◌, refl, sym, ap, ◌∙◌}
use mathlib.Core.List.{List, [], ◌∷◌, ◌++◌}
use lib.ListN.{length, take}
use Rattle.table.specs.declared.Row.{Row}
use Rattle.table.specs.Table.{rows_from}
use Rattle.file_table.proofs.Apart.{floor_last}
use Rattle.file_table.proofs.Rows.{seen_begins, seen_turns, seen_refuses, seen_ends, rows_put}
use Rattle.file_table.proofs.read_each_row.Goals as goal

pub loop-i-init : goal.loop-i-init
loop-i-init c = let a = c.args in ([], refl, refl, seen_begins a.octets.now a.count a.at)

pub loop-i-preserved : goal.loop-i-preserved
loop-i-preserved c =
    let l = c.loop-i in
    let x : Row = c.in-Ok.row in
    let there : l.i * 3 + 3 ≤ length l.rows = omega (arith, c.requires.1, l.auto.rows) in (
      l.invariant.0 ++ (x ∷ []),
      rw c.from-floor.ensures (sym (floor_last 0 l.invariant.0 x)),
      rows_put l.rows l.i x.low x.high x.target there ∙ ap (λ (z : List Row). z ++ (x ∷ [])) l.invariant.2,
      seen_turns l.invariant.3 x c.in-Ok.next (omega arith) (rw l.invariant.1 at c.in-Ok.ensures.read),
    )

pub returns-in-Err-clause-rows : goal.returns-in-Err-clause-rows
returns-in-Err-clause-rows c = let l = c.loop-i in rw l.invariant.2 (seen_refuses l.invariant.3 c.in-Err.blamed (omega arith) (rw l.invariant.1 at c.in-Err.ensures.read))

pub returns-clause-rows : goal.returns-clause-rows
returns-clause-rows c =
    let l = c.loop-i in
    let e : l.i ≡ c.args.count = omega arith in
    let t : take c.args.count (rows_from l.rows) ≡ l.invariant.0 = rw e at l.invariant.2 in
    rw t (seen_ends l.invariant.3 (omega arith))
