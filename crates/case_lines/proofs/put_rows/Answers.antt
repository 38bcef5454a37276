-- `case_lines::put_rows` meets its contract.
use Prim.Native.Nat.{◌≤◌, ◌*◌}
use native.Mathlib.Omega.{arith}
use lib.ListN.{length}
use lib.Seq.{take_all}
use Rattle.case_lines.proofs.put_rows.Goals as goal

pub returns-then-rows-count : goal.returns-then-rows-count
returns-then-rows-count c =
    let h : length c.args.rows.now ≤ 3 * c.args.count = omega arith in
    rw (take_all (3 * c.args.count) c.args.rows.now h) (rw (take_all (length c.args.rows.now) c.args.rows.now (omega arith)) at c.put_first.ensures)
