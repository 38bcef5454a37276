-- `option_read_bitmap::fill` meets its contract. The invariant: the keys of the runs of the first i octets are written, and what stands after them is as at entry.
use native.Mathlib.Omega.{arith}
use mathlib.Core.Path.{◌∙◌}
use Rattle.option_read_bitmap.proofs.LastRun.{stays}
use Rattle.option_read_bitmap.proofs.fill.Goals as goal

pub loop-i-preserved : goal.loop-i-preserved
loop-i-preserved c =
    let l = c.loop-i in
    let a = c.add_octet-last in
    (a.ensures.0, stays l.last.count a.result.count _ _ _ a.ensures.1 a.ensures.2 l.invariant.1, a.ensures.3 ∙ l.invariant.2, omega (arith, l.invariant.3))
