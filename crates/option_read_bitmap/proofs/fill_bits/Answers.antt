-- `option_read_bitmap::fill_bits` meets its contract. The invariant: the keys of the runs below category c are written, and what stands after them is as at entry.
use native.Mathlib.Omega.{arith}
use mathlib.Core.Path.{◌∙◌}
use Rattle.option_read_bitmap.proofs.LastRun.{stays}
use Rattle.option_read_bitmap.proofs.fill_bits.Goals as goal

pub loop-c-preserved : goal.loop-c-preserved
loop-c-preserved c =
    let l = c.loop-c in
    let a = c.add_bit-last in
    (a.ensures.0, stays l.last.count a.result.count _ _ _ a.ensures.1 a.ensures.2 l.invariant.1, a.ensures.3 ∙ l.invariant.2, omega (arith, l.invariant.3))
