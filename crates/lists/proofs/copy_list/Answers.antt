-- `lists::copy_list` meets its contract.
use Rattle.std.proofs.Common.{ap, ◌∙◌}
use native.Mathlib.Omega.{arith}
use lib.ListN.{set, length-set}
use Rattle.lists.proofs.Laws.{copy_more}
use Rattle.lists.proofs.copy_list.Goals as goal

pub loop-i-preserved : goal.loop-i-preserved
loop-i-preserved g c =
    let a = c.args in (
      simp length-set c.loop-i.invariant.0,
      ap (λ d. set d c.loop-i.i c.index-src-i.result) c.loop-i.invariant.1
          ∙ copy_more a.src.now a.dst.now c.loop-i.i c.index-src-i.result c.index-src-i.is (omega arith) (omega arith),
    )
