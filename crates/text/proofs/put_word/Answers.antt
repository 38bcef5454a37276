-- `text::put_word` meets its contract.
use Prim.Native.Nat.{ℕ, ◌<◌}
use native.Mathlib.Numerals.{add-one}
use native.Mathlib.Omega.{arith}
use lib.ListN.{length}
use lib.Seq.{take-suc}
use Rattle.text.proofs.Laws.{puts_then, puts_none}
use Rattle.text.proofs.put_word.Goals as goal

pub loop-x-init : goal.loop-x-init
loop-x-init c = puts_none

pub loop-x-preserved : goal.loop-x-preserved
loop-x-preserved c =
    let h : c.loop-x.x-index < length c.args.word.now = omega arith in
    rw (add-one, take-suc {A = ℕ} _ c.loop-x.x-index 0 h) (puts_then c.loop-x.invariant c.put_octet-k.ensures)
