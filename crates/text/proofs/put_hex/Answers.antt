-- `text::put_hex` meets its contract.
use Prim.Native.Nat.{ℕ, ◌<◌}
use native.Mathlib.Numerals.{add-one}
use native.Mathlib.Omega.{arith}
use lib.ListN.{length}
use lib.Seq.{take-suc}
use Rattle.text.specs.Text.{hex_of}
use Rattle.text.proofs.Laws.{puts_then, puts_none, hex_append}
use Rattle.text.proofs.put_hex.Goals as goal

pub loop-x-init : goal.loop-x-init
unfolding hex_of
loop-x-init c = puts_none

pub loop-x-preserved : goal.loop-x-preserved
loop-x-preserved c =
    let h : c.loop-x.x-index < length c.args.octets.now = omega arith in
    rw (add-one, take-suc {A = ℕ} _ c.loop-x.x-index 0 h, hex_append) (puts_then c.loop-x.invariant c.put_pair-k.ensures)
