-- `renumber_search::join_keys` meets its contract.
use native.Mathlib.Omega.{arith}
use Prim.Native.Nat.{◌+◌}
use mathlib.Core.Path.{◌≡◌, sym, ◌∙◌}
use lib.ListN.{length, take, set}
use Rattle.renumber_keys.specs.Stages.{join_all}
use Rattle.renumber_search.specs.Search.{over}
use Rattle.renumber_search.proofs.Joining.{none_joined, joining_start, joining_reach, joining_part, joining_end, all_taken}
use Rattle.renumber_search.proofs.join_keys.Goals as goal
use Rattle.renumber_search.proofs.join_keys.Goals.{then-reaches, else-reaches}

pub returns-then-n-eq0 : goal.returns-then-n-eq0
returns-then-n-eq0 c = rw (all_taken c.args.keys.now) at (none_joined c.args.keys.now (length c.args.keys.now) c.if-n-eq0.true)

pub loop-i-init : goal.loop-i-init
loop-i-init c = joining_start c.args.keys.now (length c.args.keys.now) (omega (arith, c.if-n-eq0.false)) (omega arith)

pub loop-i-preserved : goal.loop-i-preserved
loop-i-preserved c =
    let v = c.loop-i in
    elim c.if-reaches.branch [
      | then-reaches w ↦ rw (w.keys-is, w.w-is, w.last-is, w.stretch-last.ensures) (joining_reach c.args.keys.now (length c.args.keys.now) (omega arith) v.keys v.last v.w v.i v.invariant c.loop-i-test.true (sym c.reaches.ensures ∙ w.if-reaches.true))
      | else-reaches w ↦ rw (w.keys-is, w.w-is, w.last-is) (joining_part c.args.keys.now (length c.args.keys.now) (omega arith) v.keys v.last v.w v.i v.invariant c.loop-i-test.true (sym c.reaches.ensures ∙ w.if-reaches.false))
    ]

pub returns : goal.returns
returns c =
    let v = c.loop-i in
    let e : (v.w + 1 ≡ length (join_all (take (length c.args.keys.now) c.args.keys.now))) × (set v.keys v.w v.last ≡ over (join_all (take (length c.args.keys.now) c.args.keys.now)) c.args.keys.now) =
    joining_end c.args.keys.now (length c.args.keys.now) (omega arith) v.keys v.last v.w v.i v.invariant c.loop-i-test.false in
    rw (all_taken c.args.keys.now) at e
