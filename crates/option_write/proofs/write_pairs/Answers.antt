-- `option_write::write_pairs` meets its contract.
use native.Mathlib.Omega.{arith}
use Prim.Native.Nat.{◌+◌, ◌*◌, ◌/◌}
use mathlib.Core.Path.{◌≡◌, ◌∙◌}
use Rattle.label_keys.specs.Keys.{key_runs}
use Rattle.option.specs.Index.{pair_number}
use Rattle.option_write.proofs.Numbers.{top_store, pair_store, top_is, bottom_is}
use Rattle.option_write.proofs.write_pairs.Goals as goal

pub loop-j-preserved : goal.loop-j-preserved
loop-j-preserved c =
    let l = c.loop-j in
    let f = pair_number (key_runs c.args.keys.now) in
    let first = c.put_number.ensures in
    let second = c.put_number-in-loop-j.ensures in (
      second.1 ∙ first.1 ∙ l.invariant.0,
      pair_store f c.args.out.now _ _ _ l.j _ _ (omega arith) l.invariant.1 (c.high.ensures ∙ top_is c.args.keys.now l.j) (c.low.ensures ∙ bottom_is c.args.keys.now l.j) first.0 second.0,
    )

pub returns-then-pairs-m : goal.returns-then-pairs-m
returns-then-pairs-m c =
    let l = c.loop-j in
    let e : l.j ≡ c.args.m / 2 = omega arith in
    let odd : 2 * (c.args.m / 2) + 1 ≡ c.args.m = omega arith in
    top_store (pair_number (key_runs c.args.keys.now)) c.args.out.now _ _ (c.args.m / 2) c.args.m _ (omega arith) (rw e at l.invariant.1) (c.high-then-pairs-m.ensures ∙ top_is c.args.keys.now (c.args.m / 2)) c.put_number-then-pairs-m.ensures.0 odd

pub returns-else-pairs-m : goal.returns-else-pairs-m
returns-else-pairs-m c =
    let e : 2 * c.loop-j.j ≡ c.args.m = omega arith in
    rw e at c.loop-j.invariant.1
