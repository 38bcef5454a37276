-- `option_write_bitmap::write_bitmap` meets its contract.
use native.Mathlib.Omega.{arith}
use mathlib.Core.Path.{◌≡◌, ◌∙◌}
use lib.ListN.{length, take}
use lib.Seq.{take_all}
use Rattle.label.specs.Runs.{covers}
use Rattle.label_keys.specs.Keys.{key_runs}
use Rattle.option.specs.Spelling.{octets_of}
use Rattle.option_write_bitmap.proofs.Octets.{cleared_length, cleared_bitmap, bitmap_turn, bitmap_whole}
use Rattle.option_write_bitmap.proofs.write_bitmap.Goals as goal

pub loop-key-init : goal.loop-key-init
loop-key-init c = cleared_bitmap (length c.args.out.now) _ (c.fill.ensures.after (λ y e. e))

pub loop-key-preserved : goal.loop-key-preserved
loop-key-preserved c =
    let l = c.loop-key in
    bitmap_turn c.args.keys.now l.key-index (omega arith) l.invariant c.add_run.ensures

pub shape_of-out : goal.shape_of-out
shape_of-out c = c.loop-key.invariant.sized ∙ cleared_length _ _ (c.fill.ensures.after (λ y e. e))

pub returns : goal.returns
returns c =
    let l = c.loop-key in
    let a = c.args in
    let ks = a.keys.now in
    let e : take l.key-index ks ≡ ks = take_all l.key-index ks (omega arith) in
    bitmap_whole l.invariant ∙ (λ i. octets_of (covers (key_runs (e i))) (cleared_length (length a.out.now) _ (c.fill.ensures.after (λ y e. e)) i))
