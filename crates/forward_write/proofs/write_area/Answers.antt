-- `forward_write::write_area` meets its contract.
use native.Mathlib.Omega.{arith}
use mathlib.Core.Path.{◌≡◌, sym, ◌∙◌, ap}
use mathlib.Core.List.{List}
use Prim.Native.Nat.{ℕ}
use lib.ListN.{length, take}
use lib.Seq.{length-take-le}
use Rattle.label_keys.proofs.Keys.{take_min}
use Rattle.area_leaving.specs.Kept.{kept_of, rest_count, rest_of}
use Rattle.forward_write.specs.Sending.{put_count, put_front, area_count, area_written}
use Rattle.forward_write.proofs.write_area.Goals as goal

pub returns-in-Err : goal.returns-in-Err
unfolding area_count area_written
returns-in-Err c = record { value = rw c.in-Err.is; out_after = rw c.in-Err.is }

pub slice_bounds-put_option-end : goal.slice_bounds-put_option-end
slice_bounds-put_option-end c =
    sym (length-take-le c.min-n.result c.args.keys.now (omega (arith, c.min-n.ensures)))

pub returns-in-Ok : goal.returns-in-Ok
unfolding area_count area_written
returns-in-Ok c =
    let a = c.args in
    let p = c.in-Ok.passed in
    -- the option is put there with the keys that the verdict counts
    let keys-are : take c.min-n.result a.keys.now ≡ take p.count a.keys.now =
    ap (λ (i : ℕ). take i a.keys.now) c.min-n.ensures ∙ take_min p.count a.keys.now in
    let n : c.put_option-size.result ≡ put_count a.unlabelled a.permitted a.domain p.level (take p.count a.keys.now) (length a.out.now) =
    c.put_option-size.ensures.value ∙ ap (λ (ks : List ℕ). put_count a.unlabelled a.permitted a.domain p.level ks (length a.out.now)) keys-are in
    let f = c.put_option-size.ensures.out_after ∙ ap (λ (ks : List ℕ). put_front a.unlabelled a.permitted a.domain p.level ks a.out.now) keys-are in
    rw c.in-Ok.is
    (record {
      value = c.write_rest.ensures.value ∙ (λ i. rest_count (n i) a.kept (kept_of a.area.now) (length (f i)));
      out_after = c.write_rest.ensures.out_after ∙ (λ i. rest_of (n i) a.kept (kept_of a.area.now) (f i));
    })
