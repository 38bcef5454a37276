-- `option_write::write_numbers` meets its contract.
use native.Mathlib.Omega.{arith}
use Prim.Native.Nat.{ℕ, ◌+◌, ◌-◌, ◌*◌, ◌/◌, ◌%◌, ◌<◌, ◌≤◌}
use mathlib.Core.Path.{◌≡◌, ap, ◌∙◌}
use mathlib.Core.List.{List, [], ◌∷◌, ◌++◌}
use lib.ListN.{length, get_or, drop, set}
use Rattle.label.specs.declared.Run.{Run}
use Rattle.label.specs.Runs.{count_of}
use Rattle.label_keys.specs.Keys.{key_run, key_runs}
use Rattle.option.specs.Spelling.{numbers_of}
use Rattle.option.specs.Index.{rank_number}
use Rattle.option.proofs.Spelled.{numbers_count}
use Rattle.option.proofs.Bridge.{ranks_out}
use Rattle.option_form.proofs.Keys.{next_key, keys_up}
use Rattle.option_write.proofs.Numbers.{numbers_store, Written, passed, there, number, another, all_written}
use Rattle.option_write.proofs.write_numbers.Goals as goal

pub loop-x-init : goal.loop-x-init
loop-x-init c =
    let s = c.loop-key.invariant in
    let low = get_or c.args.keys.now c.loop-key.key-index 0 / 65536 in
    let z : low - low ≡ 0 = omega arith in
    (s.0, s.1, rw z s.2, s.3)

-- the turn's category is one of the run
module _ (ks : List ℕ) (i x k : ℕ) (inside : i < length ks) (from : get_or ks i 0 / 65536 ≤ x) where
  abbrev rs : List Run
  rs = key_runs ks

  abbrev j : ℕ
  j = x - get_or ks i 0 / 65536

  module _ (w : Written (numbers_of rs) (drop i rs) j k) where
    standing : Written (numbers_of rs) (key_run (get_or ks i 0) ∷ drop (i + 1) rs) j k
    standing = rw (next_key ks i inside) at w

    ended : get_or ks i 0 % 65536 < x → Written (numbers_of rs) (drop (i + 1) rs) 0 k
    ended h = passed standing (omega arith)

    module _ (h : x ≤ get_or ks i 0 % 65536) where
      within : get_or ks i 0 / 65536 + j ≤ get_or ks i 0 % 65536
      within = omega arith

      room : k < count_of rs
      room = omega (arith, there standing within, numbers_count rs)

      here : x ≡ rank_number rs k
      here = let e : x ≡ get_or ks i 0 / 65536 + j = omega arith in e ∙ number standing within

      more : Written (numbers_of rs) (drop i rs) (x + 1 - get_or ks i 0 / 65536) (k + 1)
      more =
          let e : x + 1 - get_or ks i 0 / 65536 ≡ j + 1 = omega arith in
          rw (e, next_key ks i inside) (another standing within)

pub put_number-requires : goal.put_number-requires
put_number-requires c =
    let s = c.loop-x in
    let r = room c.args.keys.now c.loop-key.key-index s.x s.k c.loop-key-test.true s.auto.x s.invariant.2 (omega arith) in
    omega (arith, r, s.invariant.1, c.requires)

pub overflow_add-k : goal.overflow_add-k
overflow_add-k c =
    let s = c.loop-x in
    let r = room c.args.keys.now c.loop-key.key-index s.x s.k c.loop-key-test.true s.auto.x s.invariant.2 (omega arith) in
    omega (arith, r, c.requires)

pub loop-x-preserved : goal.loop-x-preserved
loop-x-preserved c =
    let s = c.loop-x in
    let ks = c.args.keys.now in
    let i = c.loop-key.key-index in
    let h : s.x ≤ get_or ks i 0 % 65536 = omega arith in
    let r = room ks i s.x s.k c.loop-key-test.true s.auto.x s.invariant.2 h in (
      omega (arith, r),
      c.put_number.ensures.1 ∙ s.invariant.1,
      more ks i s.x s.k c.loop-key-test.true s.auto.x s.invariant.2 h,
      c.put_number.ensures.0
          ∙ ap (λ (z : List ℕ). set (set z (2 * s.k) (s.x / 256)) (2 * s.k + 1) (s.x % 256)) s.invariant.3
          ∙ numbers_store (rank_number (key_runs ks)) c.args.out.now s.k s.x (omega (arith, r, c.requires)) (here ks i s.x s.k c.loop-key-test.true s.auto.x s.invariant.2 h),
    )

pub loop-key-preserved : goal.loop-key-preserved
loop-key-preserved c =
    let s = c.loop-x in
    let ks = c.args.keys.now in
    let i = c.loop-key.key-index in
    (s.invariant.0, s.invariant.1, ended ks i s.x s.k c.loop-key-test.true s.auto.x s.invariant.2 (omega arith), s.invariant.3)

pub returns : goal.returns
returns c =
    let a = c.args in
    let ks = a.keys.now in
    let s = c.loop-key in
    let w : Written (numbers_of (key_runs ks)) [] 0 s.k = rw (keys_up ks s.key-index (omega arith)) at s.invariant.2 in
    let e : s.k ≡ count_of (key_runs ks) = all_written (key_runs ks) w s.invariant.0 in
    s.invariant.3 ∙ (λ i. ranks_out (key_runs ks) s.k e i ++ drop (2 * e i) a.out.now)
