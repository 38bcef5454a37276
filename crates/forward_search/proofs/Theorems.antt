-- The theorem of `specs/Theorems.antt`.
use mathlib.Core.Path.{◌≡◌, refl, sym, ◌∙◌, ap}
use mathlib.Core.Bool.{Bool, true, false, cond, ◌&&◌}
use mathlib.Core.List.{List, ◌++◌, map}
use Prim.Native.Nat.{ℕ, ◌+◌, ◌%◌, ◌≤◌}
use native.Mathlib.Omega.{arith}
use native.Mathlib.Decide.{dec_le}
use native.Mathlib.Nat.{mod-eq_of_lt}
use lib.Dec.{leb, eqb}
use lib.ListN.{length, take, drop, get_or, length-append, length-take, length-drop, drop_of_length-le, take-append-drop}
use lib.Seq.{take_all, drop_at}
use borrow.Author.Tests.{leb-true}
use Rattle.std.specs.Prelude.{Option, None, Some, Ok, Err, IsOk, IfOk}
use Rattle.lists.specs.Lists.{copied}
use Rattle.label.proofs.Bools.{never, and_right, or_true_right}
use Rattle.table_levels.proofs.Partners.{missing_not}
use Rattle.renumber_keys.proofs.Carrying.{carried_keys_lem}
use Rattle.label.specs.declared.Run.{Run}
use Rattle.label_keys.specs.Keys.{key_runs, run_key}
use Rattle.table_levels.specs.Levels.{Partner, partner_of, partner_number, partner_from, known, level_or0}
use Rattle.table.specs.Table.{Lent, used_rows, table_sound}
use Rattle.table.specs.Numbers.{numbered}
use Rattle.decision.specs.declared.Passed.{Passed}
use Rattle.decision.specs.declared.Refusal.{Refusal}
use Rattle.decision.specs.Verdict.{Verdict, stopped}
use Rattle.renumber_keys.specs.Carry.{CarryAnswer, image_of, label_runs, carried_as, carried_keys, carry_of}
use Rattle.renumber_partners.specs.Partners.{partners_in}
use Rattle.renumber_partners.proofs.Theorems.{partners_listed}
use Rattle.renumber_search.specs.Search.{searched_of, searched_keys}
use Rattle.renumber_search.specs.Theorems.{carried_where}
use Rattle.renumber_search.proofs.Carries.{search_carries}
use Rattle.forward_cross.specs.Crossed.{tabled_by, numbered_by, crossed_by, crossed_keys}
use Rattle.forward_search.specs.Acts.{carried_verdict, leads, crossed_acts, acts_keys}
use Rattle.forward_search.specs.Theorems.{acts, keys, Crosses, ActsCross}

-- what the search and the partner say together
partner_small : (v : ℕ) → partner_from v ≡ Some v → leb v 255 ≡ true
partner_small v f = go (leb v 255) refl f
  where
    go : (t : Bool) → leb v 255 ≡ t → cond t (Some v) None ≡ Some v → t ≡ true
    go true e k = refl
    go false e k = absurd (missing_not v k)

numbered_search : (p : Partner) (to : ℕ) (s : Option ℕ) (from back : Bool) → to ≡ partner_number p → partner_from to ≡ p
    → numbered_by (carried_where p s) from back ≡ cond ((from && back) && leb to 255) (carried_verdict s to) (stopped 16 3 9 0)
unfolding numbered_by
numbered_search None to s from back e f = rw e (go from back)
  where
    go : (x y : Bool) → stopped 16 3 9 0 ≡ cond ((x && y) && false) (carried_verdict s 256) (stopped 16 3 9 0)
    go true true = refl
    go true false = refl
    go false y = refl
numbered_search (Some v) to s from back e f =
    let l : leb v 255 ≡ true = partner_small v (rw e at f) in
    let m : v % 256 ≡ v = mod-eq_of_lt (omega (arith, leb-true v 255 l)) in
    rw (e, l) (go m s from back)
  where
    go : v % 256 ≡ v → (w : Option ℕ) (x y : Bool) → numbered_by (carried_where (Some v) w) x y ≡ cond ((x && y) && true) (carried_verdict w v) (stopped 16 3 9 0)
    go m (Some n) true true = rw m
    go m (Some n) true false = refl
    go m (Some n) false y = refl
    go m None true true = refl
    go m None true false = refl
    go m None false y = refl

-- a partner and the runs that were found are carried
where_ok : (p : Partner) (s : Option ℕ) (n : ℕ) → known p ≡ true → s ≡ Some n → carried_where p s ≡ carried_as (level_or0 p) n
where_ok None s n q e = absurd (never (sym q))
where_ok (Some v) s n q e = rw e

-- copied once more, nothing changes
copied_sized : (xs out : List ℕ) → length (copied xs out) ≡ length out
copied_sized xs out = length-append (take (length out) xs) (drop (length xs) out) ∙ omega (arith, length-take (length out) xs, length-drop (length xs) out)

copied_twice : (xs out : List ℕ) → copied xs out ≡ copied xs (copied xs out)
copied_twice xs out =
    ap (λ (z : List ℕ). take (length out) xs ++ z) (sym rest) ∙ ap (λ (k : ℕ). take k xs ++ drop (length xs) (copied xs out)) (sym (copied_sized xs out))
  where
    rest : drop (length xs) (copied xs out) ≡ drop (length xs) out
    rest = elim (dec_le (length xs) (length out)) [
      | yes u ↦ ap (λ (z : List ℕ). drop (length xs) (z ++ drop (length xs) out)) (take_all (length out) xs u) ∙ drop_at xs (drop (length xs) out) (length xs) refl
      | no u ↦ drop_of_length-le (copied xs out) {i = length xs} (omega (arith, copied_sized xs out)) ∙ sym (drop_of_length-le out {i = length xs} (omega arith))
    ]

found_numbered : (b : Bool) (x : Option ℕ) (n m : ℕ) → x ≡ cond b (Some n) None → x ≡ Some m → b ≡ true
found_numbered true x n m e w = refl
found_numbered false x n m e w = absurd (missing_not m (sym e ∙ w))

-- both ways are one
both : {A : Type 0} (b : Bool) (x : A) → x ≡ cond b x x
both true x = refl
both false x = refl

module _ (domain leaving : ℕ) (t : Lent) (ls : List (List ℕ)) (own was far : List ℕ) (s : table_sound t ls ≡ true) where
  abbrev runs : Passed → List Run
  runs q = key_runs (take q.count own)

  abbrev p : Passed → Partner
  p q = partner_of (take t.pairs ls) q.level

  abbrev partners : List ℕ
  partners = partners_in (take t.pairs ls) was

  abbrev to : Passed → ℕ
  to q = get_or partners q.level 256

  abbrev there : Bool
  there = eqb t.from domain && eqb t.to leaving

  abbrev found : Passed → Option ℕ
  found q = searched_of (used_rows t) (runs q) (length far)

  -- of what passed
  module _ (q : Passed) (long : 256 ≤ length was) (small : q.level ≤ 255) (formed : label_runs (runs q) ≡ true) (room : 120 + t.count ≤ length far) where
    number_is : to q ≡ partner_number (p q)
    number_is = partners_listed.number (take t.pairs ls) was q.level long small

    partner_is : partner_from (to q) ≡ p q
    partner_is = partners_listed.partner t ls was q.level s long small

    carried_is : carry_of (runs q) q.level t ls (length far) ≡ carried_where (p q) (found q)
    carried_is = search_carries.carried t ls (runs q) q.level (length far) s formed room

    passed_verdict : acts (Ok q) domain leaving t ls own was far ≡ crossed_by (Ok q) domain leaving t ls own (length far)
    unfolding crossed_acts crossed_by
    passed_verdict =
        ap (cond (eqb domain leaving) (Ok q))
        (sym (ap (λ (c : CarryAnswer). numbered_by c (eqb t.from domain) (eqb t.to leaving)) carried_is ∙ numbered_search (p q) (to q) (found q) (eqb t.from domain) (eqb t.to leaving) number_is partner_is))

    -- the keys where the search was made and found every category's number
    found_keys : (n : ℕ) → leb (to q) 255 ≡ true → found q ≡ Some n → (keys : List ℕ) → keys ≡ searched_keys (used_rows t) (runs q) far
        → keys ≡ carried_keys (carry_of (runs q) q.level t ls (length keys)) (image_of t (runs q)) keys
    found_keys n l w keys e =
        let z : length keys ≡ length far = ap length e ∙ search_carries.sized (used_rows t) (runs q) far in
        let k : known (p q) ≡ true = ap known (sym partner_is) ∙ rw l in
        let c : carry_of (runs q) q.level t ls (length keys) ≡ carried_as (level_or0 (p q)) n = ap (carry_of (runs q) q.level t ls) z ∙ carried_is ∙ where_ok (p q) (found q) n k w in
        let a = search_carries.carries t ls (runs q) s formed in
        let m : numbered (used_rows t) (runs q) ≡ true = found_numbered (numbered (used_rows t) (runs q)) (found q) (length (image_of t (runs q))) n (a.answer (length far) room) w in
        let h : take (length (image_of t (runs q))) keys ≡ map run_key (image_of t (runs q)) = ap (take (length (image_of t (runs q)))) e ∙ a.keys far room m in
        sym (take-append-drop (length (image_of t (runs q))) keys)
        ∙ ap (λ (x : List ℕ). x ++ drop (length (image_of t (runs q))) keys) h
        ∙ sym (carried_keys_lem (image_of t (runs q)) keys (carry_of (runs q) q.level t ls (length keys)) _ c)

    passed_keys : IsOk (acts (Ok q) domain leaving t ls own was far)
        → keys (Ok q) domain leaving t ls own was far ≡ crossed_keys (Ok q) domain leaving t ls own (keys (Ok q) domain leaving t ls own was far)
    unfolding crossed_acts acts_keys crossed_keys
    passed_keys = go (eqb domain leaving) (leads q there partners) (found q) refl refl
      where
        at : (b l : Bool) → List ℕ
        at b l = cond b (copied own far) (cond l (searched_keys (used_rows t) (runs q) far) far)

        go : (b l : Bool) (w : Option ℕ) → leads q there partners ≡ l → found q ≡ w
            → IsOk (cond b (Ok q) (cond l (carried_verdict w (to q)) (stopped 16 3 9 0)))
            → at b l ≡ cond b (copied own (at b l)) (carried_keys (carry_of (runs q) q.level t ls (length (at b l))) (image_of t (runs q)) (at b l))
        go true l w el ew h = copied_twice own far
        go false true (Some n) el ew h = found_keys n (and_right there _ el) ew (searched_keys (used_rows t) (runs q) far) refl
        go false true None el ew h = absurd (never (sym h))
        go false false w el ew h = absurd (never (sym h))

    passed_sized : length (keys (Ok q) domain leaving t ls own was far) ≡ length far
    unfolding acts_keys
    passed_sized = go (eqb domain leaving) (leads q there partners)
      where
        go : (b l : Bool) → length (cond b (copied own far) (cond l (searched_keys (used_rows t) (runs q) far) far)) ≡ length far
        go true l = copied_sized own far
        go false true = search_carries.sized (used_rows t) (runs q) far
        go false false = refl

  -- of a refusal
  module _ (r : Refusal) where
    refused_verdict : acts (Err r) domain leaving t ls own was far ≡ crossed_by (Err r) domain leaving t ls own (length far)
    unfolding crossed_acts crossed_by tabled_by
    refused_verdict = rw (or_true_right (leb r.number 2) s) (both (eqb domain leaving) (Err r))

    refused_keys : IsOk (acts (Err r) domain leaving t ls own was far)
        → keys (Err r) domain leaving t ls own was far ≡ crossed_keys (Err r) domain leaving t ls own (keys (Err r) domain leaving t ls own was far)
    unfolding crossed_acts
    refused_keys h = absurd (never (sym h))

    refused_sized : length (keys (Err r) domain leaving t ls own was far) ≡ length far
    unfolding acts_keys
    refused_sized = go (eqb domain leaving)
      where
        go : (b : Bool) → length (cond b (copied own far) far) ≡ length far
        go true = copied_sized own far
        go false = refl

crosses : (r : Verdict) (domain leaving : ℕ) (t : Lent) (ls : List (List ℕ)) (own was far : List ℕ) → table_sound t ls ≡ true → 256 ≤ length was → IfOk r (λ q. q.level ≤ 255)
    → IfOk r (λ q. label_runs (key_runs (take q.count own)) ≡ true) → 120 + t.count ≤ length far → Crosses r domain leaving t ls own was far
crosses (Ok q) d l t ls own was far s a v f h = record {
  verdict = passed_verdict d l t ls own was far s q a v f h;
  far_keys = passed_keys d l t ls own was far s q a v f h;
  sized = passed_sized d l t ls own was far s q a v f h;
}
crosses (Err r) d l t ls own was far s a v f h = record {
  verdict = refused_verdict d l t ls own was far s r;
  far_keys = refused_keys d l t ls own was far s r;
  sized = refused_sized d l t ls own was far s r;
}

pub acts_cross : ActsCross
acts_cross = record { crosses = crosses }
