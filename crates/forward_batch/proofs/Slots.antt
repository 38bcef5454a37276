-- Records and slots: one datagram's slot, and a turn of the loop over all.
use mathlib.Core.Path.{◌≡◌, refl, sym, ◌∙◌, ap}
use mathlib.Core.Bool.{Bool, true, false}
use mathlib.Core.List.{List, [], ◌++◌, append_assoc, append-nil}
use Prim.Native.Nat.{ℕ, suc, ◌+◌, ◌-◌, ◌*◌, ◌<◌, ◌≤◌}
use native.Mathlib.Omega.{arith}
use lib.Dec.{leb}
use borrow.Author.Tests.{leb-true, leb-false}
use lib.ListN.{length, get_or, take, drop, length-drop, length-append, take-append-drop, drop_of_length-le}
use lib.Seq.{take_all, take_at, drop_at, drop-drop, length-take-le}
use Rattle.decision.specs.declared.Decision.{Decision}
use Rattle.decision.specs.declared.Facts.{Facts}
use Rattle.forward_rules.specs.Crossing.{Forwarding}
use Rattle.forward_rules.specs.Forward.{forwarding_of, forward_of, output_of}
use Rattle.forward_batch.specs.Batch.{Gateway, facts_in, area_in, with_head, forwarding_in, slot_of, batch_of}

-- 1. One record, as the code cuts it up.

-- its length octet may say more than a record holds
area_by : (zs : List ℕ) (n k : ℕ) → length zs ≡ 56 → (n ≤ 56 → k ≡ n) → (56 ≤ n → k ≡ 56) → (t : Bool) → leb n 56 ≡ t → take k zs ≡ take n zs
area_by zs n k long small large true h = ap (λ (m : ℕ). take m zs) (small (leb-true n 56 h))
area_by zs n k long small large false h =
    let l : 56 < n = leb-false n 56 h in
    let z : k ≡ 56 = large (omega arith) in
    take_all k zs (omega arith) ∙ sym (take_all n zs (omega arith))

area_cut : (r : List ℕ) (k : ℕ) → length r ≡ 64 → (get_or r 5 0 ≤ 56 → k ≡ get_or r 5 0) → (56 ≤ get_or r 5 0 → k ≡ 56) → take ((8 + k) - 8) (drop 8 r) ≡ area_in r
area_cut r k e small large =
    let eight : (8 + k) - 8 ≡ k = omega arith in
    let long : length (drop 8 r) ≡ 56 = simp length-drop (omega arith) in
    rw eight (area_by (drop 8 r) (get_or r 5 0) k long small large (leb (get_or r 5 0) 56) refl)

abbrev cut : Gateway → Facts → List ℕ → ℕ → Forwarding
cut g fs area room = forwarding_of g.arriving g.leaving g.table g.levels fs area room

pub one : (g : Gateway) (r s : List ℕ) (fs : Facts) (k : ℕ) (d : Decision) (ys last : List ℕ) → length r ≡ 64 → length s ≡ 64 → fs ≡ facts_in r → (get_or r 5 0 ≤ 56 → k ≡ get_or r 5 0) → (56 ≤ get_or r 5 0 → k ≡ 56)
    → d ≡ forward_of (cut g fs (take ((8 + k) - 8) (drop 8 r)) (length (take (length s - 24) (drop 24 s))))
    → ys ≡ output_of (cut g fs (take ((8 + k) - 8) (drop 8 r)) (length (take (length s - 24) (drop 24 s)))) (take (length s - 24) (drop 24 s))
    → last ≡ with_head d (take 24 s ++ (ys ++ drop (length s - 24) (drop 24 s)))
    → last ≡ slot_of g r s
unfolding slot_of
one g r s fs k d ys last er es ef small large e₁ e₂ e₃ =
    let room : length (drop 24 s) ≡ 40 = simp length-drop (omega arith) in
    let tail : take (length s - 24) (drop 24 s) ≡ drop 24 s = take_all (length s - 24) (drop 24 s) (omega arith) in
    let short : length (drop 24 s) ≤ length s - 24 = omega arith in
    let over : drop (length s - 24) (drop 24 s) ≡ [] = drop_of_length-le (drop 24 s) short in
    let area : take ((8 + k) - 8) (drop 8 r) ≡ area_in r = area_cut r k er small large in
    let same : cut g fs (take ((8 + k) - 8) (drop 8 r)) (length (take (length s - 24) (drop 24 s))) ≡ forwarding_in g r
    = (λ i. cut g (ef i) (area i) (length (tail i))) ∙ ap (λ (n : ℕ). cut g (facts_in r) (area_in r) n) room in
    e₃
    ∙ ap (λ (x : Decision). with_head x (take 24 s ++ (ys ++ drop (length s - 24) (drop 24 s)))) (e₁ ∙ ap forward_of same)
    ∙ ap (λ (zs : List ℕ). with_head (forward_of (forwarding_in g r)) (take 24 s ++ zs)) (ap (λ (zs : List ℕ). ys ++ zs) over ∙ append-nil ys
    ∙ e₂ ∙ ap (λ (f : Forwarding). output_of f (take (length s - 24) (drop 24 s))) same ∙ ap (output_of (forwarding_in g r)) tail)

-- 2. A turn over a buffer of slots: what is done stands in front, and the rest is still to be done.

split_front : (front rest out : List ℕ) (k : ℕ) → length front ≡ k → out ≡ front ++ rest → (take k out ≡ front) × (drop k out ≡ rest)
split_front front rest out k long e = (ap (take k) e ∙ take_at front rest k long, ap (drop k) e ∙ drop_at front rest k long)

step : (g : Gateway) (w ins out out' ys : List ℕ) (at m : ℕ) → at + 64 ≤ length out → length ys ≡ 64
    → w ≡ take at out ++ batch_of g (suc m) (drop at ins) (drop at out)
    → ys ≡ slot_of g (take 64 (drop at ins)) (take 64 (drop at out))
    → out' ≡ take at out ++ (ys ++ drop 64 (drop at out))
    → w ≡ take (at + 64) out' ++ batch_of g m (drop (at + 64) ins) (drop (at + 64) out')
step g w ins out out' ys at m ho hy inv e back =
    let short : length (take at out) ≡ at = length-take-le at out (omega arith) in
    let long : length (take at out ++ ys) ≡ at + 64 = simp length-append (omega arith) in
    let parts = split_front (take at out ++ ys) (drop 64 (drop at out)) out' (at + 64) long (back ∙ sym (append_assoc (take at out) ys (drop 64 (drop at out)))) in
    inv
    ∙ ap (λ (zs : List ℕ). take at out ++ (zs ++ batch_of g m (drop 64 (drop at ins)) (drop 64 (drop at out)))) (sym e)
    ∙ sym (append_assoc (take at out) ys (batch_of g m (drop 64 (drop at ins)) (drop 64 (drop at out))))
    ∙ rw (parts.0, parts.1, sym (drop-drop 64 at ins))

-- the same, in the terms of the loop: i of n records are done
pub turn : (g : Gateway) (w ins out ys : List ℕ) (n i k : ℕ) → k ≡ 64 → i < n → i * 64 + 64 ≤ length out → length ys ≡ 64
    → w ≡ take (i * 64) out ++ batch_of g (n - i) (drop (i * 64) ins) (drop (i * 64) out)
    → ys ≡ slot_of g (take k (drop (i * 64) ins)) (take k (drop (i * 64) out))
    → w ≡ take ((i + 1) * 64) (take (i * 64) out ++ (ys ++ drop k (drop (i * 64) out)))
    ++ batch_of g (n - (i + 1)) (drop ((i + 1) * 64) ins) (drop ((i + 1) * 64) (take (i * 64) out ++ (ys ++ drop k (drop (i * 64) out))))
turn g w ins out ys n i k ek less ho hy inv e =
    let at : ℕ = i * 64 in
    let more : n - i ≡ suc (n - (i + 1)) = omega arith in
    let next : (i + 1) * 64 ≡ i * 64 + 64 = omega arith in
    rw next
    (step g w ins out (take at out ++ (ys ++ drop k (drop at out))) ys at (n - (i + 1)) ho hy (inv ∙ ap (λ (m : ℕ). take at out ++ batch_of g m (drop at ins) (drop at out)) more)
    (e ∙ ap (λ (m : ℕ). slot_of g (take m (drop at ins)) (take m (drop at out))) ek) (ap (λ (m : ℕ). take at out ++ (ys ++ drop m (drop at out))) ek))

pub part_length : (xs : List ℕ) (at k : ℕ) → k ≡ 64 → at + 64 ≤ length xs → length (take k (drop at xs)) ≡ 64
part_length xs at k e h =
    let d : length (drop at xs) ≡ length xs - at = length-drop at xs in
    let t : length (take k (drop at xs)) ≡ k = length-take-le k (drop at xs) (omega arith) in
    omega arith

pub whole_length : (out ys : List ℕ) (at k : ℕ) → k ≡ 64 → at + 64 ≤ length out → length ys ≡ 64 → length (take at out ++ (ys ++ drop k (drop at out))) ≡ length out
whole_length out ys at k e h hy =
    let d : length (drop at out) ≡ length out - at = length-drop at out in
    let f : length (drop k (drop at out)) ≡ length (drop at out) - k = length-drop k (drop at out) in
    let t : length (take at out) ≡ at = length-take-le at out (omega arith) in
    simp length-append (omega arith)

pub at_start : (g : Gateway) (ins out : List ℕ) (n : ℕ) → batch_of g n ins out ≡ batch_of g (n - 0) ins out
at_start g ins out n = let z : n ≡ n - 0 = omega arith in ap (λ (m : ℕ). batch_of g m ins out) z

pub at_end : (g : Gateway) (w ins out : List ℕ) (at m : ℕ) → m ≡ 0 → w ≡ take at out ++ batch_of g m (drop at ins) (drop at out) → out ≡ w
at_end g w ins out at m z inv = sym (inv ∙ ap (λ (k : ℕ). take at out ++ batch_of g k (drop at ins) (drop at out)) z ∙ take-append-drop at out)
