-- Laws of the kept options and of writing them.
use Prim.Native.Nat.{ℕ, zero, suc, ◌+◌, ◌-◌, ◌*◌, ◌/◌, ◌≤◌, ◌<◌, min}
use mathlib.Core.Path.{◌≡◌, refl, sym, ap, ◌∙◌}
use mathlib.Core.List.{List, [], ◌++◌, append_assoc, append-nil}
use native.Mathlib.Nat.{add-zero, min-le_left}
use native.Mathlib.Decide.{dec_le}
use native.Mathlib.Omega.{arith}
use mathlib.Core.Bool.{cond, and-false}
use borrow.Author.Tests.{le-leb, lt-leb}
use lib.ListN.{length, get_or, take, drop, replicate, length-drop, length-take, length-append}
use lib.Seq.{take_all, take-append-le, take-append-add, take-take, length-take-le, drop-drop, get_or-drop}
use Rattle.area.specs.declared.Kind.{Kind}
use Rattle.area.specs.declared.Kind.TheVariants.{End, NoOperation, Basic, Extended, Cipso, Other}
use Rattle.std.specs.Prelude.{Option, Some, None}
use Rattle.area.specs.Kinds.{Size}
use Rattle.area.specs.Kinds.{kind_of, size_of}
use Rattle.area.specs.Area.{span_of, front_of, met_from, met_of}
use Rattle.lists.specs.Lists.{paint, copied}
use Rattle.lists.proofs.Laws.{tail_is, copied_whole, Back, back_written, back_zeroed, paint_two, paint_none, paint_length}
use Rattle.area.proofs.Laws.{span_on, behind, met_turn, met_end}
use Rattle.area_leaving.specs.declared.Over.{Over}
use Rattle.area_leaving.specs.Kept.{kept_len, kept_among, kept_of, round_up, leaving_of, has_room, rest_count, rest_of}
use Rattle.area_leaving.specs.Stages.{over, over_of, next_of}

kept_short : (k : Kind) (n : ℕ) → kept_len k n ≤ n
kept_short End n = omega arith
kept_short NoOperation n = omega arith
kept_short Basic n = omega arith
kept_short Extended n = omega arith
kept_short Cipso n = omega arith
kept_short Other n = omega arith

over_on : (k : Kind) (l : List ℕ) (z : Size) (n m : ℕ) → span_of k (size_of l) ≡ z → 0 < length l → over_of k z ≡ Some (over n m)
    → (1 ≤ n) × (n ≤ length l) × (m ≤ n)
over_on k l None n m p h e = let z : ◌≡◌ {A = ℕ} 0 1 = cc in omega arith
over_on k l (Some x) n m p h e =
    let s : over x (kept_len k x) ≡ over n m = cc in
    let q : x ≡ n = ap (λ (o : Over). o.n) s in
    let r : kept_len k x ≡ m = ap (λ (o : Over). o.kept) s in
    omega (arith, span_on k l (size_of l) x refl h p, kept_short k x)

-- the walk goes over at least one octet, stays in the list, and keeps no more than it goes over
pub next_on : (l : List ℕ) (n m : ℕ) → 0 < length l → next_of l ≡ Some (over n m) → (1 ≤ n) × (n ≤ length l) × (m ≤ n)
next_on l n m h e = over_on (kind_of (get_or l 0 0)) l (span_of (kind_of (get_or l 0 0)) (size_of l)) n m refl h e

-- the kept options from an octet on
abbrev pub kept_from : List ℕ → ℕ → List ℕ
kept_from area at = kept_among area (met_from (drop at area) 0 at)

-- what is kept from an octet on, by what the walk does at the option there
abbrev pub after_next : List ℕ → ℕ → Option Over → List ℕ
after_next area at None = []
after_next area at (Some o) = take o.kept (drop at area) ++ kept_from area (at + o.n)

kept_front : (area : List ℕ) (at : ℕ) (k : Kind) (z : Size)
    → kept_among area (front_of k z at ++ behind (drop at area) at (span_of k z)) ≡ after_next area at (over_of k (span_of k z))
kept_front area at End z = refl
kept_front area at NoOperation z = rw drop-drop
kept_front area at Basic (Some n) = rw drop-drop
kept_front area at Basic None = refl
kept_front area at Extended (Some n) = rw drop-drop
kept_front area at Extended None = refl
kept_front area at Cipso (Some n) = rw drop-drop
kept_front area at Cipso None = refl
kept_front area at Other (Some n) = rw drop-drop
kept_front area at Other None = refl

pub kept_turn : (area : List ℕ) (at : ℕ) → at < length area → kept_from area at ≡ after_next area at (next_of (drop at area))
kept_turn area at h =
    ap (kept_among area) (met_turn (drop at area) at (simp length-drop (omega arith)))
    ∙ kept_front area at (kind_of (get_or (drop at area) 0 0)) (size_of (drop at area))

-- an octet of type 1 is not kept
pub kept_past : (area : List ℕ) (at : ℕ) → at < length area → get_or area at 0 ≡ 1 → kept_from area at ≡ kept_from area (at + 1)
kept_past area at h e =
    let k : get_or (drop at area) 0 0 ≡ 1 = get_or-drop at area 0 0 ∙ rw add-zero e in
    kept_turn area at h ∙ ap (λ (t : ℕ). after_next area at (over_of (kind_of t) (span_of (kind_of t) (size_of (drop at area))))) k

-- the walk ends at a 0
pub kept_none : (area : List ℕ) (at : ℕ) → at < length area → get_or area at 0 ≡ 0 → kept_from area at ≡ []
kept_none area at h e =
    let k : get_or (drop at area) 0 0 ≡ 0 = get_or-drop at area 0 0 ∙ rw add-zero e in
    kept_turn area at h ∙ ap (λ (t : ℕ). after_next area at (over_of (kind_of t) (span_of (kind_of t) (size_of (drop at area))))) k

-- one turn of a loop over the area, which found u at the octet `at`
module _ (area : List ℕ) (at : ℕ) (u : Option Over) (h : at < length area) (eu : u ≡ next_of (take (length area - at) (drop at area))) where
  pub kept_stop : u ≡ None → kept_from area at ≡ []
  kept_stop e = kept_turn area at h ∙ ap (after_next area at) (rw tail_is at (sym eu) ∙ e)

  pub kept_over : (o : Over) → u ≡ Some o → kept_from area at ≡ take o.kept (take (length area - at) (drop at area)) ++ kept_from area (at + o.n)
  kept_over o e = kept_turn area at h ∙ ap (after_next area at) (rw tail_is at (sym eu) ∙ e) ∙ rw tail_is

  pub over_moves : (o : Over) → u ≡ Some o → (1 ≤ o.n) × (at + o.n ≤ length area) × (o.kept ≤ o.n)
  over_moves o e =
      let q = next_on (drop at area) o.n o.kept (simp length-drop (omega arith)) (rw tail_is at (sym eu) ∙ e) in
      omega (arith, length-drop at area)

  pub over_count : (o : Over) → u ≡ Some o → length (kept_from area at) ≡ o.kept + length (kept_from area (at + o.n))
  over_count o e =
      let f : o.kept ≤ length (drop at area) = omega (arith, over_moves o e, length-drop at area) in
      rw (kept_over o e, length-append, tail_is, length-take-le o.kept (drop at area) f)

pub kept_end : (area : List ℕ) (at : ℕ) → length area ≤ at → kept_from area at ≡ []
kept_end area at h = ap (kept_among area) (met_end area at h)

-- of a list that starts with the first m of `rest`, the first `left`: those of the first m, and then of what follows
-- no more is kept than there is
pub kept_most : (area : List ℕ) → length (kept_of area) ≤ length area
unfolding kept_of met_of
kept_most area = omega (arith, go (length area) 0 (omega arith) (omega arith))
  where
    go : (k at : ℕ) → at ≤ length area → length area ≤ at + k → length (kept_from area at) + at ≤ length area
    go zero at h l = omega (arith, ap length (kept_end area at (omega arith)))
    go (suc k) at h l = elim (dec_le (suc at) (length area)) [ yes t ↦ by t (next_of (take (length area - at) (drop at area))) refl (go k) | no t ↦ omega (arith, ap length (kept_end area at (omega arith))) ]
      where
        by : at < length area → (u : Option Over) → u ≡ next_of (take (length area - at) (drop at area))
            → ((at : ℕ) → at ≤ length area → length area ≤ at + k → length (kept_from area at) + at ≤ length area) → length (kept_from area at) + at ≤ length area
        by t None e ih = omega (arith, ap length (kept_stop area at None t e refl))
        by t (Some o) e ih =
            let q = over_moves area at (Some o) t e o refl in
            omega (arith, q, over_count area at (Some o) t e o refl, ih (at + o.n) q.1 (omega (arith, q)))

pub take_both : (m left k : ℕ) (rest ks : List ℕ) → k ≡ min m left → m ≤ length rest
    → take left (take m rest ++ ks) ≡ take k rest ++ take (left - k) ks
take_both m left k rest ks e h = elim (dec_le m left) [
  | yes u ↦ (let q : k ≡ m = omega arith in rw q (all u))
  | no u ↦ (let q : k ≡ left = omega arith in rw q (some (omega arith)))
]
  where
    len : length (take m rest) ≡ m
    len = length-take-le m rest h

    all : m ≤ left → take left (take m rest ++ ks) ≡ take m rest ++ take (left - m) ks
    all u =
        let s : left ≡ length (take m rest) + (left - m) = omega (arith, len) in
        ap (λ (i : ℕ). take i (take m rest ++ ks)) s ∙ take-append-add (take m rest) ks (left - m)

    some : left ≤ m → take left (take m rest ++ ks) ≡ take left rest ++ take (left - left) ks
    some u =
        let z : left - left ≡ 0 = omega arith in
        take-append-le left (take m rest) ks (omega (arith, len)) ∙ take-take left m rest u
        ∙ sym (append-nil (take left rest)) ∙ ap (λ (i : ℕ). take left rest ++ take i ks) (sym z)

pub take_none : (n : ℕ) (ks : List ℕ) → ks ≡ [] → take n ks ≡ []
take_none zero ks e = refl
take_none (suc n) ks e = rw e

pub take_short : (n : ℕ) (l : List ℕ) → length (take n l) ≤ n
take_short n l = simp length-take (min-le_left n (length l))

pub next_is : (l : List ℕ) (k : Kind) (z u : Size) → k ≡ kind_of (get_or l 0 0) → z ≡ size_of l → u ≡ span_of k z → over_of k u ≡ next_of l
next_is l k z u ek ez eu = rw (eu, ez, ek)

pub paint_nothing : (w : ℕ) (out xs : List ℕ) → xs ≡ [] → out ≡ paint w xs out
paint_nothing w out xs e = rw e (sym (paint_none w out))

-- a turn of the loop that copies the kept options: it wrote xs at w, and ks is still to be written
module _ (w : ℕ) (xs ys out : List ℕ) (h : w + length xs ≤ length out) (ey : ys ≡ copied xs (take (length out - w) (drop w out))) where
  back : Back w (length out) out ys ≡ paint w xs out
  back =
      let part : length (take (length out - w) (drop w out)) ≡ length out - w = rw (tail_is, length-drop) in
      back_written w (length out) out ys xs h (omega arith) (ey ∙ copied_whole xs (take (length out - w) (drop w out)) (omega arith))

  pub turn_length : length (Back w (length out) out ys) ≡ length out
  turn_length = rw back (paint_length w xs out h)

  pub turn_paint : (ks : List ℕ) → paint (w + length xs) ks (Back w (length out) out ys) ≡ paint w (xs ++ ks) out
  turn_paint ks = rw back (paint_two w xs ks out h)

-- Writing the rest of the area, return by return.
module _ (from kept : ℕ) (ks out : List ℕ) where
  pub rest_short : length out < 40 → (0 ≡ rest_count from kept ks (length out)) × (out ≡ rest_of from kept ks out)
  unfolding rest_count rest_of
  rest_short h = (rw (lt-leb 40 (length out) h), rw (lt-leb 40 (length out) h))

  pub rest_over : 40 < from + kept → (0 ≡ rest_count from kept ks (length out)) × (out ≡ rest_of from kept ks out)
  unfolding rest_count rest_of
  rest_over h = (simp (lt-leb (from + kept) 40 h, and-false), simp (lt-leb (from + kept) 40 h, and-false))

  pub rest_written : (w : ℕ) (a z : List ℕ) → 40 ≤ length out → from + kept ≤ 40
      → w ≡ from + length (take kept ks) → a ≡ paint from (take kept ks) out → z ≡ replicate (length (take (40 - w) (drop w a))) 0
      → ((w + 3) / 4 * 4 ≡ rest_count from kept ks (length out)) × (Back w 40 a z ≡ rest_of from kept ks out)
  unfolding rest_count rest_of
  rest_written w a z h k ew ea ez =
      let o : List ℕ = take from out in
      let x : List ℕ = take kept ks in
      let lx : length x ≤ kept = take_short kept ks in
      let lo : length o ≡ from = length-take-le from out (omega arith) in
      let lk : length (o ++ x) ≡ length o + length x = length-append o x in
      let e : w ≡ length (o ++ x) = omega arith in
      let la : length a ≡ length out = rw ea (paint_length from x out (omega arith)) in
      let p : a ≡ (o ++ x) ++ drop w out = ea ∙ sym (append_assoc o x (drop (from + length x) out)) ∙ ap (λ (i : ℕ). (o ++ x) ++ drop i out) (sym ew) in
      let q : Back w 40 a z ≡ leaving_of o x out =
      back_zeroed w 40 a z (o ++ x) out e (omega arith) (omega arith) p ez ∙ rw (e, lk, append_assoc) in
      (rw (le-leb 40 (length out) h, le-leb (from + kept) 40 k, ew), rw (le-leb 40 (length out) h, le-leb (from + kept) 40 k) q)

-- with the number of all kept octets
module _ (from kept : ℕ) (ks : List ℕ) (e : kept ≡ length ks) where
  pub rest_counted : (n : ℕ) → rest_count from kept ks n ≡ cond (has_room from (length ks) n) (round_up (from + length ks)) 0
  unfolding rest_count
  rest_counted n = rw (e, take_all (length ks) ks (omega arith))

  pub rest_whole : (out : List ℕ) → rest_of from kept ks out ≡ cond (has_room from (length ks) (length out)) (leaving_of (take from out) ks out) out
  unfolding rest_of
  rest_whole out = rw (e, take_all (length ks) ks (omega arith))
