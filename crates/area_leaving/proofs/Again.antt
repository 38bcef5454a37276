-- The kept options of an area, walked over again behind an option 134: nothing of them is refused, and all of them are kept.
use Prim.Native.Nat.{ℕ, zero, suc, pred, ◌+◌, ◌≤◌, ◌<◌}
use mathlib.Core.Path.{◌≡◌, refl, sym, ap, ◌∙◌}
use mathlib.Core.Bool.{Bool, true, false}
use mathlib.Core.List.{List, [], ◌∷◌, ◌++◌, append_assoc, append-nil}
use mathlib.Core.Option.{Option, none, some}
use native.Mathlib.Omega.{arith}
use borrow.Author.Tests.{le-ltb, le-leb}
use lib.ListN.{length, get_or, take, drop, replicate, length-append, length-drop, get_or-append}
use lib.Seq.{take-append_seam, drop-append_seam, drop-drop, get_or-take, length-take-le}
use Rattle.area.specs.declared.Kind.{Kind}
use Rattle.area.specs.declared.Kind.TheVariants.{End, NoOperation, Basic, Extended, Cipso, Other}
use Rattle.std.specs.Prelude.{Ok, Some, None}
use Rattle.area.specs.Kinds.{Place, Size, places}
use Rattle.area.specs.Kinds.{kind_of, size_of}
use Rattle.area.specs.Area.{Met, span_of, front_of, met_from, met_of, judged, walk_of, octets_at}
use Rattle.area.proofs.Basic.{basic_front, basic_among, met_once, walk_basic}
use Rattle.area.proofs.KindLaws.{size_whole, whole_size}
use Rattle.area.proofs.Laws.{behind, met_turn}
use Rattle.area.proofs.Meets.{next_octet}
use Rattle.area.proofs.Front.{zeros_met, label_first}
use Rattle.area_leaving.specs.Kept.{kept_among, kept_of}
use Rattle.area_leaving.specs.Stages.{over, over_of, next_of}
use Rattle.area_leaving.proofs.Laws.{kept_from, after_next, kept_turn}

-- a list that starts with an option that fills o
pub record Starts (o : List ℕ) (k : Kind) : Type 0 where
  pub kind : kind_of (get_or o 0 0) ≡ k
  pub size : get_or o 1 0 ≡ length o
  pub least : 2 ≤ length o

module _ (o rest : List ℕ) (k : Kind) (s : Starts o k) where
  long : 0 < length (o ++ rest)
  long = omega (arith, length-append o rest, s.least)

  kind_front : kind_of (get_or (o ++ rest) 0 0) ≡ k
  kind_front = ap kind_of (get_or-append o rest 0 0 (omega (arith, s.least))) ∙ s.kind

  size_front : size_of (o ++ rest) ≡ Some (length o)
  size_front =
      let la : length (o ++ rest) ≡ length o + length rest = length-append o rest in
      let h : 2 ≤ length o = s.least in
      let g : get_or (o ++ rest) 1 0 ≡ length o = get_or-append o rest 0 1 (omega arith) ∙ s.size in
      rw (le-ltb (length (o ++ rest)) 2 (omega arith), g, le-ltb (length o) 2 h, le-leb (length o) (length (o ++ rest)) (omega arith))

-- the walk goes over an option that is kept
other_walk : (on : Bool) (o rest : List ℕ) (at : ℕ) (label basic : Place) → Starts o Other
    → judged on false (met_from (o ++ rest) 0 at) label basic ≡ judged on false (met_from rest 0 (at + length o)) label basic
other_walk on o rest at label basic s =
    ap (λ (ms : List Met). judged on false ms label basic) (met_turn (o ++ rest) at (long o rest Other s))
    ∙ rw (kind_front o rest Other s, size_front o rest Other s, drop-append_seam)

basic_walk : (o rest : List ℕ) (at : ℕ) (label : Place) → Starts o Basic
    → judged true false (met_from (o ++ rest) 0 at) label None ≡ judged true false (met_from rest 0 (at + length o)) label (Some at)
basic_walk o rest at label s =
    ap (λ (ms : List Met). judged true false ms label None) (met_turn (o ++ rest) at (long o rest Basic s))
    ∙ rw (kind_front o rest Basic s, size_front o rest Basic s, drop-append_seam)

-- the octets of the first option 130 from an octet on
abbrev pub basic_from : List ℕ → ℕ → Option (List ℕ)
basic_from area at = basic_among area (met_from (drop at area) 0 at)

-- what they are with an option in front of which n octets are passed over
abbrev basic_next : List ℕ → ℕ → Kind → ℕ → Option (List ℕ)
basic_next area at k n = basic_front area k (Some n) at (basic_from area (at + n))

basic_front_lem : (area : List ℕ) (at n : ℕ) (k : Kind) → span_of k (Some n) ≡ Some n
    → basic_among area (front_of k (Some n) at ++ behind (drop at area) at (span_of k (Some n))) ≡ basic_next area at k n
basic_front_lem area at n End e = let z : ◌≡◌ {A = ℕ} 0 1 = cc in absurd (omega arith)
basic_front_lem area at n NoOperation e =
    let q : 1 ≡ n = cc in ap (λ (l : List ℕ). basic_among area (met_from l 0 (at + 1))) (drop-drop 1 at area) ∙ ap (λ (i : ℕ). basic_from area (at + i)) q
basic_front_lem area at n Basic e = refl
basic_front_lem area at n Extended e = ap (λ (l : List ℕ). basic_among area (met_from l 0 (at + n))) (drop-drop n at area)
basic_front_lem area at n Cipso e = ap (λ (l : List ℕ). basic_among area (met_from l 0 (at + n))) (drop-drop n at area)
basic_front_lem area at n Other e = ap (λ (l : List ℕ). basic_among area (met_from l 0 (at + n))) (drop-drop n at area)

-- an area in which an option stands from an octet on, with the rest behind it
module _ (area o rest : List ℕ) (at : ℕ) (k : Kind) (s : Starts o k) (e : drop at area ≡ o ++ rest) where
  pub drop_front : drop (at + length o) area ≡ rest
  drop_front = sym (drop-drop (length o) at area) ∙ ap (drop (length o)) e ∙ drop-append_seam o rest

  kept_front : (n : ℕ) → over_of k (span_of k (Some (length o))) ≡ Some (over (length o) n) → kept_from area at ≡ take n (o ++ rest) ++ kept_from area (at + length o)
  kept_front n f =
      let t : next_of (o ++ rest) ≡ Some (over (length o) n) = rw (kind_front o rest k s, size_front o rest k s) f in
      let h : at < length area = omega (arith, long o rest k s, ap length e, length-drop at area) in
      kept_turn area at h ∙ ap (after_next area at) (ap next_of e ∙ t) ∙ ap (λ (l : List ℕ). take n l ++ kept_from area (at + length o)) e

  basic_in_front : span_of k (Some (length o)) ≡ Some (length o) → basic_from area at ≡ basic_next area at k (length o)
  basic_in_front f =
      let h : 0 < length (drop at area) = rw e (long o rest k s) in
      let ek : kind_of (get_or (drop at area) 0 0) ≡ k = rw e (kind_front o rest k s) in
      let ez : size_of (drop at area) ≡ Some (length o) = rw e (size_front o rest k s) in
      ap (basic_among area) (met_turn (drop at area) at h)
      ∙ (λ i. basic_among area (front_of (ek i) (ez i) at ++ behind (drop at area) at (span_of (ek i) (ez i))))
      ∙ basic_front_lem area at (length o) k f

other_kept : (area o rest : List ℕ) (at : ℕ) → Starts o Other → drop at area ≡ o ++ rest → kept_from area at ≡ o ++ kept_from area (at + length o)
other_kept area o rest at s e = kept_front area o rest at Other s e (length o) refl ∙ rw take-append_seam

basic_kept : (area o rest : List ℕ) (at : ℕ) → Starts o Basic → drop at area ≡ o ++ rest → kept_from area at ≡ o ++ kept_from area (at + length o)
basic_kept area o rest at s e = kept_front area o rest at Basic s e (length o) refl ∙ rw take-append_seam

label_kept : (area o rest : List ℕ) (at : ℕ) → Starts o Cipso → drop at area ≡ o ++ rest → kept_from area at ≡ kept_from area (at + length o)
label_kept area o rest at s e = kept_front area o rest at Cipso s e 0 refl

-- nothing was met before an option 130
abbrev pub Free : Option (List ℕ) → Place → Type 0
Free none b = Unit {0}
Free (some o) b = b ≡ None

-- what is kept, with the octets of its option 130: it passes the walk, whatever option 134 was seen before, and is kept
pub record Again (on : Bool) (ks : List ℕ) (c : Option (List ℕ)) : Type 0 where
  pub walk : (z at : ℕ) (label basic : Place) → Free c basic → (b : Place) × (judged on false (met_from (ks ++ replicate z 0) 0 at) label basic ≡ Ok (places label b))
  pub kept : (area : List ℕ) (z at : ℕ) → drop at area ≡ ks ++ replicate z 0 → kept_from area at ≡ ks
  pub found : (area : List ℕ) (z at : ℕ) → drop at area ≡ ks ++ replicate z 0 → basic_from area at ≡ c

pub free_nowhere : (c : Option (List ℕ)) → Free c None
free_nowhere none = tt
free_nowhere (some o) = refl

again_none : (on : Bool) → Again on [] none
again_none on =
    record {
      walk = λ z at label basic f. (basic, ap (λ (ms : List Met). judged on false ms label basic) (zeros_met z at));
      kept = λ area z at e. ap (λ (l : List ℕ). kept_among area (met_from l 0 at)) e ∙ ap (kept_among area) (zeros_met z at);
      found = λ area z at e. ap (λ (l : List ℕ). basic_among area (met_from l 0 at)) e ∙ ap (basic_among area) (zeros_met z at);
    }

again_other : (on : Bool) (o ks : List ℕ) (c : Option (List ℕ)) → Starts o Other → Again on ks c → Again on (o ++ ks) c
again_other on o ks c s a =
    record {
      walk = λ z at label basic f.
          (let n = a.walk z (at + length o) label basic f in
          (n.0, rw append_assoc (other_walk on o (ks ++ replicate z 0) at label basic s ∙ n.1)));
      kept = λ area z at e.
          (let f : drop at area ≡ o ++ (ks ++ replicate z 0) = e ∙ append_assoc o ks (replicate z 0) in
          other_kept area o (ks ++ replicate z 0) at s f
          ∙ ap (λ (x : List ℕ). o ++ x) (a.kept area z (at + length o) (drop_front area o (ks ++ replicate z 0) at Other s f)));
      found = λ area z at e.
          (let f : drop at area ≡ o ++ (ks ++ replicate z 0) = e ∙ append_assoc o ks (replicate z 0) in
          basic_in_front area o (ks ++ replicate z 0) at Other s f refl
          ∙ a.found area z (at + length o) (drop_front area o (ks ++ replicate z 0) at Other s f));
    }

again_basic : (o ks : List ℕ) → Starts o Basic → Again true ks none → Again true (o ++ ks) (some o)
again_basic o ks s a =
    record {
      walk = λ z at label basic f.
          (let n = a.walk z (at + length o) label (Some at) tt in
          (n.0, rw (append_assoc, f) (basic_walk o (ks ++ replicate z 0) at label s ∙ n.1)));
      kept = λ area z at e.
          (let f : drop at area ≡ o ++ (ks ++ replicate z 0) = e ∙ append_assoc o ks (replicate z 0) in
          basic_kept area o (ks ++ replicate z 0) at s f
          ∙ ap (λ (x : List ℕ). o ++ x) (a.kept area z (at + length o) (drop_front area o (ks ++ replicate z 0) at Basic s f)));
      found = λ area z at e.
          (let f : drop at area ≡ o ++ (ks ++ replicate z 0) = e ∙ append_assoc o ks (replicate z 0) in
          basic_in_front area o (ks ++ replicate z 0) at Basic s f refl ∙ rw (f, take-append_seam));
    }

starts_take : (l : List ℕ) (n : ℕ) (k : Kind) → kind_of (get_or l 0 0) ≡ k → size_of l ≡ Some n → Starts (take n l) k
starts_take l n k ek ez =
    let w = size_whole l n ez in
    let e : length (take n l) ≡ n = length-take-le n l w.1 in
    record {
      kind = ap kind_of (get_or-take n l 0 0 (omega arith)) ∙ ek;
      size = get_or-take n l 1 0 (omega arith) ∙ whole_size l n ez ∙ sym e;
      least = omega arith;
    }

-- one option of an area that the walk passed, with what is kept behind it
abbrev Behind : Bool → List ℕ → List ℕ → ℕ → Place → Place → Type 0
Behind on area r at l b =
    (n : ℕ) (label basic : Place) → judged on false (met_from r (pred n) (suc at)) label basic ≡ Ok (places l b)
    → Again on (kept_among area (met_from r (pred n) (suc at))) (basic_among area (met_from r (pred n) (suc at)))

again_by : (on : Bool) (area : List ℕ) (t : ℕ) (r : List ℕ) (at : ℕ) (k : Kind) (y : Size) (label basic l b : Place) → drop at area ≡ t ∷ r → kind_of t ≡ k → size_of (t ∷ r) ≡ y
    → judged on false (front_of k y at ++ elim (span_of k y) as (λ _. List Met) [ Some n ↦ met_from r (pred n) (suc at) | None ↦ [] ]) label basic ≡ Ok (places l b)
    → Behind on area r at l b
    → Again on (kept_among area (front_of k y at ++ elim (span_of k y) as (λ _. List Met) [ Some n ↦ met_from r (pred n) (suc at) | None ↦ [] ]))
    (basic_among area (front_of k y at ++ elim (span_of k y) as (λ _. List Met) [ Some n ↦ met_from r (pred n) (suc at) | None ↦ [] ]))
again_by on area t r at End y label basic l b ed ek ey e g = again_none on
again_by on area t r at NoOperation y label basic l b ed ek ey e g = g 1 label basic e
again_by false area t r at Basic (Some n) label basic l b ed ek ey e g = let z : ◌≡◌ {A = ℕ} 0 1 = cc in absurd (omega arith)
again_by true area t r at Basic (Some n) label (Some p) l b ed ek ey e g = let z : ◌≡◌ {A = ℕ} 0 1 = cc in absurd (omega arith)
again_by true area t r at Basic (Some n) label None l b ed ek ey e g =
    rw ed
    (again_basic (take n (t ∷ r)) (kept_among area (met_from r (pred n) (suc at))) (starts_take (t ∷ r) n Basic ek ey)
    (rw (met_once true area (met_from r (pred n) (suc at)) label l b at e).0 at (g n label (Some at) e)))
again_by on area t r at Basic None label basic l b ed ek ey e g = let z : ◌≡◌ {A = ℕ} 0 1 = cc in absurd (omega arith)
again_by on area t r at Extended (Some n) label basic l b ed ek ey e g = let z : ◌≡◌ {A = ℕ} 0 1 = cc in absurd (omega arith)
again_by on area t r at Extended None label basic l b ed ek ey e g = let z : ◌≡◌ {A = ℕ} 0 1 = cc in absurd (omega arith)
again_by on area t r at Cipso (Some n) None basic l b ed ek ey e g = g n (Some at) basic e
again_by on area t r at Cipso (Some n) (Some p) basic l b ed ek ey e g = let z : ◌≡◌ {A = ℕ} 0 1 = cc in absurd (omega arith)
again_by on area t r at Cipso None label basic l b ed ek ey e g = let z : ◌≡◌ {A = ℕ} 0 1 = cc in absurd (omega arith)
again_by on area t r at Other (Some n) label basic l b ed ek ey e g =
    rw ed (again_other on (take n (t ∷ r)) (kept_among area (met_from r (pred n) (suc at))) _ (starts_take (t ∷ r) n Other ek ey) (g n label basic e))
again_by on area t r at Other None label basic l b ed ek ey e g = let z : ◌≡◌ {A = ℕ} 0 1 = cc in absurd (omega arith)

again_from : (on : Bool) (area xs : List ℕ) (k at : ℕ) (label basic l b : Place) → drop at area ≡ xs → judged on false (met_from xs k at) label basic ≡ Ok (places l b)
    → Again on (kept_among area (met_from xs k at)) (basic_among area (met_from xs k at))
unfolding met_from
again_from on area [] k at label basic l b ed e = again_none on
again_from on area (t ∷ r) (suc k) at label basic l b ed e = again_from on area r k (suc at) label basic l b (next_octet area at t r ed) e
again_from on area (t ∷ r) zero at label basic l b ed e =
    again_by on area t r at (kind_of t) (size_of (t ∷ r)) label basic l b ed refl refl e
    (λ n x y h. again_from on area r (pred n) (suc at) x y l b (next_octet area at t r ed) h)

pub kept_again : (on : Bool) (area : List ℕ) (l b : Place) → walk_of on area ≡ Ok (places l b) → Again on (kept_of area) (octets_at b area)
unfolding walk_of kept_of met_of
kept_again on area l b e = rw (walk_basic on area l b e) (again_from on area area 0 0 None None l b refl e)

-- the kept options have the octets of the option 130
pub basic_of_kept : (on : Bool) (area : List ℕ) (l b : Place) → walk_of on area ≡ Ok (places l b) → octets_at b area ≡ basic_from (kept_of area) 0
basic_of_kept on area l b e = sym ((kept_again on area l b e).found (kept_of area) 0 0 (sym (append-nil (kept_of area))))

-- an option 134, kept options and zeros: the walk meets that option in front, and the kept options are these
module _ (on : Bool) (o ks : List ℕ) (c : Option (List ℕ)) (z : ℕ) (s : Starts o Cipso) (type : get_or o 0 0 ≡ 134) (a : Again on ks c) where
  pub front_walk : (b : Place) × (walk_of on (o ++ (ks ++ replicate z 0)) ≡ Ok (places (Some 0) b))
  front_walk =
      let n = a.walk z (length o) (Some 0) None (free_nowhere c) in
      (n.0, label_first on o (ks ++ replicate z 0) type s.size s.least ∙ n.1)

  pub front_kept : kept_of (o ++ (ks ++ replicate z 0)) ≡ ks
  unfolding kept_of met_of
  front_kept =
      let l : List ℕ = o ++ (ks ++ replicate z 0) in
      label_kept l o (ks ++ replicate z 0) 0 s refl ∙ a.kept l z (0 + length o) (drop_front l o (ks ++ replicate z 0) 0 Cipso s refl)
