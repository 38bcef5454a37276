-- Laws of the walk's definitions.
use Prim.Native.Nat.{ℕ, zero, suc, pred, ◌+◌, ◌-◌, ◌≤◌, ◌<◌}
use mathlib.Core.Path.{◌≡◌, refl, sym, ap, subst, ◌∙◌}
use mathlib.Core.List.{List, [], ◌∷◌, ◌++◌}
use mathlib.Core.Bool.{Bool, true, false, cond}
use borrow.Author.Tests.{ne_eqb}
use lib.Dec.{eqb}
use native.Mathlib.Nat.{add-zero}
use native.Mathlib.Omega.{arith}
use lib.ListN.{length, get_or, take, drop, length-drop, drop_of_length-le}
use lib.Seq.{get_or-drop, get_or-take, drop-drop, length-take-le}
use Rattle.lists.proofs.Laws.{tail_is}
use Rattle.area.proofs.KindLaws.{size_whole, whole_size, same_places, same_fault}
use Rattle.area.specs.declared.Kind.{Kind}
use Rattle.area.specs.declared.Places.{Places}
use Rattle.area.specs.declared.Fault.{Fault}
use Rattle.area.specs.declared.Kind.TheVariants.{End, NoOperation, Basic, Extended, Cipso, Other}
use Rattle.std.specs.Prelude.{Ok, Err, Some, None}
use Rattle.area.specs.Kinds.{Place, Size, Walk, places, fault}
use Rattle.area.specs.Kinds.{kind_of, size_of}
use Rattle.area.specs.Turn.{judge}
use Rattle.area.specs.Area.{Met, span_of, front_of, met_from, met_of, judged, walk_of, open_walk, option_at, WholeAt, placed_within}
use Rattle.area.specs.Meets.{StandIn}
use Rattle.area.proofs.Meets.{met_stand}

-- an option reaches over at least one octet, and stays in the list
pub span_on : (k : Kind) (l : List ℕ) (z : Size) (n : ℕ) → size_of l ≡ z → 0 < length l → span_of k z ≡ Some n → (1 ≤ n) × (n ≤ length l)
span_on End l z n p h e = let z : ◌≡◌ {A = ℕ} 0 1 = cc in omega arith
span_on NoOperation l z n p h e = let q : 1 ≡ n = cc in omega arith
span_on Basic l z n p h e = omega (arith, size_whole l n (p ∙ e))
span_on Extended l z n p h e = omega (arith, size_whole l n (p ∙ e))
span_on Cipso l z n p h e = omega (arith, size_whole l n (p ∙ e))
span_on Other l z n p h e = omega (arith, size_whole l n (p ∙ e))

met_skip : (l : List ℕ) (k at : ℕ) → met_from l k at ≡ met_from (drop k l) 0 (at + k)
unfolding met_from
met_skip [] zero at = refl
met_skip [] (suc k) at = refl
met_skip (t ∷ r) zero at = ap (met_from (t ∷ r) 0) (sym (add-zero at))
met_skip (t ∷ r) (suc k) at = met_skip r k (suc at) ∙ ap (λ (m : ℕ). met_from (drop k r) 0 m) (omega arith)

-- the options met behind one that reaches so far
abbrev pub behind : List ℕ → ℕ → Size → List Met
behind l at None = []
behind l at (Some n) = met_from (drop n l) 0 (at + n)

met_behind : (t : ℕ) (r : List ℕ) (at : ℕ) (z : Size) → ((n : ℕ) → z ≡ Some n → 1 ≤ n)
    → elim z as (λ _. List Met) [ Some n ↦ met_from r (pred n) (suc at) | None ↦ [] ] ≡ behind (t ∷ r) at z
met_behind t r at None h = refl
met_behind t r at (Some zero) h = let z = h zero refl in absurd (omega arith)
met_behind t r at (Some (suc n)) h = met_skip r n (suc at) ∙ ap (λ (m : ℕ). met_from (drop n r) 0 m) (omega arith)

-- the options of a list: the one in front, and those behind it
pub met_turn : (l : List ℕ) (at : ℕ) → 0 < length l
    → met_from l 0 at ≡ front_of (kind_of (get_or l 0 0)) (size_of l) at ++ behind l at (span_of (kind_of (get_or l 0 0)) (size_of l))
unfolding met_from
met_turn [] at h = absurd (omega arith)
met_turn (t ∷ r) at h =
    ap (λ (ms : List Met). front_of (kind_of t) (size_of (t ∷ r)) at ++ ms)
    (met_behind t r at (span_of (kind_of t) (size_of (t ∷ r))) (λ n e. (span_on (kind_of t) (t ∷ r) (size_of (t ∷ r)) n refl h e).0))

pub met_end : (area : List ℕ) (at : ℕ) → length area ≤ at → met_from (drop at area) 0 at ≡ []
unfolding met_from
met_end area at h = rw (drop_of_length-le area h)

-- an octet that is neither 0 nor 1 stands before an option with a length
kind_by : (t : ℕ) → (t ≡ 0 → ⊥) → (t ≡ 1 → ⊥) → kind_of t ≡ cond (eqb t 130) Basic (cond (eqb t 133) Extended (cond (eqb t 134) Cipso Other))
kind_by t n m = rw (ne_eqb t 0 n, ne_eqb t 1 m)

counted : (t : ℕ) (z : Size) (at : ℕ) → (t ≡ 0 → ⊥) → (t ≡ 1 → ⊥)
    → (span_of (kind_of t) z ≡ z) × (front_of (kind_of t) z at ≡ record { kind = kind_of t; at = at; size = z } ∷ [])
counted t z at n m = go (kind_of t) (eqb t 130) (eqb t 133) (eqb t 134) (kind_by t n m)
  where
    go : (k : Kind) (b c d : Bool) → k ≡ cond b Basic (cond c Extended (cond d Cipso Other))
        → (span_of k z ≡ z) × (front_of k z at ≡ record { kind = k; at = at; size = z } ∷ [])
    go k true c d e = rw e (refl, refl)
    go k false true d e = rw e (refl, refl)
    go k false false true e = rw e (refl, refl)
    go k false false false e = rw e (refl, refl)

-- what is judged behind it, if it passes
abbrev pub judged_behind : Bool → Bool → List ℕ → ℕ → Walk → Walk
judged_behind on lax l at (Ok w) = judged on lax (behind l at (size_of l)) w.label w.basic
judged_behind on lax l at (Err r) = Err r

pub walk_option : (on lax : Bool) (l : List ℕ) (at : ℕ) (label basic : Place) → 0 < length l → (get_or l 0 0 ≡ 0 → ⊥) → (get_or l 0 0 ≡ 1 → ⊥)
    → judged on lax (met_from l 0 at) label basic ≡ judged_behind on lax l at (judge on lax (kind_of (get_or l 0 0)) (size_of l) at label basic)
walk_option on lax l at label basic h n m =
    let q = counted (get_or l 0 0) (size_of l) at n m in
    ap (λ (ms : List Met). judged on lax ms label basic) (met_turn l at h ∙ (λ i. q.1 i ++ behind l at (q.0 i)))
    ∙ step (judge on lax (kind_of (get_or l 0 0)) (size_of l) at label basic)
  where
    step : (w : Walk) → elim w as (λ _. Walk) [ Ok w ↦ judged on lax (behind l at (size_of l)) w.label w.basic | Err r ↦ Err r ] ≡ judged_behind on lax l at w
    step (Ok w) = refl
    step (Err r) = refl

-- a turn of the loop, which stands at an octet of the area
module _ (on lax : Bool) (area : List ℕ) (at : ℕ) (label basic : Place) (h : at < length area) where
  inside : 0 < length (drop at area)
  inside = simp length-drop (omega arith)

  front : get_or (drop at area) 0 0 ≡ get_or area at 0
  front = get_or-drop at area 0 0 ∙ ap (λ (i : ℕ). get_or area i 0) (add-zero at)

  turned : (t : ℕ) → get_or area at 0 ≡ t
      → judged on lax (met_from (drop at area) 0 at) label basic
      ≡ judged on lax (front_of (kind_of t) (size_of (drop at area)) at ++ behind (drop at area) at (span_of (kind_of t) (size_of (drop at area)))) label basic
  turned t e =
      ap (λ (ms : List Met). judged on lax ms label basic) (met_turn (drop at area) at inside)
      ∙ ap (λ (t : ℕ). judged on lax (front_of (kind_of t) (size_of (drop at area)) at ++ behind (drop at area) at (span_of (kind_of t) (size_of (drop at area)))) label basic) (front ∙ e)

  -- type 0 ends the walk
  pub walk_ended : get_or area at 0 ≡ 0 → judged on lax (met_from (drop at area) 0 at) label basic ≡ Ok (places label basic)
  walk_ended e = turned 0 e

  -- over an octet of type 1 it goes on
  pub no_operation : get_or area at 0 ≡ 1
      → judged on lax (met_from (drop at area) 0 at) label basic ≡ judged on lax (met_from (drop (at + 1) area) 0 (at + 1)) label basic
  no_operation e = turned 1 e ∙ rw drop-drop

  -- any other option has a length
  module _ (n : get_or area at 0 ≡ 0 → ⊥) (m : get_or area at 0 ≡ 1 → ⊥) where
    judged_here : judged on lax (met_from (drop at area) 0 at) label basic
        ≡ judged_behind on lax (drop at area) at (judge on lax (kind_of (get_or area at 0)) (size_of (drop at area)) at label basic)
    judged_here =
        walk_option on lax (drop at area) at label basic inside (λ e. n (sym front ∙ e)) (λ e. m (sym front ∙ e))
        ∙ ap (λ (t : ℕ). judged_behind on lax (drop at area) at (judge on lax (kind_of t) (size_of (drop at area)) at label basic)) front

    pub walk_short : size_of (take (length area - at) (drop at area)) ≡ None → judged on lax (met_from (drop at area) 0 at) label basic ≡ Err (fault 3 at)
    walk_short e =
        let z : size_of (drop at area) ≡ None = rw tail_is at e in
        judged_here ∙ ap (λ (x : Size). judged_behind on lax (drop at area) at (judge on lax (kind_of (get_or area at 0)) x at label basic)) z

    module _ (k : ℕ) (e : size_of (take (length area - at) (drop at area)) ≡ Some k) where
      size : size_of (drop at area) ≡ Some k
      size = rw tail_is at e

      pub walk_moves : (2 ≤ k) × (at + k ≤ length area)
      walk_moves = let q = size_whole (drop at area) k size in (q.0, omega (arith, length-drop at area))

      judged_size : judged on lax (met_from (drop at area) 0 at) label basic
          ≡ judged_behind on lax (drop at area) at (judge on lax (kind_of (get_or area at 0)) (Some k) at label basic)
      judged_size = judged_here ∙ ap (λ (x : Size). judged_behind on lax (drop at area) at (judge on lax (kind_of (get_or area at 0)) x at label basic)) size

      pub walk_refused : (r : Fault) → Err r ≡ judge on lax (kind_of (get_or area at 0)) (Some k) at label basic
          → judged on lax (met_from (drop at area) 0 at) label basic ≡ Err r
      walk_refused r q = judged_size ∙ ap (judged_behind on lax (drop at area) at) (sym q)

      pub walk_over : (w : Places) → Ok w ≡ judge on lax (kind_of (get_or area at 0)) (Some k) at label basic
          → judged on lax (met_from (drop at area) 0 at) label basic ≡ judged on lax (met_from (drop (at + k) area) 0 (at + k)) w.label w.basic
      walk_over w q =
          judged_size ∙ ap (judged_behind on lax (drop at area) at) (sym q)
          ∙ ap (λ (x : Size). judged on lax (behind (drop at area) at x) w.label w.basic) size
          ∙ rw drop-drop

pub walk_end : (on lax : Bool) (area : List ℕ) (at : ℕ) (label basic : Place) → length area ≤ at
    → judged on lax (met_from (drop at area) 0 at) label basic ≡ Ok (places label basic)
walk_end on lax area at label basic h = ap (λ (ms : List Met). judged on lax ms label basic) (met_end area at h)

-- a refusal is 3, 4 or 5, and has the option's place
judge_refused : (on lax : Bool) (k : Kind) (z : Size) (at : ℕ) (label basic : Place) (num p : ℕ) → judge on lax k z at label basic ≡ Err (fault num p)
    → (3 ≤ num) × (num ≤ 5) × (at ≡ p)
judge_refused on lax k None at label basic num p e = let s = same_fault 3 at num p e in (omega (arith, s.0), omega (arith, s.0), s.1)
judge_refused on lax End (Some m) at label basic num p e = let z : ◌≡◌ {A = ℕ} 0 1 = cc in absurd (omega arith)
judge_refused on lax NoOperation (Some m) at label basic num p e = let z : ◌≡◌ {A = ℕ} 0 1 = cc in absurd (omega arith)
judge_refused false lax Basic (Some m) at label basic num p e = let s = same_fault 4 at num p e in (omega (arith, s.0), omega (arith, s.0), s.1)
judge_refused true lax Basic (Some m) at label None num p e = let z : ◌≡◌ {A = ℕ} 0 1 = cc in absurd (omega arith)
judge_refused true lax Basic (Some m) at label (Some x) num p e = let s = same_fault 5 at num p e in (omega (arith, s.0), omega (arith, s.0), s.1)
judge_refused on false Extended (Some m) at label basic num p e = let s = same_fault 4 at num p e in (omega (arith, s.0), omega (arith, s.0), s.1)
judge_refused on true Extended (Some m) at label basic num p e = let z : ◌≡◌ {A = ℕ} 0 1 = cc in absurd (omega arith)
judge_refused on lax Cipso (Some m) at None basic num p e = let z : ◌≡◌ {A = ℕ} 0 1 = cc in absurd (omega arith)
judge_refused on lax Cipso (Some m) at (Some x) basic num p e = let s = same_fault 5 at num p e in (omega (arith, s.0), omega (arith, s.0), s.1)
judge_refused on lax Other (Some m) at label basic num p e = let z : ◌≡◌ {A = ℕ} 0 1 = cc in absurd (omega arith)

-- the same of options that stand in an area
judged_refused : (on lax : Bool) (area : List ℕ) (ms : List Met) (label basic : Place) (num p : ℕ) → StandIn area ms → judged on lax ms label basic ≡ Err (fault num p)
    → (3 ≤ num) × (num ≤ 5) × (p < length area)
judged_refused on lax area [] label basic num p s e = let z : ◌≡◌ {A = ℕ} 0 1 = cc in absurd (omega arith)
judged_refused on lax area (m ∷ ms) label basic num p s e =
    go (judge on lax m.kind m.size m.at label basic) refl (λ l b f. judged_refused on lax area ms l b num p s.3 f) e
  where
    go : (w : Walk) → judge on lax m.kind m.size m.at label basic ≡ w
        → ((l b : Place) → judged on lax ms l b ≡ Err (fault num p) → (3 ≤ num) × (num ≤ 5) × (p < length area))
        → elim w as (λ _. Walk) [ Ok w ↦ judged on lax ms w.label w.basic | Err r ↦ Err r ] ≡ Err (fault num p) → (3 ≤ num) × (num ≤ 5) × (p < length area)
    go (Ok w) ew g e = g w.label w.basic e
    go (Err r) ew g e =
        let q = judge_refused on lax m.kind m.size m.at label basic num p (ew ∙ e) in
        (q.0, q.1, omega (arith, s.0, q.2))

pub area_refused : (on : Bool) (area : List ℕ) (num p : ℕ) → walk_of on area ≡ Err (fault num p) → (3 ≤ num) × (num ≤ 5) × (p < length area)
unfolding walk_of
area_refused on area num p e = judged_refused on false area (met_of area) None None num p (met_stand area) e

-- an option that the walk meets whole is a whole option of its kind
whole_at : (area : List ℕ) (m : Met) (k : Kind) (n : ℕ) → m.kind ≡ kind_of (get_or area m.at 0)
    → m.size ≡ span_of m.kind (size_of (drop m.at area)) → m.kind ≡ k → span_of k (size_of (drop m.at area)) ≡ size_of (drop m.at area)
    → m.size ≡ Some n → WholeAt k area m.at
whole_at area m k n ek ez ik is z =
    let g : get_or (drop m.at area) 0 0 ≡ get_or area m.at 0 = get_or-drop m.at area 0 0 ∙ ap (λ (i : ℕ). get_or area i 0) (add-zero m.at) in
    record { size = n; whole = sym is ∙ sym (ap (λ (x : Kind). span_of x (size_of (drop m.at area))) ik) ∙ sym ez ∙ z; kind = ap kind_of g ∙ sym ek ∙ ik }

-- the places that were met are those of whole options
abbrev Placed : List ℕ → Place → Place → Type 0
Placed area label basic = placed_within Cipso label area × placed_within Basic basic area

moved : (area : List ℕ) (label basic l b : Place) → Placed area label basic → label ≡ l → basic ≡ b → Placed area l b
moved area label basic l b h e f = (subst (λ (x : Place). placed_within Cipso x area) e h.0, subst (λ (x : Place). placed_within Basic x area) f h.1)

moved_on : (area : List ℕ) (label basic l b : Place) → Placed area label basic → ◌≡◌ {A = Walk} (Ok (places label basic)) (Ok (places l b)) → Placed area l b
moved_on area label basic l b h e =
    let s = same_places label basic l b e in
    moved area label basic l b h s.0 s.1

judge_placed : (on lax : Bool) (area : List ℕ) (k : Kind) (z : Size) (at : ℕ) (label basic l b : Place)
    → ((n : ℕ) → k ≡ Cipso → z ≡ Some n → WholeAt Cipso area at) → ((n : ℕ) → k ≡ Basic → z ≡ Some n → WholeAt Basic area at)
    → Placed area label basic → judge on lax k z at label basic ≡ Ok (places l b) → Placed area l b
judge_placed on lax area k None at label basic l b c d h e = let z : ◌≡◌ {A = ℕ} 0 1 = cc in absurd (omega arith)
judge_placed on lax area End (Some m) at label basic l b c d h e = moved_on area label basic l b h e
judge_placed on lax area NoOperation (Some m) at label basic l b c d h e = moved_on area label basic l b h e
judge_placed false lax area Basic (Some m) at label basic l b c d h e = let z : ◌≡◌ {A = ℕ} 0 1 = cc in absurd (omega arith)
judge_placed true lax area Basic (Some m) at label None l b c d h e =
    let s = same_places label (Some at) l b e in
    moved area label (Some at) l b (h.0, d m refl refl) s.0 s.1
judge_placed true lax area Basic (Some m) at label (Some x) l b c d h e = let z : ◌≡◌ {A = ℕ} 0 1 = cc in absurd (omega arith)
judge_placed on false area Extended (Some m) at label basic l b c d h e = let z : ◌≡◌ {A = ℕ} 0 1 = cc in absurd (omega arith)
judge_placed on true area Extended (Some m) at label basic l b c d h e = moved_on area label basic l b h e
judge_placed on lax area Cipso (Some m) at None basic l b c d h e =
    let s = same_places (Some at) basic l b e in
    moved area (Some at) basic l b (c m refl refl, h.1) s.0 s.1
judge_placed on lax area Cipso (Some m) at (Some x) basic l b c d h e = let z : ◌≡◌ {A = ℕ} 0 1 = cc in absurd (omega arith)
judge_placed on lax area Other (Some m) at label basic l b c d h e = moved_on area label basic l b h e

judged_placed : (on lax : Bool) (area : List ℕ) (ms : List Met) (label basic l b : Place) → StandIn area ms → Placed area label basic
    → judged on lax ms label basic ≡ Ok (places l b) → Placed area l b
judged_placed on lax area [] label basic l b s h e = moved_on area label basic l b h e
judged_placed on lax area (m ∷ ms) label basic l b s h e =
    go (judge on lax m.kind m.size m.at label basic) refl (λ x y g f. judged_placed on lax area ms x y l b s.3 g f) e
  where
    go : (w : Walk) → judge on lax m.kind m.size m.at label basic ≡ w
        → ((x y : Place) → Placed area x y → judged on lax ms x y ≡ Ok (places l b) → Placed area l b)
        → elim w as (λ _. Walk) [ Ok w ↦ judged on lax ms w.label w.basic | Err r ↦ Err r ] ≡ Ok (places l b) → Placed area l b
    go (Ok w) ew g e =
        g w.label w.basic
        (judge_placed on lax area m.kind m.size m.at label basic w.label w.basic
        (λ n k z. whole_at area m Cipso n s.1 s.2 k refl z) (λ n k z. whole_at area m Basic n s.1 s.2 k refl z) h ew) e
    go (Err r) ew g e = let z : ◌≡◌ {A = ℕ} 0 1 = cc in absurd (omega arith)

-- the places that the walk answers are those of a whole option 134 and of a whole option 130, check 4 left out or not
pub sound_placed : (on : Bool) (area : List ℕ) (l b : Place) → walk_of on area ≡ Ok (places l b) → placed_within Cipso l area × placed_within Basic b area
unfolding walk_of
sound_placed on area l b e = judged_placed on false area (met_of area) None None l b (met_stand area) (tt, tt) e

pub open_placed : (area : List ℕ) (l b : Place) → open_walk area ≡ Ok (places l b) → placed_within Cipso l area × placed_within Basic b area
unfolding open_walk
open_placed area l b e = judged_placed true true area (met_of area) None None l b (met_stand area) (tt, tt) e

-- where option 130 is not read, none is met
judged_off : (ms : List Met) (label basic l b : Place) → judged false false ms label basic ≡ Ok (places l b) → basic ≡ b
judged_off [] label basic l b e = (same_places label basic l b e).1
judged_off (m ∷ ms) label basic l b e = go m.kind m.size label (λ x f. judged_off ms x basic l b f) e
  where
    go : (k : Kind) (z : Size) (label : Place) → ((x : Place) → judged false false ms x basic ≡ Ok (places l b) → basic ≡ b)
        → elim (judge false false k z m.at label basic) as (λ _. Walk) [ Ok w ↦ judged false false ms w.label w.basic | Err r ↦ Err r ] ≡ Ok (places l b) → basic ≡ b
    go k None label g e = let z : ◌≡◌ {A = ℕ} 0 1 = cc in absurd (omega arith)
    go End (Some n) label g e = g label e
    go NoOperation (Some n) label g e = g label e
    go Basic (Some n) label g e = let z : ◌≡◌ {A = ℕ} 0 1 = cc in absurd (omega arith)
    go Extended (Some n) label g e = let z : ◌≡◌ {A = ℕ} 0 1 = cc in absurd (omega arith)
    go Cipso (Some n) None g e = g (Some m.at) e
    go Cipso (Some n) (Some p) g e = let z : ◌≡◌ {A = ℕ} 0 1 = cc in absurd (omega arith)
    go Other (Some n) label g e = g label e

pub off_nowhere : (area : List ℕ) (l b : Place) → walk_of false area ≡ Ok (places l b) → b ≡ None
unfolding walk_of
off_nowhere area l b e = sym (judged_off (met_of area) None None l b e)

-- the option's octets are in the list
pub whole_in : (k : Kind) (l : List ℕ) (i : ℕ) (o : WholeAt k l i) → (2 ≤ o.size) × (i + o.size ≤ length l)
whole_in k l i o =
    let q = size_whole (drop i l) o.size o.whole in
    omega (arith, length-drop i l)

-- an option of a kind that stands in the area: its length octet says how long it is
pub record Inside (k : Kind) (area : List ℕ) (at : ℕ) : Type 0 where
  pub inside : at + get_or area (at + 1) 0 ≤ length area
  pub least : 2 ≤ get_or area (at + 1) 0
  pub size : length (option_at at area) ≡ get_or area (at + 1) 0
  pub first : kind_of (get_or (option_at at area) 0 0) ≡ k
  pub second : get_or (option_at at area) 1 0 ≡ length (option_at at area)

pub whole_inside : (k : Kind) (area : List ℕ) (at : ℕ) → WholeAt k area at → Inside k area at
whole_inside k area at o =
    let i = whole_in k area at o in
    let n : get_or area (at + 1) 0 ≡ o.size = sym (get_or-drop at area 1 0) ∙ whole_size (drop at area) o.size o.whole in
    let h : get_or area (at + 1) 0 ≤ length (drop at area) = simp length-drop (omega arith) in
    let s : length (option_at at area) ≡ get_or area (at + 1) 0 = length-take-le (get_or area (at + 1) 0) (drop at area) h in
    record {
      inside = omega arith;
      least = omega arith;
      size = s;
      first = ap kind_of (get_or-take (get_or area (at + 1) 0) (drop at area) 0 0 (omega arith)) ∙ o.kind;
      second = get_or-take (get_or area (at + 1) 0) (drop at area) 1 0 (omega arith) ∙ get_or-drop at area 1 0 ∙ sym s;
    }
