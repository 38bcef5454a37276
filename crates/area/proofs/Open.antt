-- Laws of the walk with check 4 left out, beside the walk of a port.
use Prim.Native.Nat.{ℕ}
use mathlib.Core.Path.{◌≡◌, refl, sym}
use mathlib.Core.Bool.{Bool, true, false}
use mathlib.Core.List.{List, [], ◌∷◌}
use mathlib.Core.Logic.{◌⊎◌, inl, inr}
use native.Mathlib.Omega.{arith}
use Rattle.area.specs.declared.Kind.{Kind}
use Rattle.area.specs.declared.Kind.TheVariants.{End, NoOperation, Basic, Extended, Cipso, Other}
use Rattle.std.specs.Prelude.{Ok, Err, Some, None}
use Rattle.area.specs.Kinds.{Place, Size, Walk, places, fault}
use Rattle.area.proofs.KindLaws.{same_fault}
use Rattle.area.specs.Turn.{judge}
use Rattle.area.specs.Area.{Met, met_of, judged, walk_of, open_walk}

-- it refuses with 3 and 5 alone
three_or_five : (ms : List Met) (label basic : Place) (num p : ℕ) → judged true true ms label basic ≡ Err (fault num p) → (num ≡ 3) ⊎ (num ≡ 5)
three_or_five [] label basic num p e = absurd (let z : ◌≡◌ {A = ℕ} 0 1 = cc in omega arith)
three_or_five (m ∷ ms) label basic num p e = go m.kind m.size label basic (λ x y f. three_or_five ms x y num p f) e
  where
    go : (k : Kind) (z : Size) (label basic : Place) → ((x y : Place) → judged true true ms x y ≡ Err (fault num p) → (num ≡ 3) ⊎ (num ≡ 5))
        → elim (judge true true k z m.at label basic) as (λ _. Walk) [ Ok w ↦ judged true true ms w.label w.basic | Err r ↦ Err r ] ≡ Err (fault num p)
        → (num ≡ 3) ⊎ (num ≡ 5)
    go k None label basic g e = inl (sym (same_fault 3 m.at num p e).0)
    go End (Some n) label basic g e = g label basic e
    go NoOperation (Some n) label basic g e = g label basic e
    go Basic (Some n) label None g e = g label (Some m.at) e
    go Basic (Some n) label (Some x) g e = inr (sym (same_fault 5 m.at num p e).0)
    go Extended (Some n) label basic g e = g label basic e
    go Cipso (Some n) None basic g e = g (Some m.at) basic e
    go Cipso (Some n) (Some x) basic g e = inr (sym (same_fault 5 m.at num p e).0)
    go Other (Some n) label basic g e = g label basic e

pub open_refused : (area : List ℕ) (num p : ℕ) → open_walk area ≡ Err (fault num p) → (num ≡ 3) ⊎ (num ≡ 5)
unfolding open_walk
open_refused area num p e = three_or_five (met_of area) None None num p e

-- where the walk of a port that reads option 130 is not refused by 4, this is that walk
judged_alike : (ms : List Met) (label basic : Place) → ((p : ℕ) → judged true false ms label basic ≡ Err (fault 4 p) → ⊥)
    → judged true true ms label basic ≡ judged true false ms label basic
judged_alike [] label basic h = refl
judged_alike (m ∷ ms) label basic h = go m.kind m.size label basic (λ x y f. judged_alike ms x y f) h
  where
    go : (k : Kind) (z : Size) (label basic : Place)
        → ((x y : Place) → ((p : ℕ) → judged true false ms x y ≡ Err (fault 4 p) → ⊥) → judged true true ms x y ≡ judged true false ms x y)
        → ((p : ℕ) → elim (judge true false k z m.at label basic) as (λ _. Walk) [ Ok w ↦ judged true false ms w.label w.basic | Err r ↦ Err r ] ≡ Err (fault 4 p) → ⊥)
        → ◌≡◌ {A = Walk} (elim (judge true true k z m.at label basic) as (λ _. Walk) [ Ok w ↦ judged true true ms w.label w.basic | Err r ↦ Err r ])
        (elim (judge true false k z m.at label basic) as (λ _. Walk) [ Ok w ↦ judged true false ms w.label w.basic | Err r ↦ Err r ])
    go k None label basic g h = refl
    go End (Some n) label basic g h = g label basic h
    go NoOperation (Some n) label basic g h = g label basic h
    go Basic (Some n) label None g h = g label (Some m.at) h
    go Basic (Some n) label (Some x) g h = refl
    go Extended (Some n) label basic g h = absurd (h m.at refl)
    go Cipso (Some n) None basic g h = g (Some m.at) basic h
    go Cipso (Some n) (Some x) basic g h = refl
    go Other (Some n) label basic g h = g label basic h

pub open_alike : (area : List ℕ) → ((p : ℕ) → walk_of true area ≡ Err (fault 4 p) → ⊥) → open_walk area ≡ walk_of true area
unfolding open_walk walk_of
open_alike area h = judged_alike (met_of area) None None h

-- where the walk of a port is sound, whether it reads option 130 or not, this walk answers the same
judged_open : (on : Bool) (ms : List Met) (label basic l b : Place) → judged on false ms label basic ≡ Ok (places l b) → judged true true ms label basic ≡ Ok (places l b)
judged_open on [] label basic l b e = e
judged_open on (m ∷ ms) label basic l b e = go on m.kind m.size label basic (λ x y f. judged_open on ms x y l b f) e
  where
    go : (t : Bool) (k : Kind) (z : Size) (label basic : Place)
        → ((x y : Place) → judged on false ms x y ≡ Ok (places l b) → judged true true ms x y ≡ Ok (places l b))
        → elim (judge t false k z m.at label basic) as (λ _. Walk) [ Ok w ↦ judged on false ms w.label w.basic | Err r ↦ Err r ] ≡ Ok (places l b)
        → elim (judge true true k z m.at label basic) as (λ _. Walk) [ Ok w ↦ judged true true ms w.label w.basic | Err r ↦ Err r ] ≡ Ok (places l b)
    go t k None label basic g e = absurd (let z : ◌≡◌ {A = ℕ} 0 1 = cc in omega arith)
    go t End (Some n) label basic g e = g label basic e
    go t NoOperation (Some n) label basic g e = g label basic e
    go true Basic (Some n) label None g e = g label (Some m.at) e
    go true Basic (Some n) label (Some x) g e = absurd (let z : ◌≡◌ {A = ℕ} 0 1 = cc in omega arith)
    go false Basic (Some n) label basic g e = absurd (let z : ◌≡◌ {A = ℕ} 0 1 = cc in omega arith)
    go t Extended (Some n) label basic g e = absurd (let z : ◌≡◌ {A = ℕ} 0 1 = cc in omega arith)
    go t Cipso (Some n) None basic g e = g (Some m.at) basic e
    go t Cipso (Some n) (Some x) basic g e = absurd (let z : ◌≡◌ {A = ℕ} 0 1 = cc in omega arith)
    go t Other (Some n) label basic g e = g label basic e

pub sound_open : (on : Bool) (area : List ℕ) (l b : Place) → walk_of on area ≡ Ok (places l b) → open_walk area ≡ Ok (places l b)
unfolding open_walk walk_of
sound_open on area l b e = judged_open on (met_of area) None None l b e
