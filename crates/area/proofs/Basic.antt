-- The option 130 that the walk meets, by its octets.
use Prim.Native.Nat.{ℕ, ◌+◌}
use mathlib.Core.Path.{◌≡◌, refl, sym, ap, ◌∙◌}
use mathlib.Core.Bool.{Bool, true, false}
use mathlib.Core.List.{List, [], ◌∷◌}
use mathlib.Core.Option.{Option, none, some}
use native.Mathlib.Omega.{arith}
use lib.ListN.{get_or, take, drop}
use lib.Seq.{get_or-drop}
use Rattle.area.specs.declared.Kind.{Kind}
use Rattle.area.specs.declared.Kind.TheVariants.{End, NoOperation, Basic, Extended, Cipso, Other}
use Rattle.std.specs.Prelude.{Ok, Err, Some, None}
use Rattle.area.specs.Kinds.{Place, Size, Walk, places}
use Rattle.area.specs.Kinds.{size_of}
use Rattle.area.specs.Turn.{judge}
use Rattle.area.specs.Area.{Met, span_of, met_of, judged, walk_of, octets_at}
use Rattle.area.specs.Meets.{StandIn}
use Rattle.area.proofs.KindLaws.{whole_size, same_places}
use Rattle.area.proofs.Meets.{met_stand}

-- the octets of the first option 130 among those met, if there is one
abbrev pub basic_front : List ℕ → Kind → Size → ℕ → Option (List ℕ) → Option (List ℕ)
basic_front area End z at rest = rest
basic_front area NoOperation z at rest = rest
basic_front area Basic (Some n) at rest = some (take n (drop at area))
basic_front area Basic None at rest = rest
basic_front area Extended z at rest = rest
basic_front area Cipso z at rest = rest
basic_front area Other z at rest = rest

abbrev pub basic_among : List ℕ → List Met → Option (List ℕ)
basic_among area [] = none
basic_among area (m ∷ ms) = basic_front area m.kind m.size m.at (basic_among area ms)

-- behind one that was met there is none
pub met_once : (on : Bool) (area : List ℕ) (ms : List Met) (label l b : Place) (p : ℕ) → judged on false ms label (Some p) ≡ Ok (places l b)
    → (basic_among area ms ≡ none) × (Some p ≡ b)
met_once on area [] label l b p e = (refl, (same_places label (Some p) l b e).1)
met_once on area (m ∷ ms) label l b p e = go on m.kind m.size label (λ x f. met_once on area ms x l b p f) e
  where
    go : (t : Bool) (k : Kind) (z : Size) (label : Place)
        → ((x : Place) → judged on false ms x (Some p) ≡ Ok (places l b) → (basic_among area ms ≡ none) × (Some p ≡ b))
        → elim (judge t false k z m.at label (Some p)) as (λ _. Walk) [ Ok w ↦ judged on false ms w.label w.basic | Err r ↦ Err r ] ≡ Ok (places l b)
        → (basic_front area k z m.at (basic_among area ms) ≡ none) × (Some p ≡ b)
    go t End None label g e = let z : ◌≡◌ {A = ℕ} 0 1 = cc in absurd (omega arith)
    go t NoOperation None label g e = let z : ◌≡◌ {A = ℕ} 0 1 = cc in absurd (omega arith)
    go t Basic None label g e = let z : ◌≡◌ {A = ℕ} 0 1 = cc in absurd (omega arith)
    go t Extended None label g e = let z : ◌≡◌ {A = ℕ} 0 1 = cc in absurd (omega arith)
    go t Cipso None label g e = let z : ◌≡◌ {A = ℕ} 0 1 = cc in absurd (omega arith)
    go t Other None label g e = let z : ◌≡◌ {A = ℕ} 0 1 = cc in absurd (omega arith)
    go t End (Some n) label g e = g label e
    go t NoOperation (Some n) label g e = g label e
    go false Basic (Some n) label g e = let z : ◌≡◌ {A = ℕ} 0 1 = cc in absurd (omega arith)
    go true Basic (Some n) label g e = let z : ◌≡◌ {A = ℕ} 0 1 = cc in absurd (omega arith)
    go t Extended (Some n) label g e = let z : ◌≡◌ {A = ℕ} 0 1 = cc in absurd (omega arith)
    go t Cipso (Some n) None g e = g (Some m.at) e
    go t Cipso (Some n) (Some x) g e = let z : ◌≡◌ {A = ℕ} 0 1 = cc in absurd (omega arith)
    go t Other (Some n) label g e = g label e

-- the place that the walk answers is that of the first one
judged_basic : (on : Bool) (area : List ℕ) (ms : List Met) (label l b : Place) → StandIn area ms → judged on false ms label None ≡ Ok (places l b)
    → octets_at b area ≡ basic_among area ms
judged_basic on area [] label l b s e = let q : b ≡ None = sym (same_places label None l b e).1 in rw q
judged_basic on area (m ∷ ms) label l b s e =
    go on m.kind m.size label s.2 (λ x f. judged_basic on area ms x l b s.3 f) (λ x f. met_once on area ms x l b m.at f) e
  where
    at_octets : (n : ℕ) → Some n ≡ size_of (drop m.at area) → Some m.at ≡ b → octets_at b area ≡ some (take n (drop m.at area))
    at_octets n z q =
        let k : get_or area (m.at + 1) 0 ≡ n = sym (get_or-drop m.at area 1 0) ∙ whole_size (drop m.at area) n (sym z) in
        ap (λ (x : Place). octets_at x area) (sym q) ∙ ap (λ (i : ℕ). some (take i (drop m.at area))) k

    go : (t : Bool) (k : Kind) (z : Size) (label : Place) → z ≡ span_of k (size_of (drop m.at area))
        → ((x : Place) → judged on false ms x None ≡ Ok (places l b) → octets_at b area ≡ basic_among area ms)
        → ((x : Place) → judged on false ms x (Some m.at) ≡ Ok (places l b) → (basic_among area ms ≡ none) × (Some m.at ≡ b))
        → elim (judge t false k z m.at label None) as (λ _. Walk) [ Ok w ↦ judged on false ms w.label w.basic | Err r ↦ Err r ] ≡ Ok (places l b)
        → octets_at b area ≡ basic_front area k z m.at (basic_among area ms)
    go t End None label y g h e = let z : ◌≡◌ {A = ℕ} 0 1 = cc in absurd (omega arith)
    go t NoOperation None label y g h e = let z : ◌≡◌ {A = ℕ} 0 1 = cc in absurd (omega arith)
    go t Basic None label y g h e = let z : ◌≡◌ {A = ℕ} 0 1 = cc in absurd (omega arith)
    go t Extended None label y g h e = let z : ◌≡◌ {A = ℕ} 0 1 = cc in absurd (omega arith)
    go t Cipso None label y g h e = let z : ◌≡◌ {A = ℕ} 0 1 = cc in absurd (omega arith)
    go t Other None label y g h e = let z : ◌≡◌ {A = ℕ} 0 1 = cc in absurd (omega arith)
    go t End (Some n) label y g h e = g label e
    go t NoOperation (Some n) label y g h e = g label e
    go false Basic (Some n) label y g h e = let z : ◌≡◌ {A = ℕ} 0 1 = cc in absurd (omega arith)
    go true Basic (Some n) label y g h e = at_octets n y (h label e).1
    go t Extended (Some n) label y g h e = let z : ◌≡◌ {A = ℕ} 0 1 = cc in absurd (omega arith)
    go t Cipso (Some n) None y g h e = g (Some m.at) e
    go t Cipso (Some n) (Some x) y g h e = let z : ◌≡◌ {A = ℕ} 0 1 = cc in absurd (omega arith)
    go t Other (Some n) label y g h e = g label e

pub walk_basic : (on : Bool) (area : List ℕ) (l b : Place) → walk_of on area ≡ Ok (places l b) → octets_at b area ≡ basic_among area (met_of area)
unfolding walk_of
walk_basic on area l b e = judged_basic on area (met_of area) None l b (met_stand area) e
