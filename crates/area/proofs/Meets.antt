-- The options that the walk meets stand in the area.
use Prim.Native.Nat.{ℕ, zero, suc, pred, ◌+◌, ◌<◌}
use mathlib.Core.Path.{◌≡◌, refl, sym, ap, ◌∙◌}
use mathlib.Core.List.{List, [], ◌∷◌, ◌++◌}
use native.Mathlib.Nat.{add-zero}
use native.Mathlib.Omega.{arith}
use lib.ListN.{length, get_or, drop, length-drop}
use lib.Seq.{drop-drop, get_or-drop}
use Rattle.area.specs.declared.Kind.{Kind}
use Rattle.area.specs.declared.Kind.TheVariants.{End, NoOperation, Basic, Extended, Cipso, Other}
use Rattle.std.specs.Prelude.{Some, None}
use Rattle.area.specs.Kinds.{Size}
use Rattle.area.specs.Kinds.{kind_of, size_of}
use Rattle.area.specs.Area.{Met, span_of, front_of, met_from, met_of}
use Rattle.area.specs.Meets.{StandIn, MetStand}

-- one octet further on
pub next_octet : (area : List ℕ) (at t : ℕ) (r : List ℕ) → drop at area ≡ t ∷ r → drop (suc at) area ≡ r
next_octet area at t r e =
    let n : suc at ≡ at + 1 = omega arith in
    ap (λ (i : ℕ). drop i area) n ∙ sym (drop-drop 1 at area) ∙ ap (drop 1) e

stand_by : (area r : List ℕ) (at t : ℕ) (k : Kind) (z : Size) → drop at area ≡ t ∷ r → k ≡ kind_of t → z ≡ size_of (t ∷ r)
    → ((n : ℕ) → StandIn area (met_from r (pred n) (suc at)))
    → StandIn area (front_of k z at ++ elim (span_of k z) as (λ _. List Met) [ Some n ↦ met_from r (pred n) (suc at) | None ↦ [] ])
stand_by area r at t k z e ek ez g = go k z ek ez
  where
    inside : at < length area
    inside = omega (arith, length-drop at area, ap length e)

    octet : kind_of t ≡ kind_of (get_or area at 0)
    octet = ap kind_of (ap (λ (l : List ℕ). get_or l 0 0) (sym e) ∙ get_or-drop at area 0 0 ∙ ap (λ (n : ℕ). get_or area n 0) (add-zero at))

    sized : size_of (t ∷ r) ≡ size_of (drop at area)
    sized = ap size_of (sym e)

    go : (k : Kind) (z : Size) → k ≡ kind_of t → z ≡ size_of (t ∷ r)
        → StandIn area (front_of k z at ++ elim (span_of k z) as (λ _. List Met) [ Some n ↦ met_from r (pred n) (suc at) | None ↦ [] ])
    go End z ek ez = tt
    go NoOperation z ek ez = (inside, ek ∙ octet, refl, g 1)
    go Basic (Some n) ek ez = (inside, ek ∙ octet, ez ∙ sized, g n)
    go Basic None ek ez = (inside, ek ∙ octet, ez ∙ sized, tt)
    go Extended (Some n) ek ez = (inside, ek ∙ octet, ez ∙ sized, g n)
    go Extended None ek ez = (inside, ek ∙ octet, ez ∙ sized, tt)
    go Cipso (Some n) ek ez = (inside, ek ∙ octet, ez ∙ sized, g n)
    go Cipso None ek ez = (inside, ek ∙ octet, ez ∙ sized, tt)
    go Other (Some n) ek ez = (inside, ek ∙ octet, ez ∙ sized, g n)
    go Other None ek ez = (inside, ek ∙ octet, ez ∙ sized, tt)

stand_from : (area l : List ℕ) (k at : ℕ) → drop at area ≡ l → StandIn area (met_from l k at)
unfolding met_from
stand_from area [] k at e = tt
stand_from area (t ∷ r) (suc k) at e = stand_from area r k (suc at) (next_octet area at t r e)
stand_from area (t ∷ r) zero at e =
    stand_by area r at t (kind_of t) (size_of (t ∷ r)) e refl refl (λ n. stand_from area r (pred n) (suc at) (next_octet area at t r e))

pub met_stand : MetStand
unfolding met_of
met_stand area = stand_from area area 0 0 refl
