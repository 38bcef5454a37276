-- The walk of zeros, and of an area that starts with a whole option 134.
use Prim.Native.Nat.{ℕ, zero, suc, ◌+◌, ◌≤◌}
use mathlib.Core.Path.{◌≡◌, refl, ap, ◌∙◌}
use mathlib.Core.Bool.{Bool, false}
use mathlib.Core.List.{List, [], ◌++◌}
use native.Mathlib.Nat.{zero-add}
use native.Mathlib.Omega.{arith}
use borrow.Author.Tests.{le-ltb, le-leb}
use lib.ListN.{length, get_or, replicate, length-append, get_or-append}
use lib.Seq.{drop-append_seam}
use Rattle.area.specs.declared.Kind.TheVariants.{Cipso}
use Rattle.std.specs.Prelude.{Ok, Some, None}
use Rattle.area.specs.Kinds.{kind_of, size_of, places}
use Rattle.area.specs.Area.{met_from, met_of, judged, walk_of}
use Rattle.area.specs.Turn.{judge}
use Rattle.area.proofs.Laws.{judged_behind, walk_option}

-- zeros end the walk
pub zeros_met : (z at : ℕ) → met_from (replicate z 0) 0 at ≡ []
unfolding met_from
zeros_met zero at = refl
zeros_met (suc z) at = refl

pub label_first : (on : Bool) (o rest : List ℕ) → get_or o 0 0 ≡ 134 → get_or o 1 0 ≡ length o → 2 ≤ length o
    → walk_of on (o ++ rest) ≡ judged on false (met_from rest 0 (length o)) (Some 0) None
unfolding walk_of met_of
label_first on o rest h0 h1 h2 =
    let la : length (o ++ rest) ≡ length o + length rest = length-append o rest in
    let g1 : get_or (o ++ rest) 1 0 ≡ length o = get_or-append o rest 0 1 (omega arith) ∙ h1 in
    let k : kind_of (get_or (o ++ rest) 0 0) ≡ Cipso = rw (get_or-append o rest 0 0 (omega arith), h0) in
    let z : size_of (o ++ rest) ≡ Some (length o) =
    rw (le-ltb (length (o ++ rest)) 2 (omega arith), g1, le-ltb (length o) 2 h2, le-leb (length o) (length (o ++ rest)) (omega arith)) in
    let t : judge on false (kind_of (get_or (o ++ rest) 0 0)) (size_of (o ++ rest)) 0 None None ≡ Ok (places (Some 0) None) = rw (k, z) in
    let f : get_or (o ++ rest) 0 0 ≡ 134 = get_or-append o rest 0 0 (omega arith) ∙ h0 in
    walk_option on false (o ++ rest) 0 None None (omega arith) (λ e. omega (arith, f, e)) (λ e. omega (arith, f, e))
    ∙ ap (judged_behind on false (o ++ rest) 0) t ∙ rw z (rw (drop-append_seam, zero-add))
