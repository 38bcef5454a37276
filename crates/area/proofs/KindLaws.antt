-- Laws of an option's type and length.
use Prim.Native.Nat.{ℕ, ◌≤◌}
use mathlib.Core.Path.{◌≡◌, refl, ap}
use mathlib.Core.List.{List}
use mathlib.Core.Bool.{Bool, true, false, cond}
use native.Mathlib.Omega.{arith}
use borrow.Author.Tests.{ltb-false, leb-true, eqb-true}
use lib.ListN.{length, get_or}
use lib.Dec.{ltb, leb, eqb}
use Rattle.area.specs.declared.Kind.TheVariants.{End, NoOperation, Basic, Extended, Cipso, Other}
use Rattle.std.specs.Prelude.{Ok, Err, Some, None}
use Rattle.area.specs.declared.Places.{Places}
use Rattle.area.specs.declared.Fault.{Fault}
use Rattle.area.specs.Kinds.{Place, Walk, places, fault, kind_of, size_of}

-- an option of n octets is at least 2 long, and in the list
pub size_whole : (l : List ℕ) (n : ℕ) → size_of l ≡ Some n → (2 ≤ n) × (n ≤ length l)
size_whole l n e = go (ltb (length l) 2) (ltb (get_or l 1 0) 2) (leb (get_or l 1 0) (length l)) refl refl refl e
  where
    m : ℕ
    m = get_or l 1 0

    go :
        (a b d : Bool) → ltb (length l) 2 ≡ a → ltb (get_or l 1 0) 2 ≡ b → leb (get_or l 1 0) (length l) ≡ d
        → cond a None (cond b None (cond d (Some (get_or l 1 0)) None)) ≡ Some n → (2 ≤ n) × (n ≤ length l)
    go true b d pa pb pd e = let z : ◌≡◌ {A = ℕ} 0 1 = cc in omega arith
    go false true d pa pb pd e = let z : ◌≡◌ {A = ℕ} 0 1 = cc in omega arith
    go false false false pa pb pd e = let z : ◌≡◌ {A = ℕ} 0 1 = cc in omega arith
    go false false true pa pb pd e =
        let q : get_or l 1 0 ≡ n = cc in
        (omega (arith, ltb-false (get_or l 1 0) 2 pb), omega (arith, leb-true (get_or l 1 0) (length l) pd))

-- the length of a whole option is its length octet
pub whole_size : (l : List ℕ) (n : ℕ) → size_of l ≡ Some n → get_or l 1 0 ≡ n
whole_size l n e = go (ltb (length l) 2) (ltb (get_or l 1 0) 2) (leb (get_or l 1 0) (length l)) e
  where
    go : (a b d : Bool) → cond a None (cond b None (cond d (Some (get_or l 1 0)) None)) ≡ Some n → get_or l 1 0 ≡ n
    go true b d e = let z : ◌≡◌ {A = ℕ} 0 1 = cc in absurd (omega arith)
    go false true d e = let z : ◌≡◌ {A = ℕ} 0 1 = cc in absurd (omega arith)
    go false false false e = let z : ◌≡◌ {A = ℕ} 0 1 = cc in absurd (omega arith)
    go false false true e = cc

-- type 134
pub cipso_octet : (t : ℕ) → kind_of t ≡ Cipso → t ≡ 134
cipso_octet t e = go (eqb t 0) (eqb t 1) (eqb t 130) (eqb t 133) (eqb t 134) refl e
  where
    go : (a b c d f : Bool) → eqb t 134 ≡ f → cond a End (cond b NoOperation (cond c Basic (cond d Extended (cond f Cipso Other)))) ≡ Cipso → t ≡ 134
    go true b c d f q e = let z : ◌≡◌ {A = ℕ} 0 1 = cc in absurd (omega arith)
    go false true c d f q e = let z : ◌≡◌ {A = ℕ} 0 1 = cc in absurd (omega arith)
    go false false true d f q e = let z : ◌≡◌ {A = ℕ} 0 1 = cc in absurd (omega arith)
    go false false false true f q e = let z : ◌≡◌ {A = ℕ} 0 1 = cc in absurd (omega arith)
    go false false false false true q e = eqb-true t 134 q
    go false false false false false q e = let z : ◌≡◌ {A = ℕ} 0 1 = cc in absurd (omega arith)

-- type 130
pub basic_octet : (t : ℕ) → kind_of t ≡ Basic → t ≡ 130
basic_octet t e = go (eqb t 0) (eqb t 1) (eqb t 130) (eqb t 133) (eqb t 134) refl e
  where
    go : (a b c d f : Bool) → eqb t 130 ≡ c → cond a End (cond b NoOperation (cond c Basic (cond d Extended (cond f Cipso Other)))) ≡ Basic → t ≡ 130
    go true b c d f q e = let z : ◌≡◌ {A = ℕ} 0 1 = cc in absurd (omega arith)
    go false true c d f q e = let z : ◌≡◌ {A = ℕ} 0 1 = cc in absurd (omega arith)
    go false false true d f q e = eqb-true t 130 q
    go false false false true f q e = let z : ◌≡◌ {A = ℕ} 0 1 = cc in absurd (omega arith)
    go false false false false true q e = let z : ◌≡◌ {A = ℕ} 0 1 = cc in absurd (omega arith)
    go false false false false false q e = let z : ◌≡◌ {A = ℕ} 0 1 = cc in absurd (omega arith)

-- what is the same of two answers of a walk
pub same_places : (l b x y : Place) → ◌≡◌ {A = Walk} (Ok (places l b)) (Ok (places x y)) → (l ≡ x) × (b ≡ y)
same_places l b x y e = let q : places l b ≡ places x y = cc in (ap (λ (w : Places). w.label) q, ap (λ (w : Places). w.basic) q)

pub same_fault : (n a m b : ℕ) → ◌≡◌ {A = Walk} (Err (fault n a)) (Err (fault m b)) → (n ≡ m) × (a ≡ b)
same_fault n a m b e = let q : fault n a ≡ fault m b = cc in (ap (λ (r : Fault). r.number) q, ap (λ (r : Fault). r.at) q)
