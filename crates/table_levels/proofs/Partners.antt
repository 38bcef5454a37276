-- Laws of partners: they are levels, and keep the order of levels.
use mathlib.Core.Path.{◌≡◌, refl}
use mathlib.Core.Bool.{Bool, true, false, cond}
use mathlib.Core.List.{List, [], ◌∷◌}
use mathlib.Core.Logic.{◌⊎◌, inl, inr, ⊎_elim}
use Prim.Native.Nat.{ℕ, ◌+◌, ◌≤◌}
use native.Mathlib.Omega.{arith}
use lib.Dec.{leb, eqb}
use lib.ListN.{get_or}
use borrow.Author.Tests.{le-leb, leb-true, eqb-true}
use Rattle.std.specs.Prelude.{None, Some}
use Rattle.label.proofs.Bools.{and_left, and_right}
use Rattle.table_levels.specs.Levels.{Partner, levels_rise, level_numbers, partner_of, partner_number, partner_from}

-- the first pair is the level's, or the others decide
pub partner_cases : (p : List ℕ) (ps : List (List ℕ)) (v w : ℕ) → partner_of (p ∷ ps) v ≡ Some w
    → ((get_or p 0 0 ≡ v) × (get_or p 1 0 ≡ w)) ⊎ (partner_of ps v ≡ Some w)
partner_cases p ps v w e = go (eqb (get_or p 0 0) v) refl e
  where
    go : (b : Bool) → eqb (get_or p 0 0) v ≡ b → cond b (Some (get_or p 1 0)) (partner_of ps v) ≡ Some w
        → ((get_or p 0 0 ≡ v) × (get_or p 1 0 ≡ w)) ⊎ (partner_of ps v ≡ Some w)
    go true q k = inl (eqb-true _ _ q, (cc))
    go false q k = inr k

pub missing_not : (w : ℕ) → None ≡ Some w → ⊥
missing_not w e = let z : ◌≡◌ {A = ℕ} 0 1 = cc in omega arith

pub record Pair (f g v w : ℕ) : Type 0 where
  pub first : f ≤ v
  pub second : g ≤ w

-- a level and its partner lie at or above the floors
pub partner_from_lem : (f g : ℕ) (ps : List (List ℕ)) (v w : ℕ) → levels_rise f g ps ≡ true → partner_of ps v ≡ Some w → Pair f g v w
partner_from_lem f g [] v w e h = absurd (missing_not w h)
partner_from_lem f g (p ∷ ps) v w e h =
    let a : f ≤ get_or p 0 0 = leb-true _ _ (and_left (leb f (get_or p 0 0)) _ e) in
    let e1 = and_right (leb f (get_or p 0 0)) _ e in
    let b : g ≤ get_or p 1 0 = leb-true _ _ (and_left (leb g (get_or p 1 0)) _ e1) in
    let e2 = and_right (leb g (get_or p 1 0)) _ e1 in
    ⊎_elim
    (λ q. record { first = omega (arith, q.0); second = omega (arith, q.1) })
    (λ q. let r = partner_from_lem (get_or p 0 0 + 1) (get_or p 1 0 + 1) ps v w e2 q in
    record { first = omega (arith, r.first); second = omega (arith, r.second) })
    (partner_cases p ps v w h)

-- Partners keep the order of levels, both ways.
pub record Ordered (v w v' w' : ℕ) : Type 0 where
  pub to : v ≤ v' → w ≤ w'
  pub back : w ≤ w' → v ≤ v'

pub partners_order : (f g : ℕ) (ps : List (List ℕ)) (v w v' w' : ℕ) → levels_rise f g ps ≡ true → partner_of ps v ≡ Some w → partner_of ps v' ≡ Some w' → Ordered v w v' w'
partners_order f g [] v w v' w' e h k = absurd (missing_not w h)
partners_order f g (p ∷ ps) v w v' w' e h k =
    let e2 = and_right (leb g (get_or p 1 0)) _ (and_right (leb f (get_or p 0 0)) _ e) in
    ⊎_elim
    (λ q. ⊎_elim
    (λ r. record { to = λ z. omega (arith, q.0, q.1, r.0, r.1); back = λ z. omega (arith, q.0, q.1, r.0, r.1) })
    (λ r. let s = partner_from_lem (get_or p 0 0 + 1) (get_or p 1 0 + 1) ps v' w' e2 r in
    record { to = λ z. omega (arith, q.1, s.second); back = λ z. omega (arith, q.0, s.first) })
    (partner_cases p ps v' w' k))
    (λ q. ⊎_elim
    (λ r. let s = partner_from_lem (get_or p 0 0 + 1) (get_or p 1 0 + 1) ps v w e2 q in
    record { to = λ z. absurd (omega (arith, r.0, s.first)); back = λ z. absurd (omega (arith, r.1, s.second)) })
    (λ r. partners_order (get_or p 0 0 + 1) (get_or p 1 0 + 1) ps v w v' w' e2 q r)
    (partner_cases p ps v' w' k))
    (partner_cases p ps v w h)

-- A partner is a level.
pub partner_level : (ps : List (List ℕ)) (v w : ℕ) → level_numbers ps ≡ true → partner_of ps v ≡ Some w → w ≤ 255
partner_level [] v w e h = absurd (missing_not w h)
partner_level (p ∷ ps) v w e h =
    let e1 = and_right (leb (get_or p 0 0) 255) _ e in
    let b : get_or p 1 0 ≤ 255 = leb-true _ _ (and_left (leb (get_or p 1 0) 255) _ e1) in
    ⊎_elim (λ q. omega (arith, q.1)) (λ q. partner_level ps v w (and_right (leb (get_or p 1 0) 255) _ e1) q) (partner_cases p ps v w h)

-- The partner that was found, or that of the pairs that are left.
abbrev pub first_found : Partner → Partner → Partner
first_found None q = q
first_found (Some v) q = Some v

pub first_end : (q : Partner) → first_found q None ≡ q
first_end None = refl
first_end (Some v) = refl

-- The partner that such a number stands for.
pub lead_partner : (ps : List (List ℕ)) (v : ℕ) → level_numbers ps ≡ true → partner_from (partner_number (partner_of ps v)) ≡ partner_of ps v
lead_partner ps v e = go (partner_of ps v) refl
  where
    go : (p : Partner) → partner_of ps v ≡ p → partner_from (partner_number p) ≡ p
    go None q = refl
    go (Some w) q = rw (le-leb w 255 (partner_level ps v w e q))
