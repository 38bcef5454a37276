-- Laws of level pairs turned round.
use mathlib.Core.Path.{◌≡◌, refl, ap}
use mathlib.Core.Bool.{Bool, true, false, ◌&&◌}
use mathlib.Core.List.{List, [], ◌∷◌}
use mathlib.Core.Logic.{⊎_elim}
use Prim.Native.Nat.{ℕ, zero, suc, ◌+◌}
use native.Mathlib.Omega.{arith}
use lib.Dec.{leb, eqb}
use lib.ListN.{length, take, drop, get_or}
use borrow.Author.Tests.{eqb-true, eq-eqb, ne_eqb}
use Rattle.std.specs.Prelude.{Some}
use Rattle.label.proofs.Bools.{and_left, and_right}
use Rattle.table_levels.specs.Levels.{levels_rise, unused_pairs, level_numbers, partner_of}
use Rattle.table_levels.proofs.Partners.{partner_cases, missing_not, partner_from_lem}
use Rattle.renumber_reverse.specs.Reverse.{turned_pair, turned_levels, in_twos}

and_swap : (a b c : Bool) → (a && (b && c)) ≡ (b && (a && c))
and_swap true b c = refl
and_swap false true c = refl
and_swap false false c = refl

pub take_turned : (n : ℕ) (ls : List (List ℕ)) → take n (turned_levels ls) ≡ turned_levels (take n ls)
take_turned zero ls = refl
take_turned (suc n) [] = refl
take_turned (suc n) (p ∷ ps) = ap (λ (z : List (List ℕ)). turned_pair p ∷ z) (take_turned n ps)

pub drop_turned : (n : ℕ) (ls : List (List ℕ)) → drop n (turned_levels ls) ≡ turned_levels (drop n ls)
drop_turned zero ls = refl
drop_turned (suc n) [] = refl
drop_turned (suc n) (p ∷ ps) = drop_turned n ps

pub levels_rise_lem : (f g : ℕ) (ps : List (List ℕ)) → levels_rise g f (turned_levels ps) ≡ levels_rise f g ps
levels_rise_lem f g [] = refl
levels_rise_lem f g (p ∷ ps) =
    rw (levels_rise_lem (get_or p 0 0 + 1) (get_or p 1 0 + 1) ps)
    (and_swap (leb g (get_or p 1 0)) (leb f (get_or p 0 0)) (levels_rise (get_or p 0 0 + 1) (get_or p 1 0 + 1) ps))

pub pairs_unused : (ps : List (List ℕ)) → unused_pairs (turned_levels ps) ≡ unused_pairs ps
pairs_unused [] = refl
pairs_unused (p ∷ ps) = rw (pairs_unused ps) (and_swap (eqb (get_or p 1 0) 0) (eqb (get_or p 0 0) 0) (unused_pairs ps))

pub pairs_numbers : (ps : List (List ℕ)) → level_numbers (turned_levels ps) ≡ level_numbers ps
pairs_numbers [] = refl
pairs_numbers (p ∷ ps) = rw (pairs_numbers ps) (and_swap (leb (get_or p 1 0) 255) (leb (get_or p 0 0) 255) (level_numbers ps))

-- the partner's partner is the level
pub partner_back : (f g : ℕ) (ps : List (List ℕ)) (v w : ℕ) → levels_rise f g ps ≡ true → partner_of ps v ≡ Some w → partner_of (turned_levels ps) w ≡ Some v
partner_back f g [] v w e h = absurd (missing_not w h)
partner_back f g (p ∷ ps) v w e h =
    let e2 = and_right (leb g (get_or p 1 0)) _ (and_right (leb f (get_or p 0 0)) _ e) in
    ⊎_elim
    (λ q. rw (eq-eqb (get_or p 1 0) w q.1) (ap Some q.0))
    (λ q. let s = partner_from_lem (get_or p 0 0 + 1) (get_or p 1 0 + 1) ps v w e2 q in
    rw (ne_eqb (get_or p 1 0) w (λ z. omega (arith, s.second))) (partner_back (get_or p 0 0 + 1) (get_or p 1 0 + 1) ps v w e2 q))
    (partner_cases p ps v w h)

pair_twice : (p : List ℕ) → length p ≡ 2 → turned_pair (turned_pair p) ≡ p
pair_twice [] e = absurd (omega arith)
pair_twice (a ∷ []) e = absurd (omega arith)
pair_twice (a ∷ b ∷ []) e = refl
pair_twice (a ∷ b ∷ c ∷ p) e = absurd (omega arith)

pub levels_twice : (ls : List (List ℕ)) → in_twos ls ≡ true → turned_levels (turned_levels ls) ≡ ls
levels_twice [] e = refl
levels_twice (p ∷ ps) e =
    let a = pair_twice p (eqb-true _ _ (and_left (eqb (length p) 2) _ e)) in
    let b = levels_twice ps (and_right (eqb (length p) 2) _ e) in
    λ i. a i ∷ b i
