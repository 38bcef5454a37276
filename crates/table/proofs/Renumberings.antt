-- Laws of level pairs that are taken one by one.
use mathlib.Core.Bool.{true}
use mathlib.Core.List.{List, [], ◌∷◌, ◌++◌, map}
use mathlib.Core.Path.{◌≡◌, refl, ap}
use Prim.Native.Nat.{ℕ, zero, suc, ◌+◌, ◌<◌}
use native.Mathlib.Numerals.{add-one}
use native.Mathlib.Omega.{arith}
use lib.Dec.{eqb}
use lib.ListN.{length, get_or, set, take}
use lib.Seq.{take-suc}
use borrow.Author.Tests.{eq-eqb}
use Rattle.label.proofs.Bools.{and_left, and_right}
use Rattle.table_levels.specs.declared.LevelPair.{LevelPair}
use Rattle.table.specs.declared.Renumbering.{Renumbering}
use Rattle.table.specs.Renumbering.{two_each, typed_pairs}

-- what an array holds past its end, of which nothing is known
abbrev pub out_pair : LevelPair
out_pair = record { levels = [] }

abbrev pub out_table : Renumbering
out_table = record { table = record { from = 0; to = 0; pairs = 0; count = 0 }; levels = [] }

pub two_more : (ps : List LevelPair) (i : ℕ) (d : LevelPair) → i < length ps → length (get_or ps i d).levels ≡ 2 → two_each (take i ps) ≡ true → two_each (take (i + 1) ps) ≡ true
two_more ps i d h e t = rw (add-one, take-suc ps i d h) (go (take i ps) t)
  where
    go : (qs : List LevelPair) → two_each qs ≡ true → two_each (qs ++ (get_or ps i d ∷ [])) ≡ true
    go [] t = rw (eq-eqb _ _ e)
    go (q ∷ qs) t = rw (and_left (eqb (length q.levels) 2) _ t) (go qs (and_right (eqb (length q.levels) 2) _ t))

pub levels_more : (ps : List LevelPair) (i : ℕ) (d : LevelPair) → i < length ps → map (λ p. p.levels) (take (i + 1) ps) ≡ map (λ p. p.levels) (take i ps) ++ ((get_or ps i d).levels ∷ [])
levels_more ps i d h = rw (add-one, take-suc ps i d h) (go (take i ps))
  where
    go : (qs : List LevelPair) → map (λ p. p.levels) (qs ++ (get_or ps i d ∷ [])) ≡ map (λ p. p.levels) qs ++ ((get_or ps i d).levels ∷ [])
    go [] = refl
    go (q ∷ qs) = ap (λ (l : List (List ℕ)). q.levels ∷ l) (go qs)

pub typed_pairs_lem : (r : Renumbering) → length r.levels ≡ 256 → two_each r.levels ≡ true → typed_pairs r ≡ true
unfolding typed_pairs
typed_pairs_lem r e t = rw (eq-eqb _ _ e) t

pub put_next : {A : Type 0} (l : List A) (i : ℕ) (x : A) → i < length l → take (i + 1) (set l i x) ≡ take i l ++ (x ∷ [])
put_next {A} l i x h = rw (add-one i) (go l i h)
  where
    go : (l : List A) (i : ℕ) → i < length l → take (suc i) (set l i x) ≡ take i l ++ (x ∷ [])
    go [] i h = absurd (omega arith)
    go (y ∷ ys) zero h = refl
    go (y ∷ ys) (suc i) h = ap (λ (z : List A). y ∷ z) (go ys i (omega arith))
