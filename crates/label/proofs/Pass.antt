-- Laws of one pass over two lists of runs: what a turn leaves, and that of spaced lists it is the subset test.
use mathlib.Core.Path.{◌≡◌, refl, sym, ◌∙◌}
use mathlib.Core.Bool.{Bool, true, false, cond, ◌&&◌}
use mathlib.Core.List.{List, [], ◌∷◌, map}
use Rattle.std.proofs.lemmas.List.{map-id}
use Prim.Native.Nat.{ℕ, ◌+◌, ◌≤◌, ◌<◌}
use native.Mathlib.Omega.{arith}
use native.Mathlib.Decide.{dec_le}
use lib.Dec.{leb}
use lib.ListN.{length}
use borrow.Author.Tests.{leb-true, le-leb, lt-leb}
use Rattle.label.specs.declared.Run.{Run}
use Rattle.label.specs.Runs.{spaced, subset, passes, rounds}
use Rattle.label.proofs.Bools.{never, and_left, and_right, same_yes}
use Rattle.label.proofs.Runs.{Sub, first, skip, more, fewer, inside, sub_nil, sub_none, sub_before, sub_past, subset_sub, sub_subset}

-- One turn.
module _ (x y : Run) (xs ys : List Run) where
  pub passes_over : y.high < x.low → passes (x ∷ xs) (y ∷ ys) ≡ passes (x ∷ xs) ys
  passes_over h = simp (lt-leb x.low y.high h)

  pub passes_in : x.low ≤ y.high → y.low ≤ x.low → x.high ≤ y.high → passes (x ∷ xs) (y ∷ ys) ≡ passes xs (y ∷ ys)
  passes_in h k l = simp (le-leb x.low y.high h, le-leb y.low x.low k, le-leb x.high y.high l)

-- What passes is covered, spaced or not.
pub passes_sub : (xs ys : List Run) → passes xs ys ≡ true → Sub xs ys
passes_sub [] ys e = sub_nil ys
passes_sub (x ∷ xs) [] e = absurd (never (sym e))
passes_sub (x ∷ xs) (y ∷ ys) e = go (leb x.low y.high) e (passes_sub xs (y ∷ ys)) (passes_sub (x ∷ xs) ys)
  where
    go : (t : Bool) → cond t (leb y.low x.low && (leb x.high y.high && passes xs (y ∷ ys))) (passes (x ∷ xs) ys) ≡ true
        → (passes xs (y ∷ ys) ≡ true → Sub xs (y ∷ ys)) → (passes (x ∷ xs) ys ≡ true → Sub (x ∷ xs) ys) → Sub (x ∷ xs) (y ∷ ys)
    go true q on over =
        let q1 = and_right (leb y.low x.low) _ q in
        inside x xs y ys (leb-true _ _ (and_left (leb y.low x.low) _ q)) (leb-true _ _ (and_left (leb x.high y.high) _ q1)) (on (and_right (leb x.high y.high) _ q1))
    go false q on over = more y (x ∷ xs) ys (over q)

-- What is covered passes, where both are spaced.
pub sub_passes : (f g : ℕ) (xs ys : List Run) → spaced f xs ≡ true → spaced g ys ≡ true → Sub xs ys → passes xs ys ≡ true
sub_passes f g [] ys d e h = refl
sub_passes f g (x ∷ xs) [] d e h = absurd (sub_none f x xs d h)
sub_passes f g (x ∷ xs) (y ∷ ys) d e h =
    let p = first f x xs d in
    let q = first g y ys e in
    elim (dec_le x.low y.high) [
      | yes u ↦
          elim (dec_le y.low x.low) [
            | yes v ↦
                elim (dec_le x.high y.high) [
                  | yes w ↦ passes_in x y xs ys u v w ∙ sub_passes (x.high + 2) g xs (y ∷ ys) p.rest e (fewer x xs (y ∷ ys) h)
                  | no w ↦ absurd (sub_past f g x xs y ys d e u (omega arith) h)
                ]
            | no v ↦ absurd (sub_before f g x xs y ys d e (omega arith) h)
          ]
      | no u ↦
          let b : y.high < x.low = omega arith in
          passes_over x y xs ys b ∙ sub_passes f (y.high + 2) (x ∷ xs) ys d q.rest (skip f x xs y ys d b h)
    ]

pub passes_subset : (xs ys : List Run) → spaced 0 xs ≡ true → spaced 0 ys ≡ true → passes xs ys ≡ subset xs ys
passes_subset xs ys d e =
    same_yes _ _
    (λ h. sub_subset xs ys (passes_sub xs ys h))
    (λ h. sub_passes 0 0 xs ys d e (subset_sub xs ys h))

-- A pass takes at most as many turns as the lists have runs together.
pub rounds_most : (xs ys : List Run) → rounds xs ys ≤ length xs + length ys
rounds_most [] ys = omega arith
rounds_most (x ∷ xs) [] = omega arith
rounds_most (x ∷ xs) (y ∷ ys) = go (leb x.low y.high) (leb y.low x.low && leb x.high y.high) (rounds_most xs (y ∷ ys)) (rounds_most (x ∷ xs) ys)
  where
    go : (s t : Bool) → rounds xs (y ∷ ys) ≤ length xs + length (y ∷ ys) → rounds (x ∷ xs) ys ≤ length (x ∷ xs) + length ys
        → 1 + cond s (cond t (rounds xs (y ∷ ys)) 0) (rounds (x ∷ xs) ys) ≤ length (x ∷ xs) + length (y ∷ ys)
    go true true on over = omega arith
    go true false on over = omega arith
    go false t on over = omega arith

-- runs stand for themselves
pub same_runs : (xs ys : List Run) → passes (map (λ r. r) xs) (map (λ r. r) ys) ≡ passes xs ys
same_runs xs ys = rw (map-id xs, map-id ys)
