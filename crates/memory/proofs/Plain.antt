-- Laws of the plain list: an address taken out, and one behind the others.
use Prim.Native.Nat.{ℕ, zero, suc, ◌≤◌}
use mathlib.Core.Path.{◌≡◌, refl, sym}
use mathlib.Core.List.{List, [], ◌∷◌, ◌++◌}
use mathlib.Core.Bool.{Bool, true, false, cond, not, ◌&&◌, ◌||◌}
use native.Mathlib.Omega.{arith}
use borrow.Author.Tests.{eq-eqb, eqb-true}
use lib.Dec.{eqb}
use lib.ListN.{length, drop}
use Rattle.memory.specs.Memory.{holds, without, distinct}
use Rattle.memory.proofs.Laws.{true_or_false}

-- what stands behind a test that passed
both : (a b : Bool) → (not a && b) ≡ true → (a ≡ false) × (b ≡ true)
both true b e = absurd (let z : ◌≡◌ {A = ℕ} 0 1 = cc in omega arith)
both false b e = (refl, e)

-- An address that was taken away is not there, and the others are as they were.
pub held_without : (xs : List ℕ) (a b : ℕ) → holds xs b ≡ false → holds (without xs a) b ≡ false
held_without [] a b e = refl
held_without (x ∷ xs) a b e = go (eqb x b) refl e (held_without xs a b)
  where
    go : (t : Bool) → eqb x b ≡ t → (t || holds xs b) ≡ false → (holds xs b ≡ false → holds (without xs a) b ≡ false)
        → holds (cond (eqb x a) (without xs a) (x ∷ without xs a)) b ≡ false
    go true p q g = absurd (let z : ◌≡◌ {A = ℕ} 0 1 = cc in omega arith)
    go false p q g =
        true_or_false (λ (u : Bool). holds (cond u (without xs a) (x ∷ without xs a)) b ≡ false) (eqb x a)
        (λ r. g q) (λ r. rw p (g q))

pub taken_out : (xs : List ℕ) (a : ℕ) → holds (without xs a) a ≡ false
taken_out [] a = refl
taken_out (x ∷ xs) a =
    true_or_false (λ (u : Bool). eqb x a ≡ u → holds (cond u (without xs a) (x ∷ without xs a)) a ≡ false) (eqb x a)
    (λ r p. taken_out xs a) (λ r p. rw p (taken_out xs a)) refl

pub once_without : (xs : List ℕ) (a : ℕ) → distinct xs ≡ true → distinct (without xs a) ≡ true
once_without [] a e = refl
once_without (x ∷ xs) a e =
    let p = both (holds xs x) (distinct xs) e in
    true_or_false (λ (u : Bool). distinct (cond u (without xs a) (x ∷ without xs a)) ≡ true) (eqb x a)
    (λ r. once_without xs a p.1) (λ r. rw (held_without xs a x p.0) (once_without xs a p.1))

pub held_behind : (xs : List ℕ) (a b : ℕ) → holds xs b ≡ false → eqb a b ≡ false → holds (xs ++ (a ∷ [])) b ≡ false
held_behind [] a b e f = rw f
held_behind (x ∷ xs) a b e f = go (eqb x b) e (λ q. held_behind xs a b q f)
  where
    go : (t : Bool) → (t || holds xs b) ≡ false → (holds xs b ≡ false → holds (xs ++ (a ∷ [])) b ≡ false) → (t || holds (xs ++ (a ∷ [])) b) ≡ false
    go true q g = q
    go false q g = g q

pub turned : (m n : ℕ) → eqb m n ≡ false → eqb n m ≡ false
turned m n e = true_or_false (λ (u : Bool). eqb n m ≡ u → u ≡ false) (eqb n m) (λ q r. absurd (let z : m ≡ n = sym (eqb-true n m q) in let y : ◌≡◌ {A = ℕ} 0 1 = cc (eq-eqb m n z) in omega arith)) (λ q r. refl) refl

pub once_behind : (xs : List ℕ) (a : ℕ) → distinct xs ≡ true → holds xs a ≡ false → distinct (xs ++ (a ∷ [])) ≡ true
once_behind [] a d h = refl
once_behind (x ∷ xs) a d h =
    let p = both (holds xs x) (distinct xs) d in
    go (eqb x a) refl h p.0 (λ q. once_behind xs a p.1 q)
  where
    go : (t : Bool) → eqb x a ≡ t → (t || holds xs a) ≡ false → holds xs x ≡ false
        → (holds xs a ≡ false → distinct (xs ++ (a ∷ [])) ≡ true) → (not (holds (xs ++ (a ∷ [])) x) && distinct (xs ++ (a ∷ []))) ≡ true
    go true r q g e = absurd (let z : ◌≡◌ {A = ℕ} 0 1 = cc in omega arith)
    go false r q g e = rw (held_behind xs a x g (turned x a r)) (e q)

pub once_drop : (n : ℕ) (xs : List ℕ) → distinct xs ≡ true → distinct (drop n xs) ≡ true
once_drop zero xs e = e
once_drop (suc n) [] e = refl
once_drop (suc n) (x ∷ xs) e = once_drop n xs (both (holds xs x) (distinct xs) e).1

pub less_without : (xs : List ℕ) (a : ℕ) → length (without xs a) ≤ length xs
less_without [] a = omega arith
less_without (x ∷ xs) a =
    let q = less_without xs a in
    true_or_false (λ (u : Bool). length (cond u (without xs a) (x ∷ without xs a)) ≤ suc (length xs)) (eqb x a) (λ r. omega arith) (λ r. omega arith)
