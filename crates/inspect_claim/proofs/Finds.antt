-- Laws of the first place that differs.
use Prim.Native.Nat.{ℕ, suc, ◌+◌, ◌≤◌, ◌<◌, min}
use mathlib.Core.Path.{◌≡◌, refl, sym, ap, ◌∙◌}
use mathlib.Core.Bool.{Bool, true, false, cond, not, ◌&&◌}
use mathlib.Core.List.{List, [], ◌∷◌, ◌++◌}
use Rattle.std.proofs.Common.{Some, None}
use native.Mathlib.Omega.{arith}
use borrow.Author.Tests.{ltb-true, ltb-false}
use lib.Dec.{ltb, eqb}
use lib.ListN.{length, get_or, drop, drop_of_length-le, length-append, get_or-append}
use lib.Seq.{drop-cons}
use Rattle.std.specs.List.{zip, position_from}
use Rattle.inspect_claim.specs.Compare.{agreeing, differing_at, find_from}

-- Two lists side by side: the first pair that differs, and where there is none, the end of the shorter.
abbrev pub differs : ℕ × ℕ → Bool
differs p = not (eqb p.0 p.1)

pub find_met : (k n m i : ℕ) (xs ys : List ℕ) → m ≡ k + n → position_from differs n (zip xs ys) ≡ Some i → find_from m xs ys ≡ differing_at (k + i)
find_met k n m i [] ys e p = absurd (cc)
find_met k n m i (x ∷ xs) [] e p = absurd (cc)
find_met k n m i (x ∷ xs) (y ∷ ys) e p = go (eqb x y) p (find_met k (n + 1) (suc m) i xs ys (omega arith))
  where
    go : (t : Bool) → cond (not t) (Some n) (position_from differs (n + 1) (zip xs ys)) ≡ Some i → (position_from differs (n + 1) (zip xs ys) ≡ Some i → find_from (suc m) xs ys ≡ differing_at (k + i))
        → cond t (find_from (suc m) xs ys) (differing_at m) ≡ differing_at (k + i)
    go true q h = h q
    go false q h = let f : n ≡ i = cc in ap differing_at (omega arith)

-- where no pair differs, neither does the first
same_pair : (n : ℕ) (x y : ℕ) (ps : List (ℕ × ℕ)) → position_from differs n ((x, y) ∷ ps) ≡ None → (eqb x y ≡ true) × (position_from differs (n + 1) ps ≡ None)
same_pair n x y ps = go (eqb x y) refl
  where
    go : (t : Bool) → eqb x y ≡ t → cond (not t) (Some n) (position_from differs (n + 1) ps) ≡ None → (eqb x y ≡ true) × (position_from differs (n + 1) ps ≡ None)
    go true e p = (e, p)
    go false e p = absurd (cc)

pub find_same : (k n : ℕ) (xs ys : List ℕ) → position_from differs n (zip xs ys) ≡ None → length xs ≡ length ys → find_from k xs ys ≡ agreeing
find_same k n [] [] p e = refl
find_same k n [] (y ∷ ys) p e = absurd (omega arith)
find_same k n (x ∷ xs) [] p e = absurd (omega arith)
find_same k n (x ∷ xs) (y ∷ ys) p e =
    let s = same_pair n x y (zip xs ys) p in rw s.0 (find_same (suc k) (n + 1) xs ys s.1 (omega arith))

pub find_shorter : (k n m : ℕ) (xs ys : List ℕ) → position_from differs n (zip xs ys) ≡ None → (length xs ≡ length ys → ⊥) → m ≡ k + min (length xs) (length ys)
    → find_from k xs ys ≡ differing_at m
find_shorter k n m [] [] p d e = absurd (d refl)
find_shorter k n m [] (y ∷ ys) p d e = ap differing_at (omega arith)
find_shorter k n m (x ∷ xs) [] p d e = ap differing_at (omega arith)
find_shorter k n m (x ∷ xs) (y ∷ ys) p d e =
    let s = same_pair n x y (zip xs ys) p in rw s.0 (find_shorter (suc k) (n + 1) m xs ys s.1 (λ f. d (omega arith)) (omega arith))

-- both have the place
pub find_both : (at i : ℕ) (l c : List ℕ) → i < length l → at < length c
    → find_from at (drop i l) (drop at c) ≡ cond (eqb (get_or l i 0) (get_or c at 0)) (find_from (suc at) (drop (suc i) l) (drop (suc at) c)) (differing_at at)
find_both at i l c h k = rw (drop-cons l i 0 h, drop-cons c at 0 k)

pub find_next : (at i : ℕ) (l c : List ℕ) → i < length l → at < length c → eqb (get_or l i 0) (get_or c at 0) ≡ true
    → find_from at (drop i l) (drop at c) ≡ find_from (suc at) (drop (suc i) l) (drop (suc at) c)
find_next at i l c h k e = find_both at i l c h k ∙ ap (λ (b : Bool). cond b (find_from (suc at) (drop (suc i) l) (drop (suc at) c)) (differing_at at)) e

pub find_stop : (at i : ℕ) (l c : List ℕ) → i < length l → at < length c → eqb (get_or l i 0) (get_or c at 0) ≡ false
    → find_from at (drop i l) (drop at c) ≡ differing_at at
find_stop at i l c h k e = find_both at i l c h k ∙ ap (λ (b : Bool). cond b (find_from (suc at) (drop (suc i) l) (drop (suc at) c)) (differing_at at)) e

-- the claim ends first
pub find_long : (at i : ℕ) (l c : List ℕ) → i < length l → length c ≤ at → find_from at (drop i l) (drop at c) ≡ differing_at at
find_long at i l c h k = rw (drop-cons l i 0 h, drop_of_length-le c k)

-- a number of the head against the claim's octet at its place
pub find_unsaid : (k x : ℕ) (xs c : List ℕ) → (ltb k (length c) && eqb x (get_or c k 0)) ≡ false → find_from k (x ∷ xs) (drop k c) ≡ differing_at k
find_unsaid k x xs c = go (ltb k (length c)) refl
  where
    go : (t : Bool) → ltb k (length c) ≡ t → (t && eqb x (get_or c k 0)) ≡ false → find_from k (x ∷ xs) (drop k c) ≡ differing_at k
    go true e f = find_stop k 0 (x ∷ xs) c (omega arith) (ltb-true _ _ e) f
    go false e f = find_long k 0 (x ∷ xs) c (omega arith) (ltb-false _ _ e)

pub find_said : (k x : ℕ) (xs c : List ℕ) → (ltb k (length c) && eqb x (get_or c k 0)) ≡ true → (k < length c) × (find_from k (x ∷ xs) (drop k c) ≡ find_from (suc k) xs (drop (suc k) c))
find_said k x xs c = go (ltb k (length c)) refl
  where
    go : (t : Bool) → ltb k (length c) ≡ t → (t && eqb x (get_or c k 0)) ≡ true → (k < length c) × (find_from k (x ∷ xs) (drop k c) ≡ find_from (suc k) xs (drop (suc k) c))
    go true e f = (ltb-true _ _ e, find_next k 0 (x ∷ xs) c (omega arith) (ltb-true _ _ e) f)
    go false e f = absurd (let z : ◌≡◌ {A = ℕ} 0 1 = cc in omega arith)

-- the same at a place of a head with more behind it, by what the test answered
module _ (head rest c : List ℕ) (k : ℕ) (b : Bool) (h : k < length head) (t : b ≡ (ltb k (length c) && eqb (get_or head k 0) (get_or c k 0))) where
  front : drop k (head ++ rest) ≡ get_or head k 0 ∷ drop (suc k) (head ++ rest)
  front =
      drop-cons (head ++ rest) k 0 (omega (arith, length-append head rest))
      ∙ ap (λ (x : ℕ). x ∷ drop (suc k) (head ++ rest)) (get_or-append head rest 0 k h)

  pub unsaid : b ≡ false → differing_at k ≡ find_from k (drop k (head ++ rest)) (drop k c)
  unsaid f = rw front (sym (find_unsaid k (get_or head k 0) (drop (suc k) (head ++ rest)) c (sym t ∙ f)))

  pub said : b ≡ true → (k < length c) × (find_from k (drop k (head ++ rest)) (drop k c) ≡ find_from (suc k) (drop (suc k) (head ++ rest)) (drop (suc k) c))
  said f = rw front (find_said k (get_or head k 0) (drop (suc k) (head ++ rest)) c (sym t ∙ f))
