-- Laws of ranges in order: joined where they touch, they are the one form of their set.
use mathlib.Core.Path.{◌≡◌, refl, sym, ◌∙◌, ap}
use mathlib.Core.Bool.{Bool, true, false, cond, ◌&&◌, ◌||◌, or_assoc}
use mathlib.Core.List.{List, [], ◌∷◌, ◌++◌, append_assoc}
use mathlib.Core.Logic.{◌⊎◌, inl, inr, ⊎_elim}
use Prim.Native.Nat.{ℕ, ◌+◌, ◌-◌, ◌/◌, ◌%◌, ◌≤◌, ◌<◌}
use native.Mathlib.Omega.{arith}
use native.Mathlib.Decide.{dec_le}
use lib.Dec.{leb, ltb}
use borrow.Author.Tests.{le-leb, lt-leb, leb-true, leb-false, ltb-true, ltb-false}
use Rattle.label.specs.Runs.{in_run, covers, spaced}
use Rattle.label.proofs.Bools.{and_left, and_right}
use Rattle.lists_sort.specs.Order.{Sorted, all}
use Rattle.lists_sort.proofs.Merge.{sorted_lower}
use Rattle.label_keys.specs.Keys.{key_run, key_runs}
use Rattle.label_ranges.specs.Ranges.{stretched}
use Rattle.renumber_keys.specs.Stages.{join_from, join_all, push_key, join_onto, Key}

pub record IsKey (k : ℕ) : Type 0 where
  pub ordered : k / 65536 ≤ k % 65536
  pub top : k % 65536 ≤ 65534

pub is_key : (k : ℕ) → Key k ≡ true → IsKey k
is_key k e = record { ordered = leb-true _ _ (and_left (leb (k / 65536) (k % 65536)) _ e); top = leb-true _ _ (and_right (leb (k / 65536) (k % 65536)) _ e) }

-- The joined key: its low end and its high end.
pub record Stretch (k x s : ℕ) : Type 0 where
  pub low : s / 65536 ≡ k / 65536
  pub reach : k % 65536 ≤ s % 65536
  pub over : x % 65536 ≤ s % 65536
  pub under : k ≤ x → s ≤ x
  pub one : (s % 65536 ≡ k % 65536) ⊎ (s % 65536 ≡ x % 65536)

pub stretch_is : (k x : ℕ) → Stretch k x (stretched k x)
stretch_is k x = go (ltb (k % 65536) (x % 65536)) refl
  where
    go : (b : Bool) → ltb (k % 65536) (x % 65536) ≡ b → Stretch k x (cond b (k - k % 65536 + x % 65536) k)
    go true e =
        let h : k % 65536 < x % 65536 = ltb-true _ _ e in
        let m : (k - k % 65536 + x % 65536) % 65536 ≡ x % 65536 = omega arith in
        record { low = omega arith; reach = omega arith; over = omega arith; under = λ w. omega arith; one = inr m }
    go false e =
        let h : x % 65536 ≤ k % 65536 = ltb-false _ _ e in
        record { low = refl; reach = omega arith; over = h; under = λ w. w; one = inl refl }

stretch_key : (k x s : ℕ) → Stretch k x s → IsKey k → IsKey x → IsKey s
stretch_key k x s t a b = record { ordered = omega (arith, t.low, t.reach, a.ordered); top = ⊎_elim (λ w. omega (arith, a.top)) (λ w. omega (arith, b.top)) t.one }

-- the two ranges as one
stretch_covers : (k x s c : ℕ) → Stretch k x s → IsKey k → IsKey x → k / 65536 ≤ x / 65536 → x / 65536 ≤ k % 65536 + 1 → in_run (key_run s) c ≡ (in_run (key_run k) c || in_run (key_run x) c)
stretch_covers k x s c t a b h l =
    rw t.low
    (elim (dec_le (k / 65536) c) [ yes u ↦ inside u | no u ↦ simp (lt-leb (k / 65536) c (omega arith), lt-leb (x / 65536) c (omega arith)) ])
  where
    inside : k / 65536 ≤ c → (leb (k / 65536) c && leb c (s % 65536)) ≡ (in_run (key_run k) c || in_run (key_run x) c)
    inside u = elim (dec_le c (k % 65536)) [ yes v ↦ simp (le-leb (k / 65536) c u, le-leb c (k % 65536) v, le-leb c (s % 65536) (omega (arith, t.reach))) | no v ↦ simp (le-leb (k / 65536) c u, lt-leb c (k % 65536) (omega arith), le-leb (x / 65536) c (omega arith)) (last v) ]
      where
        last : (c ≤ k % 65536 → ⊥) → leb c (s % 65536) ≡ leb c (x % 65536)
        last v = ⊎_elim (λ w. simp (lt-leb c (s % 65536) (omega arith), lt-leb c (x % 65536) (omega (arith, t.over)))) (λ w. ap (leb c) w) t.one

pub join_covers : (k : ℕ) (ks : List ℕ) (c : ℕ) → Sorted k ks → IsKey k → all Key ks ≡ true → covers (key_runs (join_from k ks)) c ≡ (in_run (key_run k) c || covers (key_runs ks) c)
join_covers k [] c s a g = refl
join_covers k (x ∷ xs) c s a g =
    let b : IsKey x = is_key x (and_left (Key x) _ g) in
    let gs = and_right (Key x) _ g in
    let t = stretch_is k x in
    go (leb (x / 65536) (k % 65536 + 1)) refl b
    (join_covers (stretched k x) xs c (sorted_lower (stretched k x) x xs (t.under s.0) s.1) (stretch_key k x (stretched k x) t a b) gs)
    (join_covers x xs c s.1 b gs)
  where
    go : (t : Bool) → leb (x / 65536) (k % 65536 + 1) ≡ t → IsKey x
        → covers (key_runs (join_from (stretched k x) xs)) c ≡ (in_run (key_run (stretched k x)) c || covers (key_runs xs) c)
        → covers (key_runs (join_from x xs)) c ≡ (in_run (key_run x) c || covers (key_runs xs) c)
        → covers (key_runs (cond t (join_from (stretched k x) xs) (k ∷ join_from x xs))) c ≡ (in_run (key_run k) c || (in_run (key_run x) c || covers (key_runs xs) c))
    go true e b one two =
        one
        ∙ rw (stretch_covers k x (stretched k x) c (stretch_is k x) a b (omega (arith, s.0)) (leb-true _ _ e))
        (or_assoc (in_run (key_run k) c) (in_run (key_run x) c) (covers (key_runs xs) c))
    go false e b one two = rw two

pub join_spaced : (k f : ℕ) (ks : List ℕ) → Sorted k ks → IsKey k → all Key ks ≡ true → f ≤ k / 65536 → spaced f (key_runs (join_from k ks)) ≡ true
join_spaced k f [] s a g h = simp (le-leb f (k / 65536) h, le-leb (k / 65536) (k % 65536) a.ordered, le-leb (k % 65536) 65534 a.top)
join_spaced k f (x ∷ xs) s a g h =
    let b : IsKey x = is_key x (and_left (Key x) _ g) in
    let gs = and_right (Key x) _ g in
    let t = stretch_is k x in
    go (leb (x / 65536) (k % 65536 + 1)) refl
    (join_spaced (stretched k x) f xs (sorted_lower (stretched k x) x xs (t.under s.0) s.1) (stretch_key k x (stretched k x) t a b) gs (omega (arith, t.low)))
    (λ w. join_spaced x (k % 65536 + 2) xs s.1 b gs w)
  where
    go : (t : Bool) → leb (x / 65536) (k % 65536 + 1) ≡ t → spaced f (key_runs (join_from (stretched k x) xs)) ≡ true
        → (k % 65536 + 2 ≤ x / 65536 → spaced (k % 65536 + 2) (key_runs (join_from x xs)) ≡ true)
        → spaced f (key_runs (cond t (join_from (stretched k x) xs) (k ∷ join_from x xs))) ≡ true
    go true e one two = one
    go false e one two =
        let q : k % 65536 + 1 < x / 65536 = leb-false _ _ e in
        simp (le-leb f (k / 65536) h, le-leb (k / 65536) (k % 65536) a.ordered, le-leb (k % 65536) 65534 a.top) (two (omega arith))

pub all_covers : (ks : List ℕ) (c : ℕ) → Sorted 0 ks → all Key ks ≡ true → covers (key_runs (join_all ks)) c ≡ covers (key_runs ks) c
all_covers [] c s g = refl
all_covers (k ∷ ks) c s g = join_covers k ks c s.1 (is_key k (and_left (Key k) _ g)) (and_right (Key k) _ g)

pub all_spaced : (ks : List ℕ) → Sorted 0 ks → all Key ks ≡ true → spaced 0 (key_runs (join_all ks)) ≡ true
all_spaced [] s g = refl
all_spaced (k ∷ ks) s g = join_spaced k 0 ks s.1 (is_key k (and_left (Key k) _ g)) (and_right (Key k) _ g) (omega arith)

-- Joined from the other end.
pub push_last : (ks : List ℕ) (k x : ℕ) → push_key (ks ++ (k ∷ [])) x ≡ ks ++ cond (leb (x / 65536) (k % 65536 + 1)) (stretched k x ∷ []) (k ∷ x ∷ [])
push_last [] k x = refl
push_last (j ∷ []) k x = refl
push_last (j ∷ i ∷ ks) k x = ap (λ (z : List ℕ). j ∷ z) (push_last (i ∷ ks) k x)

onto_last : (ks : List ℕ) (k : ℕ) (xs : List ℕ) → join_onto (ks ++ (k ∷ [])) xs ≡ ks ++ join_from k xs
onto_last ks k [] = refl
onto_last ks k (x ∷ xs) =
    ap (λ (z : List ℕ). join_onto z xs) (push_last ks k x) ∙ go (leb (x / 65536) (k % 65536 + 1)) (onto_last ks (stretched k x) xs) (onto_last (ks ++ (k ∷ [])) x xs)
  where
    go : (b : Bool) → join_onto (ks ++ (stretched k x ∷ [])) xs ≡ ks ++ join_from (stretched k x) xs → join_onto ((ks ++ (k ∷ [])) ++ (x ∷ [])) xs ≡ (ks ++ (k ∷ [])) ++ join_from x xs
        → join_onto (ks ++ cond b (stretched k x ∷ []) (k ∷ x ∷ [])) xs ≡ ks ++ cond b (join_from (stretched k x) xs) (k ∷ join_from x xs)
    go true p q = p
    go false p q = ap (λ (z : List ℕ). join_onto z xs) (sym (append_assoc ks (k ∷ []) (x ∷ []))) ∙ q ∙ append_assoc ks (k ∷ []) (join_from x xs)

pub onto_all : (ks : List ℕ) → join_onto [] ks ≡ join_all ks
onto_all [] = refl
onto_all (k ∷ ks) = onto_last [] k ks

pub onto_append : (ks xs ys : List ℕ) → join_onto ks (xs ++ ys) ≡ join_onto (join_onto ks xs) ys
onto_append ks [] ys = refl
onto_append ks (x ∷ xs) ys = onto_append (push_key ks x) xs ys
