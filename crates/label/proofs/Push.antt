-- Laws of adding a run after the last one, once for every list of runs: what is covered, the form, and how the count of runs and of
-- categories and the highest category change.
use Prim.Native.Nat.{ℕ, ◌+◌, ◌-◌, ◌≤◌, ◌<◌}
use mathlib.Core.Path.{◌≡◌, refl, ap, sym, ◌∙◌}
use mathlib.Core.List.{List, [], ◌∷◌}
use mathlib.Core.Bool.{Bool, true, false, ◌&&◌, ◌||◌, cond, or-false, or_assoc}
use lib.ListN.{length}
use lib.Dec.{leb, eqb}
use native.Mathlib.Omega.{arith}
use native.Mathlib.Decide.{dec_le}
use borrow.Author.Tests.{le-leb, lt-leb, eqb-true, eqb-false, eq-eqb}
use Rattle.label.specs.declared.Run.{Run}
use Rattle.label.specs.Runs.{run, in_run, covers, push_run, count_of, top_of}
use Rattle.label.proofs.Canon.{Canon, Below}

-- The merge of two touching ranges.
merge : (a b l h c : ℕ) → a ≤ b → b + 1 ≡ l → l ≤ h → (leb a c && leb c h) ≡ ((leb a c && leb c b) || (leb l c && leb c h))
merge a b l h c p q s = elim (dec_le c b) [ yes u ↦ simp (le-leb c b u, lt-leb l c (omega arith), le-leb c h (omega arith), or-false) | no u ↦ simp (lt-leb c b (omega arith), le-leb a c (omega arith), le-leb l c (omega arith)) ]

module _ (l h : ℕ) (ord : l ≤ h) where
  pub push_covers : (lo : ℕ) (rs : List Run) (c : ℕ) → Canon lo rs → covers (push_run rs l h) c ≡ (covers rs c || in_run (run l h) c)
  push_covers lo [] c k = or-false (in_run (run l h) c)
  push_covers lo (r ∷ []) c k = go (eqb (r.high + 1) l) refl
    where
      go : (b : Bool) → eqb (r.high + 1) l ≡ b → covers (cond b (run r.low h ∷ []) (r ∷ run l h ∷ [])) c ≡ ((in_run r c || false) || in_run (run l h) c)
      go true e = simp (or-false, merge r.low r.high l h c k.1 (eqb-true _ _ e) ord)
      go false e = simp or-false
  push_covers lo (r ∷ s ∷ rs) c k = rw (push_covers (r.high + 2) (s ∷ rs) c k.2) (sym (or_assoc (in_run r c) (covers (s ∷ rs) c) (in_run (run l h) c)))

  pub push_canon : (lo : ℕ) (rs : List Run) → Canon lo rs → Below l rs → lo ≤ l → Canon lo (push_run rs l h)
  push_canon lo [] k b q = (q, ord, tt)
  push_canon lo (r ∷ []) k b q = go (eqb (r.high + 1) l) refl
    where
      go : (t : Bool) → eqb (r.high + 1) l ≡ t → Canon lo (cond t (run r.low h ∷ []) (r ∷ run l h ∷ []))
      go true e = (k.0, omega arith, tt)
      go false e = (k.0, k.1, ((let n : (r.high + 1 ≡ l → ⊥) = eqb-false _ _ e in omega arith), ord, tt))
  push_canon lo (r ∷ s ∷ rs) k b q = (k.0, k.1, push_canon (r.high + 2) (s ∷ rs) k.2 b.1 (omega arith))

  pub push_below : (rs : List Run) → Below l rs → Below (h + 1) (push_run rs l h)
  push_below [] b = (omega arith, tt)
  push_below (r ∷ []) b = go (eqb (r.high + 1) l)
    where
      go : (t : Bool) → Below (h + 1) (cond t (run r.low h ∷ []) (r ∷ run l h ∷ []))
      go true = (omega arith, tt)
      go false = (omega arith, (omega arith, tt))
  push_below (r ∷ s ∷ rs) b = (omega arith, push_below (s ∷ rs) b.1)

pub push_length : (l h : ℕ) (rs : List Run) → length (push_run rs l h) ≤ length rs + 1
push_length l h [] = omega arith
push_length l h (r ∷ []) = go (eqb (r.high + 1) l)
  where
    go : (t : Bool) → length (cond t (run r.low h ∷ []) (r ∷ run l h ∷ [])) ≤ 1 + 1
    go true = omega arith
    go false = omega arith
push_length l h (r ∷ s ∷ rs) = omega (arith, push_length l h (s ∷ rs))

-- as many categories as before and in the piece
pub push_count : (l h lo : ℕ) (rs : List Run) → l ≤ h → Canon lo rs → count_of (push_run rs l h) ≡ count_of rs + (h + 1 - l)
push_count l h lo [] ord k = omega arith
push_count l h lo (r ∷ []) ord k = go (eqb (r.high + 1) l) refl
  where
    go : (t : Bool) → eqb (r.high + 1) l ≡ t → count_of (cond t (run r.low h ∷ []) (r ∷ run l h ∷ [])) ≡ (r.high + 1 - r.low) + 0 + (h + 1 - l)
    go true e = omega (arith, eqb-true (r.high + 1) l e)
    go false e = omega arith
push_count l h lo (r ∷ s ∷ rs) ord k = omega (arith, push_count l h (r.high + 2) (s ∷ rs) ord k.2)

-- the piece's end is the highest category
pub push_top : (l h : ℕ) (rs : List Run) → top_of (push_run rs l h) ≡ h + 1
push_top l h [] = refl
push_top l h (r ∷ []) = go (eqb (r.high + 1) l)
  where
    go : (t : Bool) → top_of (cond t (run r.low h ∷ []) (r ∷ run l h ∷ [])) ≡ h + 1
    go true = refl
    go false = refl
push_top l h (r ∷ s ∷ []) = go (eqb (s.high + 1) l)
  where
    go : (t : Bool) → top_of (r ∷ cond t (run s.low h ∷ []) (s ∷ run l h ∷ [])) ≡ h + 1
    go true = refl
    go false = refl
push_top l h (r ∷ s ∷ t ∷ rs) = push_top l h (s ∷ t ∷ rs)

-- there is a last run after the piece
pub push_some : (l h : ℕ) (rs : List Run) → 0 < length (push_run rs l h)
push_some l h [] = omega arith
push_some l h (r ∷ []) = go (eqb (r.high + 1) l)
  where
    go : (t : Bool) → 0 < length (cond t (run r.low h ∷ []) (r ∷ run l h ∷ []))
    go true = omega arith
    go false = omega arith
push_some l h (r ∷ s ∷ rs) = omega arith

push_under : (l h : ℕ) (r : Run) (xs : List Run) → 0 < length xs → push_run (r ∷ xs) l h ≡ r ∷ push_run xs l h
push_under l h r [] n = absurd (omega arith)
push_under l h r (s ∷ xs) n = refl

-- a piece and the one that goes on from it are one piece
pub push_more : (l h k : ℕ) (rs : List Run) → push_run (push_run rs l h) (h + 1) k ≡ push_run rs l k
push_more l h k [] = rw (eq-eqb (h + 1) (h + 1) refl)
push_more l h k (r ∷ []) = go (eqb (r.high + 1) l)
  where
    go : (t : Bool) → push_run (cond t (run r.low h ∷ []) (r ∷ run l h ∷ [])) (h + 1) k ≡ cond t (run r.low k ∷ []) (r ∷ run l k ∷ [])
    go true = rw (eq-eqb (h + 1) (h + 1) refl)
    go false = rw (eq-eqb (h + 1) (h + 1) refl)
push_more l h k (r ∷ s ∷ rs) =
    push_under (h + 1) k r (push_run (s ∷ rs) l h) (push_some l h (s ∷ rs)) ∙ ap (λ (z : List Run). r ∷ z) (push_more l h k (s ∷ rs))
