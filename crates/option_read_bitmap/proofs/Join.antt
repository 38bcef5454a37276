-- The runs of a bitmap, octet by octet: the runs inside the next octet are put behind the others, and its first may go on from the last.
use Prim.Native.Nat.{ℕ, zero, suc, ◌+◌, ◌*◌, ◌/◌, ◌%◌, ◌≤◌, ◌<◌, zero-le}
use mathlib.Core.Path.{◌≡◌, refl, ap, sym, ◌∙◌}
use mathlib.Core.List.{List, [], ◌∷◌, ◌++◌, map, append-nil}
use mathlib.Core.Bool.{Bool, true, false, cond}
use lib.ListN.{length, get_or}
use lib.Dec.{eqb}
use native.Mathlib.Omega.{arith}
use native.Mathlib.Nat.{add-zero, add-suc}
use borrow.Author.Tests.{eq-eqb, ne_eqb, eqb-true, eqb-false}
use Rattle.label.specs.declared.Run.{Run}
use Rattle.label.specs.Runs.{run, push_run, top_of}
use Rattle.label.proofs.Push.{push_top, push_more}
use Rattle.option.specs.Bitmap.{bit_at}
use Rattle.option.specs.Index.{set_runs}
use Rattle.option_read_octet.specs.Entry.{octet_runs}

abbrev pub shift_run : ℕ → Run → Run
shift_run c r = run (c + r.low) (c + r.high)

-- c categories further up
abbrev pub shifted : ℕ → List Run → List Run
shifted c rs = map (shift_run c) rs

-- further runs, of which the first may touch the last
abbrev pub join_runs : List Run → List Run → List Run
join_runs xs [] = xs
join_runs xs (r ∷ rs) = push_run xs r.low r.high ++ rs

pub push_tail : (l h : ℕ) (ps : List Run) (y : Run) (ys : List Run) → push_run (ps ++ y ∷ ys) l h ≡ ps ++ push_run (y ∷ ys) l h
push_tail l h [] y ys = refl
push_tail l h (p ∷ []) y ys = refl
push_tail l h (p ∷ q ∷ ps) y ys = ap (λ (z : List Run). p ∷ z) (push_tail l h (q ∷ ps) y ys)

-- a piece that does not touch the last run is one run more
pub push_apart : (l h : ℕ) (ys : List Run) → (0 < length ys → top_of ys ≡ l → ⊥) → push_run ys l h ≡ ys ++ run l h ∷ []
push_apart l h [] n = refl
push_apart l h (r ∷ []) n = rw (ne_eqb (r.high + 1) l (n (omega arith)))
push_apart l h (r ∷ s ∷ ys) n = ap (λ (z : List Run). r ∷ z) (push_apart l h (s ∷ ys) (λ k e. n (omega arith) e))

-- one that touches it goes on from it
pub push_touch : (l h : ℕ) (ys : List Run) (q : Run) → q.high + 1 ≡ l → push_run (ys ++ q ∷ []) l h ≡ ys ++ run q.low h ∷ []
push_touch l h ys q e = push_tail l h ys q [] ∙ rw (eq-eqb (q.high + 1) l e)

same_test : (c a m : ℕ) → eqb (c + a + 1) (c + m) ≡ eqb (a + 1) m
same_test c a m = go (eqb (a + 1) m) refl
  where
    go : (t : Bool) → eqb (a + 1) m ≡ t → eqb (c + a + 1) (c + m) ≡ t
    go true e = let q : a + 1 ≡ m = eqb-true _ _ e in eq-eqb (c + a + 1) (c + m) (omega arith)
    go false e = ne_eqb (c + a + 1) (c + m) (λ w. eqb-false (a + 1) m e (omega arith))

module _ (c : ℕ) where
  shift_push : (m : ℕ) (ys : List Run) → push_run (shifted c ys) (c + m) (c + m) ≡ shifted c (push_run ys m m)
  shift_push m [] = refl
  shift_push m (r ∷ []) = rw (same_test c r.high m) (go (eqb (r.high + 1) m))
    where
      go : (t : Bool) → cond t (run (c + r.low) (c + m) ∷ []) (shift_run c r ∷ run (c + m) (c + m) ∷ []) ≡ shifted c (cond t (run r.low m ∷ []) (r ∷ run m m ∷ []))
      go true = refl
      go false = refl
  shift_push m (r ∷ s ∷ ys) = push_under (push_run (s ∷ ys) m m) (shift_push m (s ∷ ys))
    where
      push_under : (zs : List Run) → push_run (shifted c (s ∷ ys)) (c + m) (c + m) ≡ shifted c zs → shift_run c r ∷ push_run (shifted c (s ∷ ys)) (c + m) (c + m) ≡ shifted c (r ∷ zs)
      push_under zs e = ap (λ (z : List Run). shift_run c r ∷ z) e

  -- the next bit joins the octet's runs
  push_joined : (m : ℕ) (xs rs : List Run) → push_run (join_runs xs (shifted c rs)) (c + m) (c + m) ≡ join_runs xs (shifted c (push_run rs m m))
  push_joined m xs [] = sym (append-nil (push_run xs (c + m) (c + m)))
  push_joined m xs (r ∷ []) = ap (λ (z : List Run). push_run z (c + m) (c + m)) (append-nil (push_run xs (c + r.low) (c + r.high))) ∙ go (eqb (r.high + 1) m) refl
    where
      go : (t : Bool) → eqb (r.high + 1) m ≡ t
          → push_run (push_run xs (c + r.low) (c + r.high)) (c + m) (c + m) ≡ join_runs xs (shifted c (cond t (run r.low m ∷ []) (r ∷ run m m ∷ [])))
      go true e =
          let q : c + m ≡ c + r.high + 1 = omega (arith, eqb-true (r.high + 1) m e) in
          ap (λ (z : ℕ). push_run (push_run xs (c + r.low) (c + r.high)) z (c + m)) q
          ∙ push_more (c + r.low) (c + r.high) (c + m) xs
          ∙ sym (append-nil (push_run xs (c + r.low) (c + m)))
      go false e =
          push_apart (c + m) (c + m) (push_run xs (c + r.low) (c + r.high)) (λ k w. eqb-false (r.high + 1) m e (omega (arith, push_top (c + r.low) (c + r.high) xs)))
  push_joined m xs (r ∷ s ∷ rs) =
      push_tail (c + m) (c + m) (push_run xs (c + r.low) (c + r.high)) (shift_run c s) (shifted c rs)
      ∙ ap (λ (z : List Run). push_run xs (c + r.low) (c + r.high) ++ z) (shift_push m (s ∷ rs))

  module _ (f g : ℕ → Bool) where
    pub joined_bits : (m : ℕ) → ((k : ℕ) → k < m → f (c + k) ≡ g k) → set_runs f (c + m) ≡ join_runs (set_runs f c) (shifted c (set_runs g m))
    joined_bits zero h = ap (set_runs f) (add-zero c)
    joined_bits (suc m) h =
        ap (set_runs f) (add-suc c m)
        ∙ rw (h m (omega arith)) (go (g m) (set_runs f (c + m)) (joined_bits m (λ k p. h k (omega arith))))
      where
        go : (t : Bool) (zs : List Run) → zs ≡ join_runs (set_runs f c) (shifted c (set_runs g m))
            → cond t (push_run zs (c + m) (c + m)) zs ≡ join_runs (set_runs f c) (shifted c (cond t (push_run (set_runs g m) m m) (set_runs g m)))
        go true zs e = ap (λ (z : List Run). push_run z (c + m) (c + m)) e ∙ push_joined m (set_runs f c) (set_runs g m)
        go false zs e = e

-- an octet's bits are those of the bitmap from its first category on
octet_bit : (b : List ℕ) (i k : ℕ) → k < 8 → bit_at b (8 * i + k) ≡ bit_at (get_or b i 0 ∷ []) k
octet_bit b i k h =
    let p : (8 * i + k) / 8 ≡ i = omega arith in
    let q : (8 * i + k) % 8 ≡ k = omega arith in
    let r : k / 8 ≡ 0 = omega arith in
    let s : k % 8 ≡ k = omega arith in
    rw (p, q, r, s)

pub octet_joined : (b : List ℕ) (i : ℕ) → set_runs (bit_at b) (8 * i + 8) ≡ join_runs (set_runs (bit_at b) (8 * i)) (shifted (8 * i) (octet_runs (get_or b i 0)))
octet_joined b i = joined_bits (8 * i) (bit_at b) (bit_at (get_or b i 0 ∷ [])) 8 (octet_bit b i)

-- no category is above the bits that are read
pub set_top : (f : ℕ → Bool) (n : ℕ) → top_of (set_runs f n) ≤ n
set_top f zero = zero-le
set_top f (suc n) = go (f n) (set_top f n)
  where
    go : (t : Bool) → top_of (set_runs f n) ≤ n → top_of (cond t (push_run (set_runs f n) n n) (set_runs f n)) ≤ suc n
    go true h = omega (arith, push_top n n (set_runs f n))
    go false h = omega arith
