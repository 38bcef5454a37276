-- Laws of pieces and of what they are joined to.
use Prim.Native.Nat.{ℕ, zero, suc, ◌+◌, ◌*◌, ◌≤◌, ◌<◌, zero-le}
use mathlib.Core.Path.{◌≡◌, refl, ap, ◌∙◌}
use mathlib.Core.List.{List, [], ◌∷◌}
use mathlib.Core.Bool.{Bool, true, false, ◌&&◌, ◌||◌, cond, or-false, or_assoc, or_comm, and-false, true≢false}
use lib.ListN.{length}
use lib.Dec.{leb, ltb}
use native.Mathlib.Omega.{arith}
use native.Mathlib.Nat.{le_refl}
use native.Mathlib.Decide.{dec_le}
use borrow.Author.Tests.{le-leb, lt-leb, lt-ltb, le-ltb, ltb-true, leb-true}
use Rattle.label.specs.declared.Run.{Run}
use Rattle.label.specs.Runs.{run, in_run, covers, joined, count_of, top_of}
use Rattle.option.specs.Reading.{turned}
use Rattle.label.proofs.Canon.{Canon, Below}
use Rattle.option.specs.Option.{falling, ascending, singles, pairs_in}
use Rattle.option.specs.Reading.{bit_pieces}
use Rattle.label.proofs.Push.{push_covers, push_canon, push_below, push_length, push_count, push_top}
use Rattle.label.proofs.Canon.{below_weaken}
use Rattle.label.proofs.Bools.{and_left, and_right}

-- Pieces in order, highest first, all below cap.
abbrev pub Falling : ℕ → List Run → Type 0
Falling cap [] = Unit {0}
Falling cap (p ∷ ps) = (p.high < cap) × (p.low ≤ p.high) × Falling p.low ps

pub falling_true : (cap : ℕ) (ps : List Run) → falling cap ps ≡ true → Falling cap ps
falling_true cap [] e = tt
falling_true cap (p ∷ ps) e =
    let e1 = and_right (ltb p.high cap) _ e in
    (ltb-true _ _ (and_left (ltb p.high cap) _ e), leb-true _ _ (and_left (leb p.low p.high) _ e1), falling_true p.low ps (and_right (leb p.low p.high) _ e1))

pub true_falling : (cap : ℕ) (ps : List Run) → Falling cap ps → falling cap ps ≡ true
true_falling cap [] f = refl
true_falling cap (p ∷ ps) f = rw (lt-ltb p.high cap f.0, le-leb p.low p.high f.1) (true_falling p.low ps f.2)

pub joined_good : (cap : ℕ) (ps : List Run) → Falling cap ps → Canon 0 (joined ps) × Below cap (joined ps)
joined_good cap [] f = (tt, tt)
joined_good cap (p ∷ ps) f =
    let g = joined_good p.low ps f.2 in
    (push_canon p.low p.high f.1 0 (joined ps) g.0 g.1 zero-le, below_weaken (p.high + 1) cap (joined (p ∷ ps)) (omega arith) (push_below p.low p.high f.1 (joined ps) g.1))

pub joined_covers : (cap : ℕ) (ps : List Run) (c : ℕ) → Falling cap ps → covers (joined ps) c ≡ covers ps c
joined_covers cap [] c f = refl
joined_covers cap (p ∷ ps) c f =
    push_covers p.low p.high f.1 0 (joined ps) c (joined_good p.low ps f.2).0
    ∙ rw (joined_covers p.low ps c f.2) (or_comm (covers ps c) (in_run p c))

pub joined_length : (ps : List Run) → length (joined ps) ≤ length ps
joined_length [] = omega arith
joined_length (p ∷ ps) = omega (arith, joined_length ps, push_length p.low p.high (joined ps))

pub joined_count : (cap : ℕ) (ps : List Run) → Falling cap ps → count_of (joined ps) ≡ count_of ps
joined_count cap [] f = refl
joined_count cap (p ∷ ps) f = omega (arith, push_count p.low p.high 0 (joined ps) f.1 (joined_good p.low ps f.2).0, joined_count p.low ps f.2)

pub joined_top : (p : Run) (ps : List Run) → top_of (joined (p ∷ ps)) ≡ p.high + 1
joined_top p ps = push_top p.low p.high (joined ps)

-- Turned round.
pub turned_covers : (acc rs : List Run) (c : ℕ) → covers (turned acc rs) c ≡ (covers rs c || covers acc c)
turned_covers acc [] c = refl
turned_covers acc (r ∷ rs) c = turned_covers (r ∷ acc) rs c ∙ swap (covers rs c) (in_run r c) (covers acc c)
  where
    swap : (x y z : Bool) → (x || (y || z)) ≡ ((y || x) || z)
    swap true true z = refl
    swap true false z = refl
    swap false true z = refl
    swap false false z = refl

pub turned_length : (acc rs : List Run) → length (turned acc rs) ≡ length rs + length acc
turned_length acc [] = omega arith
turned_length acc (r ∷ rs) = omega (arith, turned_length (r ∷ acc) rs)

pub turned_count : (acc rs : List Run) → count_of (turned acc rs) ≡ count_of rs + count_of acc
turned_count acc [] = omega arith
turned_count acc (r ∷ rs) = omega (arith, turned_count (r ∷ acc) rs)

-- Pieces in order, lowest first, from lo on and all below cap.
abbrev pub Rising : ℕ → ℕ → List Run → Type 0
Rising lo cap [] = lo ≤ cap
Rising lo cap (p ∷ ps) = (lo ≤ p.low) × (p.low ≤ p.high) × Rising (p.high + 1) cap ps

pub turned_falling : (lo cap : ℕ) (acc rs : List Run) → Falling lo acc → Rising lo cap rs → Falling cap (turned acc rs)
turned_falling lo cap acc [] f g = weaken acc f
  where
    weaken : (ps : List Run) → Falling lo ps → Falling cap ps
    weaken [] f = tt
    weaken (p ∷ ps) f = (omega arith, f.1, f.2)
turned_falling lo cap acc (r ∷ rs) f g = turned_falling (r.high + 1) cap (r ∷ acc) rs (omega arith, g.1, weaken acc f) g.2
  where
    weaken : (ps : List Run) → Falling lo ps → Falling r.low ps
    weaken [] f = tt
    weaken (p ∷ ps) f = (omega arith, f.1, f.2)

-- Tag 1.
module _ (f : ℕ → Bool) where
  pub bits_falling : (n : ℕ) → Falling n (bit_pieces f n)
  bits_falling zero = tt
  bits_falling (suc n) = go (f n) (bits_falling n)
    where
      weaken : (ps : List Run) → Falling n ps → Falling (suc n) ps
      weaken [] f = tt
      weaken (p ∷ ps) f = (omega arith, f.1, f.2)

      go : (b : Bool) → Falling n (bit_pieces f n) → Falling (suc n) (cond b (run n n ∷ bit_pieces f n) (bit_pieces f n))
      go true ih = (le_refl (suc n), le_refl n, ih)
      go false ih = weaken (bit_pieces f n) ih

  pub bits_covers : (n c : ℕ) → covers (bit_pieces f n) c ≡ (ltb c n && f c)
  bits_covers zero c = rw (le-ltb c 0 zero-le)
  bits_covers (suc n) c = go (f n) refl (bits_covers n c) (dec_le (suc c) n) (dec_le c n)
    where
      at_n : c ≡ n → f n ≡ true → f c ≡ true
      at_n e t = ap f e ∙ t

      go : (b : Bool) → f n ≡ b → covers (bit_pieces f n) c ≡ (ltb c n && f c) → Dec (c < n) → Dec (c ≤ n) → covers (cond b (run n n ∷ bit_pieces f n) (bit_pieces f n)) c ≡ (ltb c (suc n) && f c)
      go true e ih (yes u) v = simp (ih, lt-ltb c n u, lt-ltb c (suc n) (omega arith), lt-leb n c u)
      go true e ih (no u) (yes v) = simp (ih, le-leb n c (omega arith), le-leb c n v, lt-ltb c (suc n) (omega arith), at_n (omega arith) e)
      go true e ih (no u) (no v) = simp (ih, le-ltb c n (omega arith), le-ltb c (suc n) (omega arith), lt-leb c n (omega arith), and-false)
      go false e ih (yes u) v = simp (ih, lt-ltb c n u, lt-ltb c (suc n) (omega arith))
      go false e ih (no u) (yes v) = simp (ih, le-ltb c n (omega arith), lt-ltb c (suc n) (omega arith), ap f (let z : c ≡ n = omega arith in z) ∙ e)
      go false e ih (no u) (no v) = simp (ih, le-ltb c n (omega arith), le-ltb c (suc n) (omega arith))

-- Tag 2.
pub rising_true : (lo : ℕ) (xs : List ℕ) → lo ≤ 65535 → ascending lo xs ≡ true → Rising lo 65535 (singles xs)
rising_true lo [] h e = h
rising_true lo (x ∷ xs) h e =
    let e1 = and_right (leb lo x) _ e in
    let u = ltb-true x 65535 (and_left (ltb x 65535) _ e1) in
    (leb-true _ _ (and_left (leb lo x) _ e), le_refl x, rising_true (x + 1) xs (omega arith) (and_right (ltb x 65535) _ e1))

pub singles_count : (xs : List ℕ) → count_of (singles xs) ≡ length xs
singles_count [] = refl
singles_count (x ∷ xs) = omega (arith, singles_count xs)

pub singles_length : (xs : List ℕ) → length (singles xs) ≡ length xs
singles_length [] = refl
singles_length (x ∷ xs) = omega (arith, singles_length xs)

-- Tag 5.
pub pairs_length : (xs : List ℕ) → length xs ≤ 2 * length (pairs_in xs)
pairs_length [] = omega arith
pairs_length (t ∷ []) = omega arith
pairs_length (t ∷ b ∷ xs) = omega (arith, pairs_length xs)

pub pairs_most : (xs : List ℕ) → 2 * length (pairs_in xs) ≤ length xs + 1
pairs_most [] = omega arith
pairs_most (t ∷ []) = omega arith
pairs_most (t ∷ b ∷ xs) = omega (arith, pairs_most xs)

-- where the last bottom is left out, 0 is a category
pub pairs_odd : (xs : List ℕ) → length xs < 2 * length (pairs_in xs) → covers (pairs_in xs) 0 ≡ true
pairs_odd [] h = absurd (omega arith)
pairs_odd (t ∷ []) h = rw (le-leb 0 t zero-le)
pairs_odd (t ∷ b ∷ xs) h = rw (pairs_odd xs (omega arith)) (mathlib.Core.Bool.or-true (in_run (run b t) 0))
