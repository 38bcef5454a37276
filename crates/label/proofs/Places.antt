-- Laws of the two ways in which a label's form is told without a test at each place: unused places by an OR over all of them,
-- and the highest category by the last run alone.
-- Assumes nothing.
use mathlib.Core.Path.{◌≡◌, refl, sym}
use mathlib.Core.Bool.{Bool, true, false, cond, ◌&&◌, and-true, and-false}
use mathlib.Core.List.{List, [], ◌∷◌}
use mathlib.Core.Logic.{⊎_elim}
use Prim.Native.Nat.{ℕ, zero, suc, ◌+◌, ◌*◌, ◌≤◌, ◌<◌}
use native.Mathlib.Omega.{arith}
use lib.Bits.{bit_or, or_add_and, and_le_l, and_le_r}
use lib.Dec.{eqb, leb, eqb-suc-zero}
use lib.ListN.{take, drop, get_or, length}
use borrow.Author.Tests.{ne_eqb, le-leb, lt-leb}
use Rattle.label.specs.declared.Run.{Run}
use Rattle.label.specs.Runs.{spaced, unused}
use Rattle.label.specs.Label.{no_run}
use Rattle.label.proofs.Bools.{less_or}
use Rattle.label.proofs.Steps.{next}

-- an OR is zero exactly when both are
pub zero_or : (a b : ℕ) → bit_or a b ≡ 0 → (a ≡ 0) × (b ≡ 0)
zero_or a b e = (omega (arith, or_add_and a b, and_le_r a b), omega (arith, or_add_and a b, and_le_l a b))

-- one place more in the OR of words
pub or_step : (s low high : ℕ) (u : Bool) → (eqb s 0 && (eqb low 0 && (eqb high 0 && u))) ≡ (eqb (bit_or s (low + high * 65536)) 0 && u)
or_step zero zero zero u = refl
or_step zero zero (suc h) u = simp (eqb-suc-zero h, ne_eqb (bit_or zero (zero + suc h * 65536)) 0 (λ e. omega (arith, (zero_or zero (zero + suc h * 65536) e).1)))
or_step zero (suc l) h u = simp (eqb-suc-zero l, ne_eqb (bit_or zero (suc l + h * 65536)) 0 (λ e. omega (arith, (zero_or zero (suc l + h * 65536) e).1)))
or_step (suc s) l h u = simp (eqb-suc-zero s, ne_eqb (bit_or (suc s) (l + h * 65536)) 0 (λ e. omega (arith, (zero_or (suc s) (l + h * 65536) e).0)))

pub unused_next : (s : ℕ) (rs : List Run) (i : ℕ) → i < length rs → let r = get_or rs i no_run in
    (eqb s 0 && unused (drop i rs)) ≡ (eqb (bit_or s (r.low + r.high * 65536)) 0 && unused (drop (i + 1) rs))
unused_next s rs i h = rw (next no_run rs i h) (or_step s _ _ _)

-- Spaced from f on, with the highest category looked at once, at the end.
abbrev pub rises : ℕ → List Run → Bool
rises f [] = leb f 65536
rises f (r ∷ rs) = leb f r.low && (leb r.low r.high && rises (r.high + 2) rs)

-- the floor never falls
rises_high : (f : ℕ) (rs : List Run) → 65536 < f → rises f rs ≡ false
rises_high f [] h = lt-leb f 65536 h
rises_high f (r ∷ rs) h =
    ⊎_elim
    (λ w. simp (lt-leb f r.low w))
    (λ w. ⊎_elim (λ v. simp (lt-leb r.low r.high v, and-false)) (λ v. simp (rises_high (r.high + 2) rs (omega arith), and-false)) (less_or r.high r.low))
    (less_or r.low f)

pub rises_spaced : (f : ℕ) (rs : List Run) → f ≤ 65536 → spaced f rs ≡ rises f rs
rises_spaced f [] h = sym (le-leb f 65536 h)
rises_spaced f (r ∷ rs) h =
    ⊎_elim
    (λ w. simp (lt-leb r.high 65534 w, rises_high (r.high + 2) rs (omega arith)))
    (λ w. simp (le-leb r.high 65534 w, rises_spaced (r.high + 2) rs (omega arith)))
    (less_or 65534 r.high)

-- Places of which the first alone may be used.
pub unused_first : (rs : List Run) → 0 < length rs
    → unused rs ≡ ((eqb (get_or rs 0 no_run).low 0 && eqb (get_or rs 0 no_run).high 0) && unused (drop 1 rs))
unused_first [] h = absurd (omega arith)
unused_first (r ∷ rs) h = go (eqb r.low 0) (eqb r.high 0)
  where
    go : (a b : Bool) → (a && (b && unused rs)) ≡ ((a && b) && unused rs)
    go true b = refl
    go false b = refl

pub first_alone : (n : ℕ) (rs : List Run) → n ≤ 1 → 0 < length rs →
    let r = get_or rs 0 no_run in
    (spaced 0 (take n rs) && unused (drop n rs))
    ≡ (cond (eqb n 0) (eqb r.low 0 && eqb r.high 0) (leb r.low r.high && leb r.high 65534) && unused (drop 1 rs))
first_alone zero rs h k = unused_first rs k
first_alone (suc zero) [] h k = absurd (omega arith)
first_alone (suc zero) (r ∷ rs) h k = simp (le-leb 0 r.low (omega arith), and-true)
first_alone (suc (suc n)) rs h k = absurd (omega arith)
