-- The one form as propositions (`Form`), with every run below n: the highest category, and how many categories there are.
use Prim.Native.Nat.{ℕ, ◌+◌, ◌-◌, ◌*◌, ◌≤◌, ◌<◌}
use mathlib.Core.Path.{◌≡◌, refl}
use mathlib.Core.List.{List, [], ◌∷◌}
use mathlib.Core.Bool.{true, false, or-true, and-false}
use lib.ListN.{length}
use native.Mathlib.Omega.{arith}
use borrow.Author.Tests.{le-leb, lt-leb}
use Rattle.label.specs.declared.Run.{Run}
use Rattle.label.specs.Runs.{in_run, covers, spaced, top_of}
use Rattle.label.proofs.Runs.{first}
pub use Rattle.label.proofs.Form.{Canon, clear, unique}
pub use Rattle.label.proofs.Runs.{spaced_canon}

abbrev pub Below : ℕ → List Run → Type 0
Below n [] = Unit {0}
Below n (r ∷ rs) = (r.high < n) × Below n rs

pub spaced_below : (f : ℕ) (rs : List Run) → spaced f rs ≡ true → Below 65535 rs
spaced_below f [] e = tt
spaced_below f (r ∷ rs) e = let s = first f r rs e in (omega (arith, s.top), spaced_below (r.high + 2) rs s.rest)

pub canon_spaced : (f : ℕ) (rs : List Run) → Canon f rs → Below 65535 rs → spaced f rs ≡ true
canon_spaced f [] k b = refl
canon_spaced f (r ∷ rs) k b =
    simp (le-leb f r.low k.0, le-leb r.low r.high k.1, le-leb r.high 65534 (omega (arith, b.0)))
    (canon_spaced (r.high + 2) rs k.2 b.1)

pub canon_lower : (f g : ℕ) (rs : List Run) → g ≤ f → Canon f rs → Canon g rs
canon_lower f g [] h k = tt
canon_lower f g (r ∷ rs) h k = (omega (arith, k.0), k.1, k.2)

pub below_weaken : (n m : ℕ) (rs : List Run) → n ≤ m → Below n rs → Below m rs
below_weaken n m [] q b = tt
below_weaken n m (r ∷ rs) q b = (omega arith, below_weaken n m rs q b.1)

-- runs that keep apart and end below n are at most half as many
pub canon_length : (n lo : ℕ) (rs : List Run) → Canon lo rs → Below n rs → lo ≤ n + 1 → lo + 2 * length rs ≤ n + 1
canon_length n lo [] k b q = omega arith
canon_length n lo (r ∷ rs) k b q = omega (arith, canon_length n (r.high + 2) rs k.2 b.1 (omega arith))

-- The highest category.

above : (lo : ℕ) (r : Run) (rs : List Run) → Canon lo (r ∷ rs) → r.high < top_of (r ∷ rs)
above lo r [] k = omega arith
above lo r (s ∷ rs) k = omega (arith, above (r.high + 2) s rs k.2)

pub top_clear : (lo : ℕ) (xs : List Run) (c : ℕ) → Canon lo xs → top_of xs ≤ c → covers xs c ≡ false
top_clear lo [] c k h = refl
top_clear lo (r ∷ []) c k h = simp (lt-leb c r.high (omega arith), and-false)
top_clear lo (r ∷ s ∷ rs) c k h =
    rw (lt-leb c r.high (omega (arith, above (r.high + 2) s rs k.2)), and-false)
    (top_clear (r.high + 2) (s ∷ rs) c k.2 h)

pub top_covered : (lo : ℕ) (r : Run) (rs : List Run) → Canon lo (r ∷ rs) → covers (r ∷ rs) (top_of (r ∷ rs) - 1) ≡ true
top_covered lo r [] k = simp (le-leb r.low (r.high + 1 - 1) (omega arith), le-leb (r.high + 1 - 1) r.high (omega arith))
top_covered lo r (s ∷ rs) k = rw (top_covered (r.high + 2) s rs k.2) (or-true (in_run r (top_of (s ∷ rs) - 1)))

pub top_below : (lo n : ℕ) (rs : List Run) → Canon lo rs → Below n rs → top_of rs ≤ n
top_below lo n [] k b = omega arith
top_below lo n (r ∷ []) k b = omega (arith, b.0)
top_below lo n (r ∷ s ∷ rs) k b = top_below (r.high + 2) n (s ∷ rs) k.2 b.1
