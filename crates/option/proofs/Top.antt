-- Laws of the highest category, and of the shortest bitmap.
use Prim.Native.Nat.{ℕ, suc, ◌-◌, ◌*◌, ◌/◌, ◌≤◌, ◌<◌}
use mathlib.Core.Path.{◌≡◌, refl, ap, sym, ◌∙◌}
use mathlib.Core.List.{List, [], ◌∷◌}
use mathlib.Core.Bool.{true, false, not, true≢false}
use lib.ListN.{length, get_or, get_or-eq_default}
use lib.Dec.{eqb}
use native.Mathlib.Omega.{arith}
use native.Mathlib.Nat.{le_refl, zero-div}
use native.Mathlib.Decide.{dec_le}
use borrow.Author.Tests.{lt-ltb, le-ltb, eqb-true}
use Rattle.label.specs.declared.Run.{Run}
use Rattle.label.specs.Runs.{covers, top_of}
use Rattle.label.proofs.Canon.{Canon, top_clear, top_covered}
use Rattle.option.specs.Bitmap.{bit_at}
use Rattle.option.specs.Spelling.{octets_of}
use Rattle.option.specs.Spelling.{size1}
use Rattle.option.specs.Permitted.{trimmed}
use Rattle.label.proofs.Bools.{or_true_right, not_yes}
use Rattle.option.proofs.Bits.{octets_bit, octets_length}

top_some : (r : Run) (rs : List Run) → 0 < top_of (r ∷ rs)
top_some r [] = omega arith
top_some r (s ∷ rs) = top_some s rs

pub bit_past : (b : List ℕ) (c : ℕ) → 8 * length b ≤ c → bit_at b c ≡ false
bit_past b c h = rw (get_or-eq_default b 0 {n = c / 8} (omega arith), zero-div)

-- what is read of a bitmap that is long enough is the set
pub bitmap_bit : (xs : List Run) (n c : ℕ) → Canon 0 xs → size1 xs ≤ n → bit_at (octets_of (covers xs) n) c ≡ covers xs c
bitmap_bit xs n c k h = octets_bit (covers xs) n c ∙ elim (dec_le (suc c) (8 * n)) [ yes u ↦ simp (lt-ltb c (8 * n) u) | no u ↦ rw (le-ltb c (8 * n) (omega arith)) (sym (top_clear 0 xs c k (omega arith))) ]

-- the last octet of the shortest one has the highest category's bit
last_set : (b : List ℕ) (n c : ℕ) → c / 8 ≡ n → bit_at b c ≡ true → eqb (get_or b n 0) 0 ≡ false
last_set b n c at bit = not_yes (eqb (get_or b n 0) 0) (λ e. true≢false (sym bit ∙ rw (at, eqb-true (get_or b n 0) 0 e, zero-div)))

pub shortest_trimmed : (xs : List Run) → Canon 0 xs → trimmed (octets_of (covers xs) (size1 xs)) ≡ true
shortest_trimmed [] k = refl
shortest_trimmed (r ∷ rs) k =
    let n : length (octets_of (covers (r ∷ rs)) (size1 (r ∷ rs))) ≡ size1 (r ∷ rs) = octets_length (covers (r ∷ rs)) (size1 (r ∷ rs)) in
    let pos : 0 < top_of (r ∷ rs) = top_some r rs in
    let at : (top_of (r ∷ rs) - 1) / 8 ≡ size1 (r ∷ rs) - 1 = omega arith in
    let bit : bit_at (octets_of (covers (r ∷ rs)) (size1 (r ∷ rs))) (top_of (r ∷ rs) - 1) ≡ true = bitmap_bit (r ∷ rs) (size1 (r ∷ rs)) (top_of (r ∷ rs) - 1) k (le_refl (size1 (r ∷ rs))) ∙ top_covered 0 r rs k in
    rw n (or_true_right (eqb (size1 (r ∷ rs)) 0) (ap not (last_set (octets_of (covers (r ∷ rs)) (size1 (r ∷ rs))) (size1 (r ∷ rs) - 1) (top_of (r ∷ rs) - 1) at bit)))

-- no shorter bitmap means the set
pub shortest : (xs : List Run) (b : List ℕ) → Canon 0 xs → ((c : ℕ) → bit_at b c ≡ covers xs c) → size1 xs ≤ length b
shortest [] b k same = omega arith
shortest (r ∷ rs) b k same = elim (dec_le (size1 (r ∷ rs)) (length b)) [ yes u ↦ u | no u ↦ absurd (true≢false (sym (top_covered 0 r rs k) ∙ sym (same (top_of (r ∷ rs) - 1)) ∙ bit_past b (top_of (r ∷ rs) - 1) (omega arith))) ]
