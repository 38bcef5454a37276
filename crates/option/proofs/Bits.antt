-- Laws of bitmaps: each bit that is written is the bit that is read.
use Prim.Native.Nat.{ℕ, zero, suc, ◌+◌, ◌*◌, ◌/◌, ◌%◌, ◌^◌, ◌≤◌, ◌<◌}
use mathlib.Core.Path.{◌≡◌, refl, sym, ◌∙◌}
use mathlib.Core.List.{[], ◌∷◌}
use mathlib.Core.Bool.{Bool, true, false, ◌&&◌}
use lib.ListN.{length, get_or, length-append, get_or-append, get_or-eq_default}
use lib.Seq.{get_or_at}
use lib.Dec.{eqb, ltb}
use lib.Pow.{pow_mono}
use native.Mathlib.Omega.{arith}
use native.Mathlib.Nat.{two-pow-succ, add-zero, zero-div}
use native.Mathlib.Numerals.{add-one}
use native.Mathlib.Decide.{dec_le}
use borrow.Author.Tests.{lt-ltb, le-ltb}
use Rattle.option.specs.Bitmap.{weight, bit_at}
use Rattle.option.specs.Spelling.{bit_of, bits_of, octets_of}

pub bit_le : (b : Bool) → bit_of b ≤ 1
bit_le true = omega arith
bit_le false = omega arith

pub bit_back : (b : Bool) → eqb (bit_of b) 1 ≡ b
bit_back true = refl
bit_back false = refl

module _ (f : ℕ → Bool) (base : ℕ) where
  pub bits_lt : (k : ℕ) → bits_of f base k < 2 ^ k
  bits_lt zero = omega arith
  bits_lt (suc k) = omega (arith, bits_lt k, bit_le (f (base + k)), two-pow-succ k)

  pub bits_small : (k : ℕ) → k < 8 → bits_of f base k < 128
  bits_small k h = omega (arith, bits_lt k, pow_mono {i = k} {j = 7} (omega arith))

  pub bits_one : (k : ℕ) → f (base + k) ≡ true → bits_of f base k * 2 + 1 ≡ bits_of f base (k + 1)
  bits_one k e = rw (add-one k, bits_of, e)

  pub bits_zero : (k : ℕ) → f (base + k) ≡ false → bits_of f base k * 2 ≡ bits_of f base (k + 1)
  bits_zero k e = rw (add-one, bits_of, e) (sym (add-zero _))

  -- bit k of the octet that is written
  pub bit_in : (k : ℕ) → k < 8 → bits_of f base 8 / weight k % 2 ≡ bit_of (f (base + k))
  bit_in zero h = omega (arith, bit_le (f (base + 0)), bit_le (f (base + 1)), bit_le (f (base + 2)), bit_le (f (base + 3)), bit_le (f (base + 4)), bit_le (f (base + 5)), bit_le (f (base + 6)), bit_le (f (base + 7)))
  bit_in (suc zero) h = omega (arith, bit_le (f (base + 0)), bit_le (f (base + 1)), bit_le (f (base + 2)), bit_le (f (base + 3)), bit_le (f (base + 4)), bit_le (f (base + 5)), bit_le (f (base + 6)), bit_le (f (base + 7)))
  bit_in (suc (suc zero)) h = omega (arith, bit_le (f (base + 0)), bit_le (f (base + 1)), bit_le (f (base + 2)), bit_le (f (base + 3)), bit_le (f (base + 4)), bit_le (f (base + 5)), bit_le (f (base + 6)), bit_le (f (base + 7)))
  bit_in (suc (suc (suc zero))) h = omega (arith, bit_le (f (base + 0)), bit_le (f (base + 1)), bit_le (f (base + 2)), bit_le (f (base + 3)), bit_le (f (base + 4)), bit_le (f (base + 5)), bit_le (f (base + 6)), bit_le (f (base + 7)))
  bit_in (suc (suc (suc (suc zero)))) h = omega (arith, bit_le (f (base + 0)), bit_le (f (base + 1)), bit_le (f (base + 2)), bit_le (f (base + 3)), bit_le (f (base + 4)), bit_le (f (base + 5)), bit_le (f (base + 6)), bit_le (f (base + 7)))
  bit_in (suc (suc (suc (suc (suc zero))))) h = omega (arith, bit_le (f (base + 0)), bit_le (f (base + 1)), bit_le (f (base + 2)), bit_le (f (base + 3)), bit_le (f (base + 4)), bit_le (f (base + 5)), bit_le (f (base + 6)), bit_le (f (base + 7)))
  bit_in (suc (suc (suc (suc (suc (suc zero)))))) h = omega (arith, bit_le (f (base + 0)), bit_le (f (base + 1)), bit_le (f (base + 2)), bit_le (f (base + 3)), bit_le (f (base + 4)), bit_le (f (base + 5)), bit_le (f (base + 6)), bit_le (f (base + 7)))
  bit_in (suc (suc (suc (suc (suc (suc (suc zero))))))) h = omega (arith, bit_le (f (base + 0)), bit_le (f (base + 1)), bit_le (f (base + 2)), bit_le (f (base + 3)), bit_le (f (base + 4)), bit_le (f (base + 5)), bit_le (f (base + 6)), bit_le (f (base + 7)))
  bit_in (suc (suc (suc (suc (suc (suc (suc (suc k)))))))) h = absurd (omega arith)

module _ (f : ℕ → Bool) where
  pub octets_length : (n : ℕ) → length (octets_of f n) ≡ n
  octets_length zero = refl
  octets_length (suc n) = omega (arith, octets_length n, length-append (octets_of f n) (bits_of f (8 * n) 8 ∷ []))

  octets_at_lem : (n i : ℕ) → i < n → get_or (octets_of f n) i 0 ≡ bits_of f (8 * i) 8
  octets_at_lem zero i h = absurd (omega arith)
  octets_at_lem (suc n) i h = go (dec_le (suc i) n) (octets_at_lem n i)
    where
      go : Dec (i < n) → (i < n → get_or (octets_of f n) i 0 ≡ bits_of f (8 * i) 8) → get_or (octets_of f (suc n)) i 0 ≡ bits_of f (8 * i) 8
      go (yes u) ih = get_or-append (octets_of f n) (bits_of f (8 * n) 8 ∷ []) 0 i (omega (arith, octets_length n)) ∙ ih u
      go (no u) ih = let e : i ≡ n = omega arith in rw e (get_or_at (octets_of f n) (bits_of f (8 * n) 8) [] 0 n (octets_length n))

  -- what is read of the written octets is the set, up to where they end
  pub octets_bit : (n c : ℕ) → bit_at (octets_of f n) c ≡ (ltb c (8 * n) && f c)
  octets_bit n c = elim (dec_le (suc c) (8 * n)) [ yes u ↦ inside u | no u ↦ outside (omega arith) ]
    where
      here : 8 * (c / 8) + c % 8 ≡ c
      here = omega arith

      inside : c < 8 * n → bit_at (octets_of f n) c ≡ (ltb c (8 * n) && f c)
      inside u = rw (lt-ltb c (8 * n) u, octets_at_lem n (c / 8) (omega arith), bit_in f (8 * (c / 8)) (c % 8) (omega arith), here) (bit_back (f c))

      outside : 8 * n ≤ c → bit_at (octets_of f n) c ≡ (ltb c (8 * n) && f c)
      outside u = rw (le-ltb c (8 * n) u, get_or-eq_default (octets_of f n) 0 {n = c / 8} (omega (arith, octets_length n)), zero-div)
