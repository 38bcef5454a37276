-- A loop that reads a list: the rest that it has still to read gives the whole. Three laws serve every list: a turn, a refusal, the end.
use mathlib.Core.List.{List, [], ◌∷◌, ◌++◌, append_assoc, append-nil}
use mathlib.Core.Path.{◌≡◌, refl, ◌∙◌}
use Prim.Native.Nat.{ℕ, suc, ◌+◌, ◌-◌, ◌≤◌, ◌<◌}
use native.Mathlib.Omega.{arith}
use native.Mathlib.Numerals.{add-one}
use lib.ListN.{length, take, set, length-append}
use lib.Seq.{take-suc-set}
use Rattle.file_format.specs.Format.{Found, got, bad, after, many_at}

module _ {A S : Type 0} (rd : S → ℕ → Found A) (next : S → A → S) where
  -- n elements from (st, at) on, after the elements xs
  abbrev pub rest_reads : List A → ℕ → S → ℕ → Found (List A)
  rest_reads xs n st at = after (many_at rd next n st at) (λ ys m. got (xs ++ ys) m)

  pub rest_begins : (n : ℕ) (st : S) (at : ℕ) → many_at rd next n st at ≡ rest_reads [] n st at
  rest_begins n st at = go (many_at rd next n st at)
    where
      go : (x : Found (List A)) → x ≡ after x (λ ys m. got ([] ++ ys) m)
      go (got ys m) = refl
      go (bad m) = refl

  pub rest_turns : (xs : List A) (n i : ℕ) (st : S) (at : ℕ) (a : A) (m : ℕ) → i < n → rd st at ≡ got a m
      → rest_reads xs (n - i) st at ≡ rest_reads (xs ++ (a ∷ [])) (n - (i + 1)) (next st a) m
  rest_turns xs n i st at a m h e =
      let k : n - i ≡ suc (n - (i + 1)) = omega arith in
      rw (k, e) (go (many_at rd next (n - (i + 1)) (next st a) m))
    where
      go : (x : Found (List A)) → after (after x (λ ys j. got (a ∷ ys) j)) (λ ys j. got (xs ++ ys) j) ≡ after x (λ ys j. got ((xs ++ (a ∷ [])) ++ ys) j)
      go (got ys j) = rw (append_assoc xs (a ∷ []) ys)
      go (bad j) = refl

  pub rest_refuses : (xs : List A) (n i : ℕ) (st : S) (at m : ℕ) → i < n → rd st at ≡ bad m → rest_reads xs (n - i) st at ≡ bad m
  rest_refuses xs n i st at m h e = let k : n - i ≡ suc (n - (i + 1)) = omega arith in rw (k, e)

  pub rest_ends : (xs : List A) (n i : ℕ) (st : S) (at : ℕ) → n ≤ i → rest_reads xs (n - i) st at ≡ got xs at
  rest_ends xs n i st at h = let k : n - i ≡ 0 = omega arith in rw (k, append-nil)

  -- i of n elements are read, `done`, and the loop stands at (st, at)
  pub record Passed (n : ℕ) (st₀ : S) (at₀ : ℕ) (done : List A) (i : ℕ) (st : S) (at : ℕ) : Type 0 where
    pub size : length done ≡ i
    pub rest : many_at rd next n st₀ at₀ ≡ rest_reads done (n - i) st at

  pub begins : (n : ℕ) (st : S) (at : ℕ) → Passed n st at [] 0 st at
  begins n st at = let e : n - 0 ≡ n = omega arith in record { size = refl; rest = rw e (rest_begins n st at) }

  module _ {n : ℕ} {st₀ : S} {at₀ : ℕ} {done : List A} {i : ℕ} {st : S} {at : ℕ} (p : Passed n st₀ at₀ done i st at) where
    pub turns : (a : A) (m : ℕ) → i < n → rd st at ≡ got a m → Passed n st₀ at₀ (done ++ (a ∷ [])) (i + 1) (next st a) m
    turns a m h e =
        record {
          size = omega (arith, length-append done (a ∷ []), p.size);
          rest = p.rest ∙ rest_turns done n i st at a m h e;
        }

    pub refuses : (m : ℕ) → i < n → rd st at ≡ bad m → many_at rd next n st₀ at₀ ≡ bad m
    refuses m h e = p.rest ∙ rest_refuses done n i st at m h e

    pub ends : n ≤ i → many_at rd next n st₀ at₀ ≡ got done at
    ends h = p.rest ∙ rest_ends done n i st at h

-- an element put into its place
pub put_next : {A : Type 0} (l : List A) (i : ℕ) (x : A) → i < length l → take (i + 1) (set l i x) ≡ take i l ++ (x ∷ [])
put_next l i x h = rw (add-one i) (take-suc-set l i x h)
