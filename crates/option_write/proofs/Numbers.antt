-- Laws of two-octet numbers that are written one after another: the categories from run to run, and the ends of runs.
use Prim.Native.Nat.{ℕ, zero, suc, ◌+◌, ◌-◌, ◌*◌, ◌/◌, ◌%◌, ◌≤◌, ◌<◌}
use mathlib.Core.Path.{◌≡◌, refl, ap, sym, ◌∙◌}
use mathlib.Core.List.{List, [], ◌∷◌, ◌++◌, append_assoc}
use lib.ListN.{length, get_or, set, drop, length-append, length-drop, length-map}
use lib.Seq.{set_at, drop-cons, drop-drop, get_or-drop}
use native.Mathlib.Omega.{arith}
use native.Mathlib.Numerals.{add-one}
use Rattle.label.specs.declared.Run.{Run}
use Rattle.label.specs.Runs.{count_of}
use Rattle.label_keys.specs.Keys.{key_run, key_runs}
use Rattle.label_keys.proofs.Keys.{key_at}
use Rattle.option.specs.Spelling.{count_up, numbers_of}
use Rattle.option.specs.Index.{numbers_out, pair_number}
use Rattle.option.proofs.Spelled.{numbers_count}
use Rattle.option.proofs.Bridge.{rank_in_lem}

module _ (f : ℕ → ℕ) where
  numbers_length : (n : ℕ) → length (numbers_out f n) ≡ 2 * n
  numbers_length zero = refl
  numbers_length (suc n) = omega (arith, numbers_length n, length-append (numbers_out f n) (f n / 256 ∷ f n % 256 ∷ []))

  -- one number more is written
  pub numbers_store : (out : List ℕ) (k v : ℕ) → 2 * k + 1 < length out → v ≡ f k
      → set (set (numbers_out f k ++ drop (2 * k) out) (2 * k) (v / 256)) (2 * k + 1) (v % 256) ≡ numbers_out f (k + 1) ++ drop (2 * (k + 1)) out
  numbers_store out k v h q =
      ap (λ (z : ℕ). set (set (numbers_out f k ++ drop (2 * k) out) (2 * k) (z / 256)) (2 * k + 1) (z % 256)) q
      ∙ ap (λ (z : List ℕ). set (set (A ++ z) (2 * k) x) (2 * k + 1) y) (drop-cons out (2 * k) 0 (omega arith) ∙ ap (λ (z : List ℕ). a ∷ z) (drop-cons out (suc (2 * k)) 0 (omega arith)))
      ∙ ap (λ (z : List ℕ). set z (2 * k + 1) y) (set_at A a (b ∷ D) x (2 * k) (numbers_length k) ∙ sym (append_assoc A (x ∷ []) (b ∷ D)))
      ∙ set_at (A ++ x ∷ []) b D y (2 * k + 1) (omega (arith, numbers_length k, length-append A (x ∷ [])))
      ∙ append_assoc A (x ∷ []) (y ∷ D)
      ∙ sym (append_assoc A (x ∷ y ∷ []) D)
      ∙ rw (add-one k, next)
    where
      A : List ℕ
      A = numbers_out f k

      x : ℕ
      x = f k / 256

      y : ℕ
      y = f k % 256

      a : ℕ
      a = get_or out (2 * k) 0

      b : ℕ
      b = get_or out (suc (2 * k)) 0

      D : List ℕ
      D = drop (suc (suc (2 * k))) out

      next : 2 * suc k ≡ suc (suc (2 * k))
      next = omega arith

  -- the last of m numbers, a top without its bottom
  pub top_store : (out was a : List ℕ) (j m x : ℕ) → 4 * j + 1 < length out → was ≡ numbers_out f (2 * j) ++ drop (2 * (2 * j)) out → x ≡ f (2 * j)
      → a ≡ set (set was (2 * (2 * j)) (x / 256)) (2 * (2 * j) + 1) (x % 256) → 2 * j + 1 ≡ m → a ≡ numbers_out f m ++ drop (2 * m) out
  top_store out was a j m x h w p d e =
      d
      ∙ ap (λ (z : List ℕ). set (set z (2 * (2 * j)) (x / 256)) (2 * (2 * j) + 1) (x % 256)) w
      ∙ numbers_store out (2 * j) x (omega arith) p
      ∙ ap (λ (k : ℕ). numbers_out f k ++ drop (2 * k) out) e

  -- two numbers more, the ends of pair j
  pub pair_store : (out was a b : List ℕ) (j x y : ℕ) → 4 * j + 3 < length out → was ≡ numbers_out f (2 * j) ++ drop (2 * (2 * j)) out → x ≡ f (2 * j) → y ≡ f (2 * j + 1)
      → a ≡ set (set was (2 * (2 * j)) (x / 256)) (2 * (2 * j) + 1) (x % 256)
      → b ≡ set (set a (2 * (2 * j + 1)) (y / 256)) (2 * (2 * j + 1) + 1) (y % 256)
      → b ≡ numbers_out f (2 * (j + 1)) ++ drop (2 * (2 * (j + 1))) out
  pair_store out was a b j x y h w p q d e =
      let first : a ≡ numbers_out f (2 * j + 1) ++ drop (2 * (2 * j + 1)) out = top_store out was a j (2 * j + 1) x (omega arith) w p d refl in
      let n : 2 * j + 1 + 1 ≡ 2 * (j + 1) = omega arith in
      e
      ∙ ap (λ (z : List ℕ). set (set z (2 * (2 * j + 1)) (y / 256)) (2 * (2 * j + 1) + 1) (y % 256)) first
      ∙ numbers_store out (2 * j + 1) y (omega arith) q
      ∙ ap (λ (k : ℕ). numbers_out f k ++ drop (2 * k) out) n

-- Tag 2: j categories of the first run that is left are written, and k in all.
abbrev pub Within : List Run → ℕ → Type 0
Within [] j = Unit {0}
Within (r ∷ rs) j = j ≤ r.high + 1 - r.low

pub record Written (all : List ℕ) (left : List Run) (j k : ℕ) : Type 0 where
  pub rest : drop k all ≡ drop j (numbers_of left)
  pub within : Within left j

pub fresh : (left : List Run) → Within left 0
fresh [] = tt
fresh (r ∷ rs) = omega arith

up_past : (x n : ℕ) (rest : List ℕ) → drop n (count_up x n rest) ≡ rest
up_past x zero rest = refl
up_past x (suc n) rest = up_past (x + 1) n rest

up_long : (x n : ℕ) (rest : List ℕ) → n ≤ length (count_up x n rest)
up_long x zero rest = omega arith
up_long x (suc n) rest = omega (arith, up_long (x + 1) n rest)

module _ {all : List ℕ} {r : Run} {left : List Run} {j k : ℕ} (w : Written all (r ∷ left) j k) where
  -- the run is done
  pub passed : r.high < r.low + j → Written all left 0 k
  passed h =
      let e : j ≡ r.high + 1 - r.low = omega (arith, w.within) in
      record {
        rest = w.rest ∙ ap (λ (n : ℕ). drop n (numbers_of (r ∷ left))) e ∙ up_past r.low (r.high + 1 - r.low) (numbers_of left);
        within = fresh left;
      }

  module _ (h : r.low + j ≤ r.high) where
    first : drop k all ≡ (r.low + j) ∷ drop (suc j) (numbers_of (r ∷ left))
    first =
        w.rest
        ∙ drop-cons (numbers_of (r ∷ left)) j 0 (omega (arith, up_long r.low (r.high + 1 - r.low) (numbers_of left)))
        ∙ ap (λ (v : ℕ). v ∷ drop (suc j) (numbers_of (r ∷ left))) (rank_in_lem r.low (r.high + 1 - r.low) (numbers_of left) j (omega arith))

    -- its next category is number k
    pub there : k < length all
    there = omega (arith, length-drop k all, ap length first)

    pub number : r.low + j ≡ get_or all k 0
    number =
        let e : k + 0 ≡ k = omega arith in
        sym (ap (λ (z : List ℕ). get_or z 0 0) first) ∙ get_or-drop k all 0 0 ∙ ap (λ (n : ℕ). get_or all n 0) e

    pub another : Written all (r ∷ left) (j + 1) (k + 1)
    another =
        record {
          rest = rw (add-one j) (sym (drop-drop 1 k all) ∙ ap (drop 1) first);
          within = omega arith;
        }

-- nothing is left
pub all_written : (rs : List Run) {j k : ℕ} → Written (numbers_of rs) [] j k → k ≤ count_of rs → k ≡ count_of rs
all_written rs {j} {k} w h =
    let n : length (drop j (numbers_of [])) ≡ 0 = omega (arith, length-drop j (numbers_of [])) in
    omega (arith, length-drop k (numbers_of rs), ap length w.rest, numbers_count rs)

-- Tag 5: the ends of a key's run are the numbers of the definition.
pub top_is : (ks : List ℕ) (j : ℕ) → get_or ks (length ks - 1 - j) 0 % 65536 ≡ pair_number (key_runs ks) (2 * j)
top_is ks j =
    let half : 2 * j / 2 ≡ j = omega arith in
    let even : 2 * j % 2 ≡ 0 = omega arith in
    rw (length-map ks key_run, half, even, key_at ks (length ks - 1 - j))

pub bottom_is : (ks : List ℕ) (j : ℕ) → get_or ks (length ks - 1 - j) 0 / 65536 ≡ pair_number (key_runs ks) (2 * j + 1)
bottom_is ks j =
    let half : (2 * j + 1) / 2 ≡ j = omega arith in
    let odd : (2 * j + 1) % 2 ≡ 1 = omega arith in
    rw (length-map ks key_run, half, odd, key_at ks (length ks - 1 - j))
