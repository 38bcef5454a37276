-- The same by index, as a loop goes through it: the forms that the readers and writers of a tag use.
use Rattle.std.specs.Prelude.{ℕ, zero, suc, ◌+◌, ◌-◌, ◌*◌, ◌/◌, ◌%◌, List, [], ◌∷◌, ◌++◌, Bool, ◌&&◌, ◌||◌, cond, length, get_or, leb, ltb, eqb}
use Rattle.label.specs.declared.Run.{Run}
use Rattle.label.specs.Runs.{run, push_run}
pub use Rattle.label.specs.Runs.{set_runs}
use Rattle.option.specs.Spelling.{numbers_of}

-- the ranges lo 0 to hi 0, lo 1 to hi 1, .. up to n of them, lowest first
abbrev pub range_runs : (ℕ → ℕ) → (ℕ → ℕ) → ℕ → List Run
range_runs lo hi zero = []
range_runs lo hi (suc k) = push_run (range_runs lo hi k) (lo k) (hi k)

-- the first index below n at which f holds, or n
abbrev pub first_true : (ℕ → Bool) → ℕ → ℕ
first_true f zero = zero
first_true f (suc n) = cond (f zero) zero (suc (first_true (λ k. f (suc k)) n))

-- two-octet number k of the list; octets past its end count as 0
abbrev pub number_at : List ℕ → ℕ → ℕ
number_at s k = get_or s (2 * k) 0 * 256 + get_or s (2 * k + 1) 0

-- tag 2: a number is bad that is 65535, or not above the one before it
abbrev pub bad_number : List ℕ → ℕ → Bool
bad_number s k = eqb (number_at s k) 65535 || (ltb 0 k && leb (number_at s k) (number_at s (k - 1)))

-- tag 5: pairs are top, then bottom; a last bottom left out is 0
abbrev pub pairs_of : List ℕ → ℕ
pairs_of s = (length s + 2) / 4

abbrev pub top_at : List ℕ → ℕ → ℕ
top_at s j = number_at s (2 * j)

abbrev pub bottom_at : List ℕ → ℕ → ℕ
bottom_at s j = number_at s (2 * j + 1)

-- a pair is bad whose top is 65535 or below its bottom, or not below the bottom before it
abbrev pub bad_pair : List ℕ → ℕ → Bool
bad_pair s j = eqb (top_at s j) 65535 || (ltb (top_at s j) (bottom_at s j) || (ltb 0 j && leb (bottom_at s (j - 1)) (top_at s j)))

-- the pairs, lowest first
abbrev pub low_pair : List ℕ → ℕ → ℕ
low_pair s k = bottom_at s (pairs_of s - 1 - k)

abbrev pub high_pair : List ℕ → ℕ → ℕ
high_pair s k = top_at s (pairs_of s - 1 - k)

-- the octets of the numbers f 0, f 1, .. up to n of them
abbrev pub numbers_out : (ℕ → ℕ) → ℕ → List ℕ
numbers_out f zero = []
numbers_out f (suc n) = numbers_out f n ++ f n / 256 ∷ f n % 256 ∷ []

-- number k of a tag 5 body: runs from the last to the first, top then bottom
abbrev pub pair_number : List Run → ℕ → ℕ
pair_number xs k = cond (eqb (k % 2) 0) (get_or xs (length xs - 1 - k / 2) (run 0 0)).high (get_or xs (length xs - 1 - k / 2) (run 0 0)).low

-- category k of the runs, counted from the lowest, or 0
abbrev pub rank_number : List Run → ℕ → ℕ
rank_number rs k = get_or (numbers_of rs) k 0
