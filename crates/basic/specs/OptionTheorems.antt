-- Wish 3; RFC 1108, 2.1 to 2.4: what is proved of reading and writing option 130 alone, over the meaning of an option.
use Rattle.std.specs.Prelude.{ℕ, ◌≤◌, ◌<◌, ◌≡◌, true, false, List, ◌↔◌, length, take, drop, is_some, Some, Ok, Err}
use Rattle.option.specs.Option.{Octets}
use Rattle.basic.specs.declared.BasicReading.{BasicReading}
use Rattle.basic.specs.declared.BasicError.{BasicError}
use Rattle.basic.specs.declared.BasicError.TheVariants.{Short}
use Rattle.basic.specs.Option.{basic_level, basic_flags, basic_valid, BasicMeans}
use Rattle.basic.specs.Alone.{Reading, reading_row, basic_found, basic_reading, basic_option, writable, writing_row, basic_writing, basic_out}

-- a row that was read
abbrev pub read_row : ℕ → ℕ → Reading
read_row v f = record { number = 0; level = v; flags = f }

-- reading alone
pub record ReadsBasic : Type 0 where
  -- an option is read exactly when it is valid; then level and flags are those that it means
  pub exactly : (o : List ℕ) → (is_some (basic_reading o) ≡ true) ↔ (basic_valid o ≡ true)
  pub numbered : (o : List ℕ) → ((reading_row (basic_reading o)).number ≡ 0) ↔ (basic_valid o ≡ true)
  pub means : (o : List ℕ) (r : BasicReading) → Octets o → basic_reading o ≡ Some r → BasicMeans o r.level r.flags
  pub row_means : (o : List ℕ) → Octets o → (reading_row (basic_reading o)).number ≡ 0
      → BasicMeans o (reading_row (basic_reading o)).level (reading_row (basic_reading o)).flags
  -- every valid option that means a level and flags gives them back
  pub back : (o : List ℕ) (v f : ℕ) → BasicMeans o v f → basic_reading o ≡ basic_found v f
  pub row_back : (o : List ℕ) (v f : ℕ) → BasicMeans o v f → reading_row (basic_reading o) ≡ read_row v f

-- two options mean the same: whatever the one means, the other does
abbrev pub MeanTheSame : List ℕ → List ℕ → Type 0
MeanTheSame o p = (v f : ℕ) → BasicMeans o v f ↔ BasicMeans p v f

-- "final octets without flags, which mean the same": level and flags are all that an option means
abbrev pub OneMeaning : Type 0
OneMeaning =
    (o p : List ℕ)
    → Octets o
    → Octets p
    → basic_valid o ≡ true
    → basic_valid p ≡ true
    → MeanTheSame o p ↔ ((basic_level o ≡ basic_level p) × (basic_flags o ≡ basic_flags p))

-- the option is valid, means the level and the flags, and every other that does is longer
pub record ShortestBasic (s : List ℕ) (v f : ℕ) : Type 0 where
  pub means : BasicMeans s v f
  pub shortest : (o : List ℕ) → BasicMeans o v f → length s ≤ length o
  pub only : (o : List ℕ) → BasicMeans o v f → length o ≤ length s → o ≡ s

-- writing alone
pub record WritesBasic : Type 0 where
  -- a level and flags can be written exactly when some valid option means them; what is written then is the shortest that does
  pub exactly : (v f : ℕ) → (writable v f ≡ false) ↔ ((o : List ℕ) → BasicMeans o v f → ⊥)
  pub shortest : (v f : ℕ) → writable v f ≡ true → ShortestBasic (basic_option v f) v f
  -- read alone, it gives level and flags back
  pub back : (v f : ℕ) → writable v f ≡ true → basic_reading (basic_option v f) ≡ basic_found v f
  pub row_back : (v f : ℕ) → writable v f ≡ true → reading_row (basic_reading (basic_option v f)) ≡ read_row v f
  -- an output of at least 5 octets gets it in front, and its count; the octets behind it stay
  pub done : (v f : ℕ) (out : List ℕ) → writable v f ≡ true → 5 ≤ length out
      → (basic_writing v f (length out) ≡ Ok (length (basic_option v f)))
      × (take (length (basic_option v f)) (basic_out v f out) ≡ basic_option v f)
      × (drop (length (basic_option v f)) (basic_out v f out) ≡ drop (length (basic_option v f)) out)
  pub done_row : (v f : ℕ) (out : List ℕ) → writable v f ≡ true → 5 ≤ length out
      → ((writing_row (basic_writing v f (length out))).number ≡ 0)
      × ((writing_row (basic_writing v f (length out))).count ≡ length (basic_option v f))
  -- 1 exactly for an output under 5 octets
  pub short : (v f n : ℕ) → (basic_writing v f n ≡ Err Short) ↔ (n < 5)
  pub numbered : (v f n : ℕ) → ((writing_row (basic_writing v f n)).number ≡ 1) ↔ (n < 5)
  -- a refusal has count 0 and leaves the output as it was; its length is as it was always
  pub refused : (v f : ℕ) (out : List ℕ) (e : BasicError) → basic_writing v f (length out) ≡ Err e → basic_out v f out ≡ out
  pub refused_row : (v f : ℕ) (out : List ℕ) → ((writing_row (basic_writing v f (length out))).number ≡ 0 → ⊥)
      → ((writing_row (basic_writing v f (length out))).count ≡ 0) × (basic_out v f out ≡ out)
  pub sized : (v f : ℕ) (out : List ℕ) → length (basic_out v f out) ≡ length out
