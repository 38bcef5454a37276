-- Document 02, wish 12: what is proved of the two engines beside their contract.
use Rattle.std.specs.Prelude.{◌≡◌, List, ℕ, ◌≤◌, ◌<◌, length, take, Result, Err, IsOkAnd}
use Rattle.label.specs.Runs.{joined}
use Rattle.label.specs.Label.{label_of}
use Rattle.option.specs.Reading.{pieces}
use Rattle.label_keys.specs.Keys.{key_runs}
use Rattle.option_read_bitmap.specs.declared.BitmapError.{BitmapError}
use Rattle.option_read_bitmap.specs.declared.BitmapError.TheVariants.{Short, Long}
use Rattle.option_read_bitmap.specs.Bitmap.{BitmapRow, row_of, bitmap_found, bitmap_keys}

abbrev pub Found : Type 0
Found = Result ℕ BitmapError

abbrev pub refused_with : ℕ → BitmapRow
refused_with n = record { number = n; count = 0 }

-- the contract of either engine: what it answers, and what the lent keys hold then
abbrev pub Answer : List ℕ → List ℕ → Found → List ℕ → Type 0
Answer b ks f ks' = (f ≡ bitmap_found b (length ks)) × (ks' ≡ bitmap_keys b ks)

-- "the engine gives the same runs as a bit-by-bit reading on every bitmap (over 30 octets: 10)": f with ks' of the first engine, g with ks'' of the second
pub record Agree : Type 0 where
  pub same : (b ks : List ℕ) (f g : Found) (ks' ks'' : List ℕ) → Answer b ks f ks' → Answer b ks g ks'' → (f ≡ g) × (ks' ≡ ks'')
  -- what both give is the runs of the label that a tag 1 means
  pub means : (d v : ℕ) (b ks : List ℕ) (f : Found) (ks' : List ℕ) → length b ≤ 30 → 120 ≤ length ks → Answer b ks f ks'
      → IsOkAnd f (λ n. label_of d v (key_runs (take n ks')) ≡ label_of d v (joined (pieces 1 b)))
      × ((row_of f).number ≡ 0)
      × (label_of d v (key_runs (take (row_of f).count ks')) ≡ label_of d v (joined (pieces 1 b)))
  pub long : (b ks : List ℕ) (f : Found) (ks' : List ℕ) → 30 < length b → 120 ≤ length ks → Answer b ks f ks' → (f ≡ Err Long) × (row_of f ≡ refused_with 10) × (ks' ≡ ks)
  -- the lent list is tested first
  pub short : (b ks : List ℕ) (f : Found) (ks' : List ℕ) → length ks < 120 → Answer b ks f ks' → (f ≡ Err Short) × (row_of f ≡ refused_with 1) × (ks' ≡ ks)
