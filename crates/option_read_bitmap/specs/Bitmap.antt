-- Document 02, wish 12; document 01, "Option and tags": what the engine answers, and what the lent keys hold then.
use Rattle.std.specs.Prelude.{List, ◌++◌, map, cond, ℕ, ◌*◌, ltb, eqb, length, drop, Result, Ok, Err}
use Rattle.label.specs.declared.Run.{Run}
use Rattle.label_keys.specs.Keys.{run_key}
use Rattle.option.specs.Bitmap.{bit_at}
use Rattle.option.specs.Index.{set_runs}
use Rattle.option_read_bitmap.specs.declared.BitmapError.{BitmapError}
use Rattle.option_read_bitmap.specs.declared.BitmapError.TheVariants.{Short, Long}

-- the runs of a bitmap, bit by bit
abbrev pub bitmap_runs : List ℕ → List Run
bitmap_runs b = set_runs (bit_at b) (8 * length b)

-- 1 for a list of under 120 numbers, then 10 for over 30 octets; 0 is done
abbrev pub bitmap_number : List ℕ → ℕ → ℕ
bitmap_number b room = cond (ltb room 120) 1 (cond (ltb 30 (length b)) 10 0)

-- the number of an answer
abbrev pub number_of : Result ℕ BitmapError → ℕ
number_of (Ok n) = 0
number_of (Err Short) = 1
number_of (Err Long) = 10

-- a row of what an engine answers: number 0 and how many runs there are; or the number of a refusal and 0
pub record BitmapRow : Type 0 where
  pub number : ℕ
  pub count : ℕ

-- the row of an answer
abbrev pub row_of : Result ℕ BitmapError → BitmapRow
row_of (Ok n) = record { number = 0; count = n }
row_of (Err e) = record { number = number_of (Err e); count = 0 }

-- done, the count of the runs; else the refusal of the number
unfoldable pub bitmap_found : List ℕ → ℕ → Result ℕ BitmapError
bitmap_found b room = cond (ltb room 120) (Err Short) (cond (ltb 30 (length b)) (Err Long) (Ok (length (bitmap_runs b))))

-- the keys of runs at the head of a list; what stands after them stays
abbrev pub in_place : List Run → List ℕ → List ℕ
in_place rs ks = map run_key rs ++ drop (length rs) ks

-- all stay where the bitmap is refused
unfoldable pub bitmap_keys : List ℕ → List ℕ → List ℕ
bitmap_keys b ks = cond (eqb (bitmap_number b (length ks)) 0) (in_place (bitmap_runs b) ks) ks
