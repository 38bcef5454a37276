-- Reading into keys: what a lent list of keys holds after one option was read, for every option and every list.
use Rattle.std.specs.Prelude.{ℕ, ◌≤◌, ◌≡◌, List, [], map, Bool, cond, ◌&&◌, length, take, leb, ltb, eqb, ◌≢◌, Result, Ok, Err, IfErr}
use Rattle.label.specs.declared.Run.{Run}
use Rattle.label.specs.Label.{label_of}
use Rattle.label_keys.specs.Keys.{key_runs, run_key}
use Rattle.option.specs.Option.{tag_of}
use Rattle.option_read_bitmap.specs.Bitmap.{bitmap_runs}
use Rattle.option_read_numbers.specs.Numbers.{number_runs, pair_runs, at_front}
use Rattle.option_read.specs.declared.Fault.{Fault}
use Rattle.option_read.specs.declared.KeysRead.{KeysRead}
use Rattle.option_read.specs.Reading.{Reading, categories_in, reading_for}

-- the runs that are written of a tag's categories: tag 2 ends before its first bad number, tags 1 and 5 go on to their end
abbrev pub runs_in : ℕ → List ℕ → List Run
runs_in t b = cond (eqb t 1) (bitmap_runs b) (cond (eqb t 2) (number_runs b) (pair_runs b))

abbrev pub keys_in : ℕ → List ℕ → List ℕ
keys_in t b = map run_key (runs_in t b)

-- a row without the runs, which stand in the list: their level, and how many keys there are
pub record KeyReading : Type 0 where
  pub number : ℕ
  pub pointer : ℕ
  pub level : ℕ
  pub count : ℕ

-- the row of an answer
abbrev pub row_of : Result KeysRead Fault → KeyReading
row_of (Ok k) = record { number = 0; pointer = 0; level = k.level; count = k.count }
row_of (Err f) = record { number = f.number; pointer = f.at; level = 0; count = 0 }

-- a refusal has a number
abbrev pub Refused : Result KeysRead Fault → Type 0
Refused r = IfErr r (λ f. f.number ≢ 0)

-- a reading without its runs
abbrev pub keyed : Reading → KeyReading
keyed r = record { number = r.number; pointer = r.pointer; level = r.label.level; count = r.label.count }

-- and with those of the first keys, in a domain
abbrev pub with_label : ℕ → KeyReading → List ℕ → Reading
with_label d r keys = record { number = r.number; pointer = r.pointer; label = label_of d r.level (key_runs (take r.count keys)) }

-- a refusal's label is of domain 0
abbrev pub labelled : ℕ → KeyReading → List ℕ → Reading
labelled d r keys = with_label (cond (eqb r.number 0) d 0) r keys

-- refused before the categories: 7 to 11
abbrev pub early : ℕ → Bool
early n = leb 7 n && leb n 11

-- the keys that are written: none where the option is refused before its categories
abbrev pub keys_with : Reading → List ℕ → List ℕ
keys_with r o = cond (early r.number) [] (keys_in (tag_of o) (categories_in o))

-- 1 for a list of under 120 numbers, which stays as it was
unfoldable pub key_reading_for : ℕ → List ℕ → ℕ → KeyReading
key_reading_for d o room = cond (ltb room 120) (record { number = 1; pointer = 0; level = 0; count = 0 }) (keyed (reading_for d o))

unfoldable pub keys_after : ℕ → List ℕ → List ℕ → List ℕ
keys_after d o keys = cond (ltb (length keys) 120) keys (at_front (keys_with (reading_for d o) o) keys)

-- what reading the option of an area into keys answers and leaves; where there is room, its number, pointer and level with the runs of the first
-- keys are the reading
pub record ReadsKeys (d : ℕ) (o keys keys' : List ℕ) (r : KeyReading) : Type 0 where
  pub answer : r ≡ key_reading_for d o (length keys)
  pub left : keys' ≡ keys_after d o keys
  pub held : r.count ≤ 120
  pub reading : 120 ≤ length keys → labelled d r keys' ≡ reading_for d o
