-- What only private functions answer: one pass over a tag's categories; rows 9 to 13; all rows of an option alone or for a port.
use Rattle.std.specs.Prelude.{ℕ, ◌≤◌, ◌<◌, ◌≡◌, List, Bool, false, not, cond, length, ltb, eqb, Result, Ok, Err}
use Rattle.label_keys.specs.Keys.{key_runs}
use Rattle.option.specs.Option.{domain_of}
use Rattle.option_read_numbers.specs.Numbers.{Pass, bad_number_at, written, at_front}
use Rattle.option_read.specs.declared.Fault.{Fault}
use Rattle.option_read.specs.declared.KeysRead.{KeysRead}
use Rattle.option_read.specs.Reading.{Reading, fault, bad_place, checked_reading, tag_checks, label_in, reading_of, reading_for}
use Rattle.option_read.specs.Keys.{row_of, Refused, runs_in, keys_in, keyed, labelled, keys_with}

-- what rows 9 to 13 answer and leave, as `ReadsKeys` says it of an area's option
pub record ReadsTag (o keys keys' : List ℕ) (r : Result KeysRead Fault) : Type 0 where
  pub refused : Refused r
  pub answer : row_of r ≡ keyed (checked_reading (tag_checks o) (label_in o))
  pub left : keys' ≡ at_front (keys_with (checked_reading (tag_checks o) (label_in o)) o) keys
  pub held : (row_of r).count ≤ 120
  pub reading : labelled (domain_of o) (row_of r) keys' ≡ checked_reading (tag_checks o) (label_in o)

-- row 8: alone domain 0, for a port every other one
abbrev pub foreign_to : Bool → ℕ → ℕ → Bool
foreign_to alone d f = cond alone (eqb f 0) (not (eqb f d))

-- an option alone, or for a port of the domain
abbrev pub reading_both : Bool → ℕ → List ℕ → Reading
reading_both alone d o = cond alone (reading_of o) (reading_for d o)

-- what rows 3 and 7 to 13 answer and leave
pub record ReadsRows (alone : Bool) (d : ℕ) (o keys keys' : List ℕ) (r : Result KeysRead Fault) : Type 0 where
  pub refused : Refused r
  pub answer : row_of r ≡ keyed (reading_both alone d o)
  pub left : alone ≡ false → keys' ≡ at_front (keys_with (reading_both alone d o) o) keys
  pub held : (row_of r).count ≤ 120
  pub long : (row_of r).number ≡ 0 → 10 ≤ length o
  pub own : alone ≡ false → (row_of r).number ≡ 0 → domain_of o ≡ d
  pub reading : labelled (domain_of o) (row_of r) keys' ≡ reading_both alone d o

-- the same with a list of any length: one of under 120 keys stays as it was
pub record ReadsChecked (alone : Bool) (d : ℕ) (o keys keys' : List ℕ) (r : Result KeysRead Fault) : Type 0 where
  pub short : length keys < 120 → (r ≡ Err (fault 1 0)) × (keys' ≡ keys)
  pub read : 120 ≤ length keys → ReadsRows alone d o keys keys' r

-- one pass over a tag's categories: how many keys it wrote, and where the first bad one begins; and that the keys stand for the runs
pub record PassOver (t : ℕ) (b keys keys' : List ℕ) (r : Pass) : Type 0 where
  pub answer : r ≡ cond (ltb (bad_place t b) (length b)) (bad_number_at (length (runs_in t b)) (bad_place t b)) (Ok (length (runs_in t b)))
  pub held : written r ≤ 120
  pub left : keys' ≡ at_front (keys_in t b) keys
  pub stands : key_runs (keys_in t b) ≡ runs_in t b
