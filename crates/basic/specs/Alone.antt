-- Wish 3, option 130 asked alone: what reading one answers, what writing one answers, and what it leaves in the output.
use Rattle.std.specs.Prelude.{ℕ, ◌+◌, ◌*◌, ◌/◌, ◌%◌, Bool, cond, ◌&&◌, List, [], ◌∷◌, ◌++◌, length, drop, leb, ltb, eqb, Option, Some, None, Result, Ok, Err}
use Rattle.basic.specs.declared.BasicReading.{BasicReading}
use Rattle.basic.specs.declared.BasicError.{BasicError}
use Rattle.basic.specs.declared.BasicError.TheVariants.{Short, Bad}
use Rattle.basic.specs.Levels.{is_level}
use Rattle.basic.specs.Option.{basic_level, basic_flags, basic_valid}

-- what is read: level and flags, or none
abbrev pub BasicRead : Type 0
BasicRead = Option BasicReading

-- the level and the flags were read
abbrev pub basic_found : ℕ → ℕ → BasicRead
basic_found v f = Some (record { level = v; flags = f })

-- none of anything but a valid option that fills its buffer
unfoldable pub basic_reading : List ℕ → BasicRead
basic_reading o = cond (basic_valid o) (basic_found (basic_level o) (basic_flags o)) None

-- a row of what is read: number 0, the level's octet and the flag field; else 19 and zeros
pub record Reading : Type 0 where
  pub number : ℕ
  pub level : ℕ
  pub flags : ℕ

-- the row of what is read
abbrev pub reading_row : BasicRead → Reading
reading_row (Some r) = record { number = 0; level = r.level; flags = r.flags }
reading_row None = record { number = 19; level = 0; flags = 0 }

-- the flag octets that are written: final octets without flags are left out
unfoldable pub flag_octets_for : ℕ → List ℕ
flag_octets_for f =
    cond (eqb f 0) []
    (cond (eqb (f % 128) 0) ((f / 128 * 2) ∷ [])
    ((f / 128 * 2 + 1) ∷ (f % 128 * 2) ∷ []))

-- the option that is written
abbrev pub basic_option : ℕ → ℕ → List ℕ
basic_option v f = 130 ∷ (3 + length (flag_octets_for f)) ∷ v ∷ flag_octets_for f

-- a level of the four, and 14 flags
abbrev pub writable : ℕ → ℕ → Bool
writable v f = is_level v && leb f 16383

-- the numbers of the refusals
abbrev pub number_of : BasicError → ℕ
number_of Short = 1
number_of Bad = 19

-- a row of what writing answers: number 0 and the option's length; or the number of a refusal and 0
pub record Writing : Type 0 where
  pub number : ℕ
  pub count : ℕ

-- the row of what writing answers
abbrev pub writing_row : Result ℕ BasicError → Writing
writing_row (Ok n) = record { number = 0; count = n }
writing_row (Err e) = record { number = number_of e; count = 0 }

-- 1 for an output under 5 octets, then 19; else the option's length
unfoldable pub basic_writing : ℕ → ℕ → ℕ → Result ℕ BasicError
basic_writing v f n = cond (ltb n 5) (Err Short) (cond (writable v f) (Ok (length (basic_option v f))) (Err Bad))

-- only so many octets change; a refusal writes nothing
unfoldable pub basic_out : ℕ → ℕ → List ℕ → List ℕ
basic_out v f out = elim (basic_writing v f (length out)) [ Ok n ↦ basic_option v f ++ drop n out | Err e ↦ out ]
