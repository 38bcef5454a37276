-- What building answers: how many octets of both outputs were written, none where nothing is sent; or why no message was built.
use Rattle.std.specs.Prelude.{ℕ, Option, Result, Ok, Err, Some, None}
use Rattle.message_build.specs.declared.Built.{Built}
use Rattle.message_build.specs.declared.BuildError.{BuildError}
use Rattle.message_build.specs.declared.BuildError.TheVariants.{Unsound, Short}

abbrev pub Answer : Type 0
Answer = Result (Option Built) BuildError

-- the number of a refusal
abbrev pub number_of : BuildError → ℕ
number_of Unsound = 2
number_of Short = 24

-- a row of what building answers: a number, and how many octets of both outputs were written
pub record BuildRow : Type 0 where
  pub number : ℕ
  pub message : ℕ
  pub options : ℕ

-- both counts are 0 for 2, where nothing is sent and for 24
abbrev pub without : ℕ → BuildRow
without n = record { number = n; message = 0; options = 0 }

-- the row of an answer
abbrev pub row_of : Answer → BuildRow
row_of (Ok (Some built)) = record { number = 0; message = built.message; options = built.options }
row_of (Ok None) = without 0
row_of (Err e) = without (number_of e)
