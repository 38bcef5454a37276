-- A gateway file that is written anew for Rust and C.
use Rattle.std.specs.Prelude.{ℕ, Bool, cond, List, eqb, take, replicate, Result, Ok, Err}
use Rattle.file_read.specs.File.{file_room}
use Rattle.file_write.specs.declared.WriteError.{WriteError}
use Rattle.file_write.specs.declared.WriteError.TheVariants.{Short, Unsound, Long}
use Rattle.file_write.specs.Written.{written_of, file_output}
use Rattle.export_file.specs.Export.{checking}

abbrev pub accepts : List ℕ → Bool
accepts octets = eqb (checking octets).verdict 0

-- the rows of its tables
abbrev pub rows_read : List ℕ → List ℕ
rows_read octets = take (checking octets).used (file_room octets (replicate 24576 0))

-- what the writer's answer comes to in numbers: 104 (house) where the file would be too long
abbrev pub number_in : Result ℕ WriteError → ℕ
number_in (Ok n) = 0
number_in (Err Short) = 1
number_in (Err Unsound) = 2
number_in (Err Long) = 104

abbrev pub count_in : Result ℕ WriteError → ℕ
count_in (Ok n) = n
count_in (Err e) = 0

-- what a file says, written anew: the number, the count, and the output at the end; a file that is not accepted has the reader's verdict, and nothing is written
unfoldable pub renew_number : List ℕ → ℕ → ℕ
renew_number octets room = cond (accepts octets) (number_in (written_of (checking octets).set (rows_read octets) room)) (checking octets).verdict

unfoldable pub renew_count : List ℕ → ℕ → ℕ
renew_count octets room = cond (accepts octets) (count_in (written_of (checking octets).set (rows_read octets) room)) 0

unfoldable pub renew_out : List ℕ → List ℕ → List ℕ
renew_out octets out = cond (accepts octets) (file_output (checking octets).set (rows_read octets) out) out
