-- docs/FILE.md, what the writer does: 2 for an unsound set; then a refusal by name for one whose file would be longer than 60 KiB; then 1 for an output that is too short; else the
-- file, of version 3.
use Rattle.std.specs.Prelude.{cond, ◌&&◌, List, [], ◌∷◌, ℕ, leb, length, Result, Ok, Err}
use Rattle.lists.specs.Lists.{paint}
use Rattle.file_set.specs.declared.Set.{Set}
use Rattle.file_set.specs.Set.{set_sound}
use Rattle.file_read.specs.File.{total_of, file_octets}
use Rattle.file_write.specs.declared.WriteError.{WriteError}
use Rattle.file_write.specs.declared.WriteError.TheVariants.{Short, Unsound, Long}

unfoldable pub written_of : Set → List ℕ → ℕ → Result ℕ WriteError
written_of s rows room =
    cond (set_sound s rows) (cond (leb (total_of 3 s rows) 61440) (cond (leb (total_of 3 s rows) room) (Ok (total_of 3 s rows)) (Err Short)) (Err Long)) (Err Unsound)

-- document 01's number of an answer; a refusal by name has none
abbrev pub number_of : Result ℕ WriteError → List ℕ
number_of (Ok n) = 0 ∷ []
number_of (Err Short) = 1 ∷ []
number_of (Err Unsound) = 2 ∷ []
number_of (Err Long) = []

-- the output at the end: nothing is written on a refusal, and octets past the file are kept
unfoldable pub file_output : Set → List ℕ → List ℕ → List ℕ
file_output s rows out = cond (set_sound s rows && (leb (total_of 3 s rows) 61440 && leb (total_of 3 s rows) (length out))) (paint 0 (file_octets 3 s rows) out) out
