-- Document 02, Wish 1: what a program reads of its file. `octets`, what the system answers, is free: nothing is known of it.
use Rattle.std.specs.Prelude.{ℕ, ◌≤◌, List, ◌≡◌, length}
use Rattle.file_read.specs.declared.FileRead.{FileRead}
use Rattle.file_read.specs.File.{file_reading, file_room}

pub record Loads (before after : List ℕ) (r : FileRead) : Type 0 where
  pub octets : List ℕ
  pub read : r ≡ file_reading octets (length before)
  pub room : after ≡ file_room octets before
  -- so the rows lie in the room
  pub within : r.used ≤ length before
