-- A gateway file that is checked for Rust and C.
use Rattle.std.specs.Prelude.{ℕ, List}
use Rattle.file_read.specs.declared.FileRead.{FileRead}
use Rattle.file_read.specs.File.{file_reading}

-- the file is read with room for the rows of the most tables, so that none outgrows it
abbrev pub checking : List ℕ → FileRead
checking octets = file_reading octets 24576
