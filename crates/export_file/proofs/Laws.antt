-- The reader's answer in the room that is lent to it.
use Prim.Native.Nat.{ℕ}
use mathlib.Core.Path.{◌≡◌, ap, ◌∙◌}
use mathlib.Core.List.{List}
use lib.ListN.{length, replicate, length-replicate}
use Rattle.file_read.specs.declared.FileRead.{FileRead}
use Rattle.file_read.specs.File.{file_reading}
use Rattle.export_file.specs.Export.{checking}

pub checked : (o : List ℕ) (f : FileRead) → f ≡ file_reading o (length (replicate {A = ℕ} 24576 0)) → f ≡ checking o
checked o f e = e ∙ ap (file_reading o) (length-replicate {A = ℕ} 24576 0)
