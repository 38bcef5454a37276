-- What every answer of the reader says of its set and of the room.
use mathlib.Core.Bool.{Bool, true, false, cond, ◌&&◌}
use mathlib.Core.List.{List}
use mathlib.Core.Path.{◌≡◌, refl}
use Prim.Native.Nat.{ℕ, ◌≤◌}
use native.Mathlib.Omega.{arith}
use lib.Dec.{leb, ltb, eqb}
use lib.ListN.{length}
use borrow.Author.Tests.{leb-true}
use Rattle.file_format.specs.Format.{Found, got, bad, read_at}
use Rattle.file_set.specs.Set.{empty_set}
use Rattle.file_read.specs.SetFormat.{Records, rows_of}
use Rattle.file_read.specs.File.{file_format, file_reading, file_answer, accepted, file_refused, unknown, outgrown}

-- a file that is not accepted gives no record
none_read : (total room : ℕ) (f : Found ((ℕ × ℕ) × Records)) → ((file_answer total room f).verdict ≡ 0 → ⊥) → (file_answer total room f).set ≡ empty_set
unfolding file_answer
none_read total room (got v n) h = go (eqb n total) (leb (length (rows_of v.1.1)) room) h
  where
    go : (t u : Bool) → ((cond t (cond u (accepted v.1) outgrown) (file_refused n)).verdict ≡ 0 → ⊥) → (cond t (cond u (accepted v.1) outgrown) (file_refused n)).set ≡ empty_set
    go true true h = absurd (h refl)
    go true false h = refl
    go false u h = refl
none_read total room (bad n) h = go (eqb n 2 && ltb 2 total)
  where
    go : (t : Bool) → (cond t unknown (file_refused n)).set ≡ empty_set
    go true = refl
    go false = refl

pub not_accepted : (o : List ℕ) (room : ℕ) → ((file_reading o room).verdict ≡ 0 → ⊥) → (file_reading o room).set ≡ empty_set
unfolding file_reading
not_accepted o room h = none_read (length o) room (read_at (file_format (length o)) o 0) h

-- no more numbers are used than there is room for
within_room : (total room : ℕ) (f : Found ((ℕ × ℕ) × Records)) → (file_answer total room f).used ≤ room
unfolding file_answer
within_room total room (got v n) = go (eqb n total) (leb (length (rows_of v.1.1)) room) refl
  where
    go : (t u : Bool) → leb (length (rows_of v.1.1)) room ≡ u → (cond t (cond u (accepted v.1) outgrown) (file_refused n)).used ≤ room
    go true true e = leb-true (length (rows_of v.1.1)) room e
    go true false e = omega arith
    go false u e = omega arith
within_room total room (bad n) = go (eqb n 2 && ltb 2 total)
  where
    go : (t : Bool) → (cond t unknown (file_refused n)).used ≤ room
    go true = omega arith
    go false = omega arith

pub used_fits : (o : List ℕ) (room : ℕ) → (file_reading o room).used ≤ room
unfolding file_reading
used_fits o room = within_room (length o) room (read_at (file_format (length o)) o 0)
