-- Document 02, Wish 1: "A file is accepted exactly when its length agrees, then its version is known, then every record is sound; a refusal names the first octet of the first bad
-- field. A sound set has one file, and what the writer wrote the reader gives back. An unknown version is refused by name." Wishes 8 and 10: every version, rows in lent room.
use Rattle.std.specs.Prelude.{true, List, ◌≡◌, ℕ, ◌≤◌, ◌<◌, length, take, get_or}
use Rattle.file_format.specs.Format.{value_at, written}
use Rattle.file_format.specs.Laws.{Octets}
use Rattle.file_set.specs.declared.Set.{Set}
use Rattle.file_set.specs.Set.{set_sound}
use Rattle.file_read.specs.File.{file_refused, unknown, file_reading, file_room, sayable, file_octets}

-- the file of a sound set, in each version that can say it, is read back: the set, and its rows at the head of the room
pub record Back (version : ℕ) (s : Set) (rows room : List ℕ) : Type 0 where
  pub answer : file_reading (file_octets version s rows) (length room) ≡ record { verdict = 0; at = 0; used = length rows; set = s }
  pub room_after : file_room (file_octets version s rows) room ≡ written 0 rows room

abbrev pub GivenBack : Type 0
GivenBack =
    (version : ℕ) → 1 ≤ version → version ≤ 3 → (s : Set) (rows room : List ℕ) → set_sound s rows ≡ true → sayable version s rows ≡ true → length rows ≤ length room → Back version s rows room

-- what the reader accepts is the one file, in one of the three versions, of a sound set that the version can say, octet for octet
pub record OneFile (o : List ℕ) (s : Set) (rows : List ℕ) : Type 0 where
  pub version : ℕ
  pub least : 1 ≤ version
  pub most : version ≤ 3
  pub file : o ≡ file_octets version s rows
  pub sound : set_sound s rows ≡ true
  pub sayable : sayable version s rows ≡ true

abbrev pub Accepted : Type 0
Accepted =
    (o : List ℕ) → Octets o → (room : List ℕ) → (file_reading o (length room)).verdict ≡ 0
    → OneFile o (file_reading o (length room)).set (take (file_reading o (length room)).used (file_room o room))

-- every refusal leaves the room as it was
abbrev pub RoomKept : Type 0
RoomKept = (o room : List ℕ) → ((file_reading o (length room)).verdict ≡ 0 → ⊥) → file_room o room ≡ room

-- a length that does not agree is refused before all else, at octet 0
abbrev pub LengthFirst : Type 0
LengthFirst = (o : List ℕ) (room : ℕ) → (value_at o 0 2 ≡ length o → ⊥) → file_reading o room ≡ file_refused 0

-- where the length agrees, a version that is there and is not 1, 2 or 3 is refused by name, whatever stands after it
abbrev pub Named : Type 0
Named = (o : List ℕ) (room : ℕ) → value_at o 0 2 ≡ length o → 2 < length o → (get_or o 2 0 ≡ 1 → ⊥) → (get_or o 2 0 ≡ 2 → ⊥) → (get_or o 2 0 ≡ 3 → ⊥) → file_reading o room ≡ unknown
