-- Document 02, Wishes 1, 8 and 10: "A sound set has one file, and what the writer wrote the reader gives back", in each of the three versions.
use Rattle.std.specs.Prelude.{Bool, true, false, not, ◌&&◌, List, [], ◌∷◌, ◌≡◌, ℕ, ◌≤◌, ◌<◌, leb, length, take, drop, get_or, Ok}
use Rattle.lists.specs.Lists.{paint}
use Rattle.port.specs.declared.Port.{Port}
use Rattle.port.specs.Port.{is_plain}
use Rattle.table.specs.Renumbering.{LentTable}
use Rattle.table_choose.specs.Tables.{tables_from}
use Rattle.file_format.specs.Laws.{Octets}
use Rattle.file_set.specs.declared.Set.{Set}
use Rattle.file_set.specs.Set.{set_sound}
use Rattle.file_read.specs.File.{file_reading, file_room, total_of, sayable, file_octets}
use Rattle.file_write.specs.Written.{written_of, number_of, file_output}

-- the reader accepts the octets and gives this set, with these rows at the head of any room that is large enough
pub record Tells (o : List ℕ) (s : Set) (rows : List ℕ) : Type 0 where
  pub answer : (room : List ℕ) → length rows ≤ length room → file_reading o (length room) ≡ record { verdict = 0; at = 0; used = length rows; set = s }
  pub room_after : (room : List ℕ) → length rows ≤ length room → file_room o room ≡ paint 0 rows room

-- 1. What the writer wrote the reader gives back: where it answers that n octets were written, the first n of its output tell the set with its rows.

abbrev pub WrittenBack : Type 0
WrittenBack = (s : Set) (rows out : List ℕ) (n : ℕ) → written_of s rows (length out) ≡ Ok n → Tells (take n (file_output s rows out)) s rows

-- 2. A set has one file in each version that can say it.

-- its octets in the version tell the set, and no other octets of the version do
pub record OnlyFile (version : ℕ) (s : Set) (rows : List ℕ) : Type 0 where
  pub tells : Tells (file_octets version s rows) s rows
  pub only : (o : List ℕ) → Octets o → get_or o 2 0 ≡ version → Tells o s rows → o ≡ file_octets version s rows

abbrev pub OneFileIn : (version : ℕ) → Type 0
OneFileIn version = (s : Set) (rows : List ℕ) → set_sound s rows ≡ true → sayable version s rows ≡ true → OnlyFile version s rows

pub record OneFileEach : Type 0 where
  pub first : OneFileIn 1
  pub second : OneFileIn 2
  pub third : OneFileIn 3
  -- and an unsound set, or one that a version cannot say, has none in it
  pub others : (o : List ℕ) → Octets o → (s : Set) (rows : List ℕ) → Tells o s rows → (set_sound s rows ≡ true) × (sayable (get_or o 2 0) s rows ≡ true)

-- 3. Which sound sets a version can say.

-- every port is as document 01 has it
abbrev pub all_plain : List Port → Bool
all_plain [] = true
all_plain (p ∷ ps) = is_plain p && all_plain ps

-- no port is strict
abbrev pub none_strict : List Port → Bool
none_strict [] = true
none_strict (p ∷ ps) = not p.strict && none_strict ps

-- every table keeps to 16 level pairs and 64 rows
abbrev pub all_small : List LentTable → Bool
all_small [] = true
all_small (x ∷ xs) = (leb x.item.table.pairs 16 && leb x.item.table.count 64) && all_small xs

pub record Sayable : Type 0 where
  -- version 1: these, and none of them is too long for it
  pub first : (s : Set) (rows : List ℕ) → set_sound s rows ≡ true
      → sayable 1 s rows ≡ (all_plain (take s.portcount s.ports) && all_small (tables_from (take s.tablecount s.tables) rows))
  -- version 2: those without a strict port that are not too long for it
  pub second : (s : Set) (rows : List ℕ) → set_sound s rows ≡ true → sayable 2 s rows ≡ (none_strict (take s.portcount s.ports) && leb (total_of 2 s rows) 61440)
  -- version 3: all that are not too long for it
  pub third : (s : Set) (rows : List ℕ) → set_sound s rows ≡ true → sayable 3 s rows ≡ leb (total_of 3 s rows) 61440

-- 4. The writer's answers by document 01's numbers, in their order, and what it leaves as it was.

pub record Answers : Type 0 where
  pub unsound : (s : Set) (rows : List ℕ) (room : ℕ) → set_sound s rows ≡ false → number_of (written_of s rows room) ≡ 2 ∷ []
  -- refused by name, with none of document 01's numbers
  pub long : (s : Set) (rows : List ℕ) (room : ℕ) → set_sound s rows ≡ true → 61440 < total_of 3 s rows → number_of (written_of s rows room) ≡ []
  pub short : (s : Set) (rows : List ℕ) (room : ℕ) → set_sound s rows ≡ true → total_of 3 s rows ≤ 61440 → room < total_of 3 s rows → number_of (written_of s rows room) ≡ 1 ∷ []
  pub done : (s : Set) (rows : List ℕ) (room : ℕ) → set_sound s rows ≡ true → total_of 3 s rows ≤ 61440 → total_of 3 s rows ≤ room → written_of s rows room ≡ Ok (total_of 3 s rows)
  -- a refusal writes nothing, and octets past the file are kept
  pub refused : (s : Set) (rows out : List ℕ) → (number_of (written_of s rows (length out)) ≡ 0 ∷ [] → ⊥) → file_output s rows out ≡ out
  pub past : (s : Set) (rows out : List ℕ) (n : ℕ) → written_of s rows (length out) ≡ Ok n → drop n (file_output s rows out) ≡ drop n out
