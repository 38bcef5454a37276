-- docs/FILE.md, the file. The layout's row: length of the whole file (2), version (1), port count (1), the ports, table count (1), the tables.
use Rattle.std.specs.Prelude.{Bool, true, cond, ◌&&◌, List, [], ◌∷◌, ℕ, ◌+◌, leb, ltb, eqb, length, take}
use Rattle.port.specs.declared.Port.{Port}
use Rattle.table.specs.Renumbering.{LentTable}
use Rattle.table_choose.specs.Tables.{tables_from}
use Rattle.file_format.specs.Format.{Format, Found, got, bad, one, two, number, ◌then◌, ◌such◌, octets, read_at, written}
use Rattle.file_port.specs.Theorems.{port_sayable}
use Rattle.file_table.specs.TableFormat.{table_sayable}
use Rattle.file_set.specs.declared.Set.{Set}
use Rattle.file_set.specs.Set.{empty_set}
use Rattle.file_read.specs.declared.FileRead.{FileRead}
use Rattle.file_read.specs.SetFormat.{Records, set_format, set_of, rows_of, records_of}

-- the most octets of a file of this version: 32 KiB, and from version 2 on 60 KiB
abbrev pub most_octets : (version : ℕ) → ℕ
most_octets version = cond (leb 2 version) 61440 32768

-- a file of `total` octets. Its size is a rule over the two fields of its head, and so blames octet 0 when the version has passed
unfoldable pub file_format : ℕ → Format ((ℕ × ℕ) × Records)
file_format total =
    (number two total total then λ length. number one 1 3) such (λ head. leb total (most_octets head.1))
    then λ head. set_format head.1

-- 1. The reader's answers, none of which is a number of document 01.

-- accepted, with the set, and so many numbers of rows in the lent room
abbrev pub accepted : Records → FileRead
accepted r = record { verdict = 0; at = 0; used = length (rows_of r.1); set = set_of r }

-- 101: the place of the first octet of the first bad field
abbrev pub file_refused : ℕ → FileRead
file_refused n = record { verdict = 101; at = n; used = 0; set = empty_set }

-- 102: a version that is not known, refused by name
abbrev pub unknown : FileRead
unknown = record { verdict = 102; at = 2; used = 0; set = empty_set }

-- 103: the rows outgrow the lent room, refused by name
abbrev pub outgrown : FileRead
outgrown = record { verdict = 103; at = 0; used = 0; set = empty_set }

-- octets after the last table are blamed at the first of them; the version is the field at place 2, and where it is there and bad it is not known; the room is looked at last
unfoldable pub file_answer : (total room : ℕ) → Found ((ℕ × ℕ) × Records) → FileRead
file_answer total room (got v n) = cond (eqb n total) (cond (leb (length (rows_of v.1.1)) room) (accepted v.1) outgrown) (file_refused n)
file_answer total room (bad n) = cond (eqb n 2 && ltb 2 total) unknown (file_refused n)

unfoldable pub file_reading : List ℕ → ℕ → FileRead
file_reading s room = file_answer (length s) room (read_at (file_format (length s)) s 0)

-- what the room holds at the end: the rows at its head and behind them what was there, or on every refusal what it held
unfoldable pub room_behind : ℕ → Found ((ℕ × ℕ) × Records) → List ℕ → List ℕ
room_behind total (got v n) room = cond (eqb n total) (written 0 (rows_of v.1.1) room) room
room_behind total (bad n) room = room

unfoldable pub file_room : List ℕ → List ℕ → List ℕ
file_room s room = room_behind (length s) (read_at (file_format (length s)) s 0) room

-- 2. The one file of a set in a version that can say it.

abbrev pub ports_sayable : (version : ℕ) → List Port → Bool
ports_sayable version [] = true
ports_sayable version (p ∷ ps) = port_sayable version p && ports_sayable version ps

abbrev pub tables_sayable : (version : ℕ) → List LentTable → Bool
tables_sayable version [] = true
tables_sayable version (x ∷ xs) = table_sayable version x && tables_sayable version xs

abbrev pub total_of : (version : ℕ) → Set → List ℕ → ℕ
total_of version s rows = 3 + length (octets (set_format version) (records_of s rows))

-- a version can say a set: all its ports, all its tables, and within the version's size
unfoldable pub sayable : (version : ℕ) → Set → List ℕ → Bool
sayable version s rows =
    ports_sayable version (take s.portcount s.ports)
    && (tables_sayable version (tables_from (take s.tablecount s.tables) rows) && leb (total_of version s rows) (most_octets version))

unfoldable pub file_octets : (version : ℕ) → Set → List ℕ → List ℕ
file_octets version s rows = octets (file_format (total_of version s rows)) ((total_of version s rows, version), records_of s rows)
