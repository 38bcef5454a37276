-- docs/FILE.md, the file's lists. The layout's row: port count (1), the ports, table count (1), the tables; at most 16 and 8.
use Rattle.std.specs.Prelude.{List, map, ℕ, length, take}
use Rattle.port.specs.declared.Port.{Port}
use Rattle.table.specs.Table.{row_numbers}
use Rattle.table.specs.Renumbering.{no_renumbering}
use Rattle.table_choose.specs.Tables.{tables_from}
use Rattle.file_format.specs.Format.{Format, one, ◌then◌, counted, alike, same}
use Rattle.file_format.specs.Laws.{flat}
use Rattle.file_format.specs.Places.{padded}
use Rattle.file_port.specs.PortFormat.{port_format, no_port}
use Rattle.file_table.specs.TableFormat.{TableFields, table_format, head_of, fields_of}
use Rattle.file_set.specs.declared.Set.{Set}

unfoldable pub ports_format : (version : ℕ) → Format (List Port)
ports_format version = counted (alike (port_format version)) same one 16 0

unfoldable pub tables_format : (version : ℕ) → Format (List TableFields)
tables_format version = counted (alike (table_format version)) same one 8 0

-- the records of a file: its ports and its tables
abbrev pub Records : Type 0
Records = List Port × List TableFields

unfoldable pub set_format : (version : ℕ) → Format Records
set_format version = ports_format version then λ ports. tables_format version

-- the rows of all tables as numbers, one after the other
abbrev pub rows_of : List TableFields → List ℕ
rows_of ts = flat (λ t. row_numbers t.rows) ts

-- the set of these records, whose rows stand beside it; unused places are zero
abbrev pub set_of : Records → Set
set_of r = record { portcount = length r.0; ports = padded 16 no_port r.0; tablecount = length r.1; tables = padded 8 no_renumbering (map head_of r.1) }

-- the records of a set with its rows
abbrev pub records_of : Set → List ℕ → Records
records_of s rows = (take s.portcount s.ports, map fields_of (tables_from (take s.tablecount s.tables) rows))
