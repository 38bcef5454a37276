-- docs/FILE.md: the set of records that a file says, and when it is sound: its counts keep to 16 and 8, each record in use is sound as document 01 says, with the rows that are lent for
-- it, every other place is all zero, and no number is left over behind the rows of the last table.
use Rattle.std.specs.Prelude.{Bool, not, ◌&&◌, List, ℕ, leb, eqb, length, replicate}
use Rattle.label.specs.Label.{is_zero}
use Rattle.option.specs.Permitted.{some_of}
use Rattle.basic.specs.Settings.{is_off}
use Rattle.port.specs.declared.Port.{Port}
use Rattle.port.specs.Port.{port_sound}
use Rattle.table_levels.specs.Levels.{unused_pairs}
use Rattle.table.specs.declared.Table.{Table}
use Rattle.table.specs.declared.Renumbering.{Renumbering}
use Rattle.table.specs.Renumbering.{no_renumbering, levels_of, typed_pairs}
use Rattle.table_choose.specs.declared.Tables.{Tables}
use Rattle.table_choose.specs.Tables.{tables_sound}
use Rattle.file_format.specs.Places.{places_fit}
use Rattle.file_port.specs.PortFormat.{no_port}
use Rattle.file_port.specs.Theorems.{typed_port}
use Rattle.file_set.specs.declared.Set.{Set}

-- the set of no records
abbrev pub empty_set : Set
empty_set = record { portcount = 0; ports = replicate 16 no_port; tablecount = 0; tables = replicate 8 no_renumbering }

-- every number of the port is 0
unfoldable pub zero_port : Port → Bool
zero_port p =
    ((((((((eqb p.domain 0 && is_zero p.lowest) && is_zero p.highest) && not p.required) && is_zero p.assigned) && is_off p.basic) && not (some_of p.spellings)) && not p.unlabelled) && not p.strict) && is_zero p.default

-- every number of the table and of its level pairs is 0
unfoldable pub zero_table : Table → List (List ℕ) → Bool
zero_table t ls = (((eqb t.from 0 && eqb t.to 0) && eqb t.pairs 0) && eqb t.count 0) && unused_pairs ls

-- what suits a place that is used, and one that is not; what makes the tables in use sound is said of all of them with their rows
unfoldable pub used_port : Port → Bool
used_port p = port_sound p && typed_port p

unfoldable pub unused_port : Port → Bool
unused_port p = zero_port p && typed_port p

unfoldable pub unused_table : Renumbering → Bool
unused_table r = zero_table r.table (levels_of r) && typed_pairs r

-- what the types say of every set: 16 and 8 places
unfoldable pub typed_set : Set → Bool
typed_set s = eqb (length s.ports) 16 && eqb (length s.tables) 8

-- the tables of a set
abbrev pub tables_in : Set → Tables
tables_in s = record { count = s.tablecount; items = s.tables }

unfoldable pub set_sound : Set → List ℕ → Bool
set_sound s rows =
    (((leb s.portcount 16 && places_fit used_port unused_port s.portcount s.ports)
    && places_fit typed_pairs unused_table s.tablecount s.tables)
    && tables_sound (tables_in s) rows)
    && typed_set s
