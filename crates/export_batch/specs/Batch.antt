-- Many datagrams in one call, through two ports of a gateway file: which records decide. What is decided then stands in `forward_batch`.
use Rattle.std.specs.Prelude.{ℕ, cond, ◌&&◌, List, ltb, take, replicate}
use Rattle.port.specs.declared.Port.{Port}
use Rattle.table.specs.Renumbering.{LentTable, lent_of, levels_of}
use Rattle.table_choose.specs.declared.Tables.{Tables}
use Rattle.table_choose.specs.Tables.{used_tables, tables_from, first_table}
use Rattle.file_set.specs.declared.Set.{Set}
use Rattle.file_set.specs.Set.{tables_in}
use Rattle.file_read.specs.File.{file_reading, file_room}
use Rattle.route_ports.specs.Ports.{unlisted_port, port_at}
use Rattle.forward_batch.specs.Batch.{Gateway}

abbrev pub gateway_by : Port → Port → LentTable → Gateway
gateway_by a l x = record { arriving = a; leaving = l; table = lent_of x; levels = levels_of x.item }

-- between two ports the first table for their two domains
abbrev pub between : Port → Port → Tables → List ℕ → Gateway
between a l ts ns = gateway_by a l (first_table a.domain l.domain (tables_from (used_tables ts) ns))

-- from one port of a set to another, by their numbers, with the rows of its tables. Where the set has no place of a number, both are the port that stands for none: that is
-- unsound, and so the number is 2; a place that is not used, and every place of a refused file, holds the port of zeros, which is unsound too
abbrev pub gateway_of : Set → List ℕ → ℕ → ℕ → Gateway
gateway_of s ns a l =
    cond (ltb a 16 && ltb l 16) (between (port_at s.ports a) (port_at s.ports l) (tables_in s) ns) (between unlisted_port unlisted_port (tables_in s) ns)

-- a file is read with room for 24,576 numbers, as many as the rows of a sound one may have: its set, and its rows
abbrev pub set_read : List ℕ → Set
set_read o = (file_reading o 24576).set

abbrev pub rows_read : List ℕ → List ℕ
rows_read o = take (file_reading o 24576).used (file_room o (replicate 24576 0))
