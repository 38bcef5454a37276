-- Document 02, Wish 1, "The sample": what the program runs with, of what was read of the file. A file that is missing or refused, or that has under two ports, is none to run
-- with: one `BROKEN` line.
use Rattle.std.specs.Prelude.{Option, Some, None, Bool, true, false, cond, ◌&&◌, List, [], ◌∷◌, ℕ, ◌-◌, eqb, leb, take, drop}
use Rattle.port.specs.declared.Port.{Port}
use Rattle.table.specs.Renumbering.{LentTable, no_renumbering}
use Rattle.table_choose.specs.declared.Found.{Found}
use Rattle.table_choose.specs.Tables.{used_tables, tables_from, no_table_from}
use Rattle.file_set.specs.declared.Set.{Set}
use Rattle.file_set.specs.Set.{tables_in}
use Rattle.route_ports.specs.Ports.{unlisted_port, port_at}
use Rattle.sample.specs.declared.Choice.{Choice}

-- two ports, and a table with its rows; not to be run with where `ok` is false
pub record Chosen : Type 0 where
  pub ok : Bool
  pub arriving : Port
  pub leaving : Port
  pub table : LentTable

-- the first of the list, or what stands for it
abbrev pub first_or : LentTable → List LentTable → LentTable
first_or d [] = d
first_or d (x ∷ xs) = x

-- the first two ports and the first table of an accepted file; without a table, one from another domain, so that a label has no number where one is asked for (16)
unfoldable pub sample_from : ℕ → Set → List ℕ → Chosen
sample_from verdict s ns =
    cond
    (eqb verdict 0 && leb 2 s.portcount)
    (record {
      ok = true;
      arriving = port_at s.ports 0;
      leaving = port_at s.ports 1;
      table = first_or (no_table_from (port_at s.ports 0).domain) (tables_from (used_tables (tables_in s)) ns);
    })
    (record { ok = false; arriving = unlisted_port; leaving = unlisted_port; table = record { item = no_renumbering; rows = [] } })

-- what the code answers, with the list that the rows lie in
abbrev pub chosen_of : Option Choice → List ℕ → Chosen
chosen_of None ns = record { ok = false; arriving = unlisted_port; leaving = unlisted_port; table = record { item = no_renumbering; rows = [] } }
chosen_of (Some c) ns =
    record { ok = true; arriving = c.arriving; leaving = c.leaving; table = record { item = c.item; rows = take (c.end - c.at) (drop c.at ns) } }

abbrev pub chosen_by : Port → Port → Found → Choice
chosen_by a l f = record { arriving = a; leaving = l; item = f.item; at = f.at; end = f.end }
