-- Document 02, wishes 7 and 8: up to 8 tables, each with its level pairs, the rows of all in one lent list, and the first table for a pair of domains.
use Rattle.std.specs.Prelude.{Bool, true, cond, ◌&&◌, List, [], ◌∷◌, ℕ, ◌-◌, ◌*◌, leb, eqb, length, take, drop}
use Rattle.table.specs.declared.Renumbering.{Renumbering}
use Rattle.table.specs.Renumbering.{no_renumbering, LentTable, lent_sound}
use Rattle.table_choose.specs.declared.Tables.{Tables}
use Rattle.table_choose.specs.declared.Found.{Found}

-- the tables in use: the first `count` places; what stands behind them is not read
abbrev pub used_tables : Tables → List Renumbering
used_tables ts = take ts.count ts.items

-- how many numbers a table's rows have
abbrev pub share : Renumbering → ℕ
share r = r.table.count * 3

-- the tables with their rows: each takes its part of the list, one after the other
abbrev pub tables_from : List Renumbering → List ℕ → List LentTable
tables_from [] ns = []
tables_from (r ∷ rs) ns = record { item = r; rows = take (share r) ns } ∷ tables_from rs (drop (share r) ns)

-- what no table takes
abbrev pub left_over : List Renumbering → List ℕ → List ℕ
left_over [] ns = ns
left_over (r ∷ rs) ns = left_over rs (drop (share r) ns)

abbrev pub all_tables_sound : List LentTable → Bool
all_tables_sound [] = true
all_tables_sound (x ∷ xs) = lent_sound x && all_tables_sound xs

-- at most 8 tables, each sound, read or not, and no number left over behind the last
unfoldable pub tables_sound : Tables → List ℕ → Bool
tables_sound ts ns =
    leb ts.count 8 && (all_tables_sound (tables_from (used_tables ts) ns) && eqb (length (left_over (used_tables ts) ns)) 0)

-- the table is for this pair of domains
abbrev pub is_for : ℕ → ℕ → LentTable → Bool
is_for from to x = eqb x.item.table.from from && eqb x.item.table.to to

-- what stands for the table where there is none: a sound one from another domain, which has no number for any label (16)
abbrev pub no_table_from : ℕ → LentTable
no_table_from from =
    record {
      item = record { table = record { from = cond (eqb from 1) 2 1; to = 1; pairs = 0; count = 0 }; levels = no_renumbering.levels };
      rows = [];
    }

-- the first table for a pair of domains
abbrev pub first_table : ℕ → ℕ → List LentTable → LentTable
first_table from to [] = no_table_from from
first_table from to (x ∷ xs) = cond (is_for from to x) x (first_table from to xs)

-- a table and the part of the list where its rows lie
abbrev pub lent_found : Found → List ℕ → LentTable
lent_found f ns = record { item = f.item; rows = take (f.end - f.at) (drop f.at ns) }
