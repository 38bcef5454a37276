-- Document 02, Wish 7: the limits of a box, "up to 64 port records .. up to 8 tables and 256 routes": with as many as a limit says nothing else is asked, with one more the
-- set is unsound.
use Rattle.std.specs.Prelude.{◌≡◌, true, false, List, ℕ, ◌+◌, ◌*◌, length}
use Rattle.table.specs.Table.{Lent, rows_sound, typed, table_sound}
use Rattle.table_levels.specs.Levels.{levels_sound}
use Rattle.route.specs.Route.{every, route_sound, prefixes_differ, routes_of, routes_sound}
use Rattle.route_ports.specs.Ports.{all_sound, ports_sound, domains_of}
use Rattle.table_choose.specs.Tables.{used_tables, tables_from, left_over, all_tables_sound, tables_sound}
use Rattle.route_decide.specs.Routing.{Routing, box_sound}

pub record Limits : Type 0 where
  pub ports64 : (b : Routing) → length b.ports ≡ 64 → all_sound b.ports ≡ true → ports_sound b.ports ≡ true
  pub ports65 : (b : Routing) → length b.ports ≡ 65 → box_sound b ≡ false
  pub tables8 : (b : Routing) → b.tables.count ≡ 8 → all_tables_sound (tables_from (used_tables b.tables) b.rows) ≡ true → length (left_over (used_tables b.tables) b.rows) ≡ 0
      → tables_sound b.tables b.rows ≡ true
  pub tables9 : (b : Routing) → b.tables.count ≡ 9 → box_sound b ≡ false
  -- four numbers a route
  pub routes256 : (b : Routing) → length b.routes ≡ 4 * 256 → every (route_sound (domains_of b.ports)) (routes_of b.routes) ≡ true → prefixes_differ (routes_of b.routes) ≡ true
      → routes_sound (domains_of b.ports) b.routes ≡ true
  pub routes257 : (b : Routing) → length b.routes ≡ 4 * 257 → box_sound b ≡ false

-- Document 02, Wish 8: "1,024 rows, lent by the caller (not as many as counted: 2), and level pairs to 256"
pub record TableLimits : Type 0 where
  -- with as many of both as the limits say, three numbers lent for each row, nothing else is asked than neither domain 0 and pairs and rows sound
  pub most : (t : Lent) (ls : List (List ℕ)) → t.pairs ≡ 256 → t.count ≡ 1024 → length t.rows ≡ 3072 → (t.from ≡ 0 → ⊥) → (t.to ≡ 0 → ⊥)
      → levels_sound ls 256 ≡ true → rows_sound t ≡ true → typed t ls ≡ true → table_sound t ls ≡ true
  pub pairs257 : (t : Lent) (ls : List (List ℕ)) → t.pairs ≡ 257 → table_sound t ls ≡ false
  pub rows1025 : (t : Lent) (ls : List (List ℕ)) → t.count ≡ 1025 → table_sound t ls ≡ false
  -- a number more or fewer than the rows counted have
  pub short : (t : Lent) (ls : List (List ℕ)) → length t.rows + 1 ≡ t.count * 3 → table_sound t ls ≡ false
  pub over : (t : Lent) (ls : List (List ℕ)) → length t.rows ≡ t.count * 3 + 1 → table_sound t ls ≡ false
