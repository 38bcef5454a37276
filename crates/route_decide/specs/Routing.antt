-- Document 02, Wish 7: the decision of a box of many ports. A route chooses the port that a datagram leaves by; what is decided then is the two-port decision for that pair.
use Rattle.std.specs.Prelude.{None, Some, Bool, true, false, not, ◌&&◌, List, [], ◌∷◌, ◌++◌, ℕ, ltb, length}
use Rattle.std.proofs.Math.Option.{Option, none}
use Rattle.port.specs.declared.Port.{Port}
use Rattle.area_leaving.specs.Kept.{kept_of}
use Rattle.decision.specs.declared.Facts.{Facts}
use Rattle.decision.specs.declared.Decision.{Decision}
use Rattle.decision.specs.declared.Refusal.{Refusal}
use Rattle.decision.specs.Decision.{silenced, decided}
use Rattle.arrive.specs.Checks.{silent, barred, when, first_of, option_checks, range_check}
use Rattle.forward_rules.specs.Crossing.{Forwarding, sizes, leaving_basic_check, number_check, leaving_check, spelling_check, crossing, leaving_label, leaving_option}
use Rattle.forward_rules.specs.Forward.{option_octets, leaving_count, written}
use Rattle.table.specs.Renumbering.{LentTable, lent_of, levels_of}
use Rattle.route.specs.declared.Route.{Route}
use Rattle.route.specs.Route.{Chosen, routes_of, longest, routes_sound}
use Rattle.route_ports.specs.Ports.{unlisted_port, port_at, ports_sound, domains_of}
use Rattle.table_choose.specs.declared.Tables.{Tables}
use Rattle.table_choose.specs.Tables.{used_tables, tables_from, tables_sound, first_table}

-- The set: ports, tables with the numbers of their rows, and routes; and a datagram: the number of the port that it arrives at, its destination, and what the two-port decision asks of it.
pub record Routing : Type 0 where
  pub ports : List Port
  pub tables : Tables
  pub rows : List ℕ
  pub routes : List ℕ
  pub arriving : ℕ
  pub destination : ℕ
  pub facts : Facts
  pub area : List ℕ
  pub room : ℕ

-- the arriving port is in the list
abbrev pub arriving_listed : Routing → Bool
arriving_listed b = ltb b.arriving (length b.ports)

-- at most 64 ports and 8 tables, each sound, read or not; the arriving port is listed; the routes are sound for these ports
unfoldable pub box_sound : Routing → Bool
box_sound b = ports_sound b.ports && (tables_sound b.tables b.rows && (arriving_listed b && routes_sound (domains_of b.ports) b.routes))

-- the route that decides
unfoldable pub chosen : Routing → Chosen
chosen b = longest b.destination (routes_of b.routes)

abbrev pub arriving_port : Routing → Port
arriving_port b = port_at b.ports b.arriving

-- the port that the route leads to
abbrev pub port_by : List Port → Chosen → Port
port_by ps None = unlisted_port
port_by ps (Some r) = port_at ps r.port

abbrev pub leaving_port : Routing → Port
leaving_port b = port_by b.ports (chosen b)

-- "the first table for that pair of domains"
abbrev pub table_between : Tables → List ℕ → Port → Port → LentTable
table_between ts ns a l = first_table a.domain l.domain (tables_from (used_tables ts) ns)

-- a forwarding from one port to another
abbrev pub between : Port → Port → Tables → List ℕ → Facts → List ℕ → ℕ → Forwarding
between a l ts ns facts area room =
    record {
      arriving = a;
      leaving = l;
      table = lent_of (table_between ts ns a l);
      levels = levels_of (table_between ts ns a l).item;
      facts = facts;
      area = area;
      room = room;
    }

-- the forwarding to a route's port
abbrev pub pair_by : Routing → Route → Forwarding
pair_by b r = between (arriving_port b) (port_at b.ports r.port) b.tables b.rows b.facts b.area b.room

-- "the two-port decision for the chosen pair": what it is asked of
abbrev pub chosen_pair : Routing → Forwarding
chosen_pair b = between (arriving_port b) (leaving_port b) b.tables b.rows b.facts b.area b.room

-- 2: the set is unsound
unfoldable pub set_check : Routing → Option Refusal
set_check b = when (not (box_sound b)) (silent 2)

-- 21 of the leaving port: without a route there is none
abbrev pub leaving_basic_by : Chosen → Forwarding → Option Refusal
leaving_basic_by None f = none
leaving_basic_by (Some r) f = leaving_basic_check f

-- 22: no route matches
abbrev pub no_route : Refusal
no_route = barred 22 0

abbrev pub is_unrouted : Chosen → Bool
is_unrouted None = true
is_unrouted (Some r) = false

unfoldable pub route_check : Routing → Option Refusal
route_check b = when (is_unrouted (chosen b)) no_route

-- the checks in their order
abbrev pub routing_checks : Routing → List (Option Refusal)
routing_checks b =
    sizes (chosen_pair b)  -- 1
    ∷ set_check b  -- 2
    ∷ (option_checks (arriving_port b) b.area 9  -- 3 to 13 with 23, 19 to 21 at the arriving port
    ++ (leaving_basic_by (chosen b) (chosen_pair b)  -- 21, the leaving port
    ∷ range_check (arriving_port b) b.area 9  -- 14
    ∷ route_check b  -- 22
    ∷ number_check (crossing (chosen_pair b))  -- 16
    ∷ leaving_check (crossing (chosen_pair b))  -- 17
    ∷ spelling_check (crossing (chosen_pair b)) (kept_of b.area)  -- 18
    ∷ []))

unfoldable pub routing_of : Routing → Decision
routing_of b = decided (silenced b.facts) (first_of (routing_checks b)) (leaving_label (crossing (chosen_pair b))) (leaving_count (chosen_pair b))

-- the output at the end: a refusal writes nothing
unfoldable pub routed_output : Routing → List ℕ → List ℕ
routed_output b out = written (first_of (routing_checks b)) (option_octets (leaving_option (crossing (chosen_pair b)))) (kept_of b.area) out
