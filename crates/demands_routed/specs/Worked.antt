-- Document 02, Wishes 7 and 8: worked boxes, decided as the definitions compute it. The ports, areas and answers are those of the worked decisions of two ports
-- (the crate `demands`): an area with a label of level 3 and no categories arrives at port 0 of three, of the domains 5, 5 and 9.
use Rattle.std.specs.Prelude.{◌≡◌, true, List, [], ◌∷◌, ◌++◌, map, ℕ, ◌-◌, length, replicate}
use Rattle.label.specs.Label.{label_of, zero_label}
use Rattle.label.specs.Runs.{run}
use Rattle.port.specs.declared.Port.{Port}
use Rattle.port.specs.Port.{plain_port}
use Rattle.decision.specs.declared.Facts.{Facts}
use Rattle.decision.specs.declared.Decision.{Decision}
use Rattle.decision.specs.Decision.{no_fact}
use Rattle.table_levels.specs.declared.LevelPair.{LevelPair}
use Rattle.table_levels.specs.Levels.{pair, no_pair}
use Rattle.table.specs.declared.Renumbering.{Renumbering}
use Rattle.table_choose.specs.declared.Tables.{Tables}
use Rattle.route_decide.specs.Routing.{Routing, routing_of, routed_output}
use Rattle.demands.specs.Worked.{bare, requires, assigns, upside, beyond, marked, drop, pass, empty}

-- a table between two domains, with so many rows; without rows
abbrev pub row_table : ℕ → ℕ → List LevelPair → ℕ → Renumbering
row_table from to pairs rows =
    record { table = record { from = from; to = to; pairs = length pairs; count = rows }; levels = pairs ++ replicate (256 - length pairs) no_pair }

abbrev pub bare_table : ℕ → ℕ → List LevelPair → Renumbering
bare_table from to pairs = row_table from to pairs 0

abbrev pub listed : List Renumbering → Tables
listed ts = record { count = length ts; items = ts }

-- a port of domain 9
abbrev pub nine : Port
nine = plain_port 9 (label_of 9 0 []) (label_of 9 255 (run 0 65534 ∷ [])) true zero_label

abbrev pub three_ports : List Port
three_ports = requires ∷ beyond ∷ nine ∷ []

abbrev pub level_three : List ℕ
level_three = empty 3 (0 ∷ 0 ∷ [])

-- a datagram that arrives at port 0, with an output of 41 octets
abbrev pub box : List Port → List Renumbering → List ℕ → ℕ → List ℕ → Routing
box ports tables routes destination area =
    record { ports = ports; tables = listed tables; rows = []; routes = routes; arriving = 0; destination = destination; facts = no_fact; area = area; room = 41 }

abbrev pub arriving_at : ℕ → Routing → Routing
arriving_at n b =
    record { ports = b.ports; tables = b.tables; rows = b.rows; routes = b.routes; arriving = n; destination = b.destination; facts = b.facts; area = b.area; room = b.room }

abbrev pub with_room : ℕ → Routing → Routing
with_room n b =
    record { ports = b.ports; tables = b.tables; rows = b.rows; routes = b.routes; arriving = b.arriving; destination = b.destination; facts = b.facts; area = b.area; room = n }

abbrev pub a_fragment : Facts
a_fragment = record { error = no_fact.error; group = no_fact.group; link = no_fact.link; fragment = true; source = no_fact.source }

abbrev pub silenced_box : Routing → Routing
silenced_box b =
    record { ports = b.ports; tables = b.tables; rows = b.rows; routes = b.routes; arriving = b.arriving; destination = b.destination; facts = a_fragment; area = b.area; room = b.room }

-- routes alone: of three ports and no table, where a datagram of level 3 goes
abbrev pub routed : List ℕ → ℕ → Routing
routed routes destination = box three_ports [] routes destination level_three

-- by routes and tables; by routes with another port behind the first two, unread; by tables, unread
abbrev pub renumbered_by : List Renumbering → Routing
renumbered_by tables = box three_ports tables (0 ∷ 0 ∷ 2 ∷ 9 ∷ []) 7 level_three

-- by tables whose rows are lent, unread
abbrev pub lent_by : List Renumbering → List ℕ → Routing
lent_by tables rows =
    record {
      ports = three_ports;
      tables = listed tables;
      rows = rows;
      routes = 0 ∷ 0 ∷ 1 ∷ 5 ∷ [];
      arriving = 0;
      destination = 7;
      facts = no_fact;
      area = level_three;
      room = 41;
    }

abbrev pub beside_port : Port → Routing
beside_port p = box (requires ∷ beyond ∷ p ∷ []) [] (0 ∷ 0 ∷ 1 ∷ 5 ∷ []) 7 level_three

abbrev pub beside_table : Renumbering → Routing
beside_table t = box three_ports (bare_table 5 9 [] ∷ t ∷ []) (0 ∷ 0 ∷ 1 ∷ 5 ∷ []) 7 level_three

abbrev pub to_marked : List ℕ → List ℕ → Routing
to_marked routes area = box (marked ∷ beyond ∷ marked ∷ []) [] routes 7 area

pub record Box : Type 0 where
  pub given : Routing
  pub answer : Decision

abbrev pub is : Routing → Decision → Box
is b d = record { given = b; answer = d }

abbrev pub boxes : List Box
boxes =
    -- 22, 3/0/0, where no route matches, also of none; silenced, the number stays. 10.0.0.0/8 to port 1
    is (routed (167772160 ∷ 8 ∷ 1 ∷ 5 ∷ []) 184549376) (drop 22 3 0 0)
    ∷ is (routed (167772160 ∷ 8 ∷ 1 ∷ 5 ∷ []) 167772159) (drop 22 3 0 0)
    ∷ is (silenced_box (routed (167772160 ∷ 8 ∷ 1 ∷ 5 ∷ []) 184549376)) (drop 22 0 0 0)
    ∷ is (routed [] 0) (drop 22 3 0 0)
    ∷ is (routed (167772160 ∷ 8 ∷ 1 ∷ 5 ∷ []) 184549375) (pass 12 (bare 3))
    -- a prefix of no bits: every address
    ∷ is (routed (0 ∷ 0 ∷ 1 ∷ 5 ∷ []) 0) (pass 12 (bare 3))
    ∷ is (routed (0 ∷ 0 ∷ 1 ∷ 5 ∷ []) 4294967295) (pass 12 (bare 3))
    -- of one bit: 128.0.0.0/1
    ∷ is (routed (2147483648 ∷ 1 ∷ 1 ∷ 5 ∷ []) 2147483647) (drop 22 3 0 0)
    ∷ is (routed (2147483648 ∷ 1 ∷ 1 ∷ 5 ∷ []) 2147483648) (pass 12 (bare 3))
    -- of 31: 10.0.0.2/31
    ∷ is (routed (167772162 ∷ 31 ∷ 1 ∷ 5 ∷ []) 167772161) (drop 22 3 0 0)
    ∷ is (routed (167772162 ∷ 31 ∷ 1 ∷ 5 ∷ []) 167772162) (pass 12 (bare 3))
    ∷ is (routed (167772162 ∷ 31 ∷ 1 ∷ 5 ∷ []) 167772163) (pass 12 (bare 3))
    ∷ is (routed (167772162 ∷ 31 ∷ 1 ∷ 5 ∷ []) 167772164) (drop 22 3 0 0)
    -- of 32: 10.0.0.2/32
    ∷ is (routed (167772162 ∷ 32 ∷ 1 ∷ 5 ∷ []) 167772162) (pass 12 (bare 3))
    ∷ is (routed (167772162 ∷ 32 ∷ 1 ∷ 5 ∷ []) 167772163) (drop 22 3 0 0)
    -- it may leave by the port where it arrived
    ∷ is (routed (0 ∷ 0 ∷ 0 ∷ 5 ∷ []) 7) (pass 12 (bare 3))
    -- the longest prefix decides, wherever it stands: to port 2, for which there is no table
    ∷ is (routed (0 ∷ 0 ∷ 1 ∷ 5 ∷ 167772160 ∷ 8 ∷ 2 ∷ 9 ∷ []) 167772162) (drop 16 3 9 0)
    ∷ is (routed (167772160 ∷ 8 ∷ 2 ∷ 9 ∷ 0 ∷ 0 ∷ 1 ∷ 5 ∷ []) 167772162) (drop 16 3 9 0)
    -- no table for the pair: 16. Of two for it the first decides: it has no number for level 3
    ∷ is (renumbered_by []) (drop 16 3 9 0)
    ∷ is (renumbered_by (bare_table 9 5 (pair 3 4 ∷ []) ∷ bare_table 5 6 (pair 3 4 ∷ []) ∷ [])) (drop 16 3 9 0)
    ∷ is (renumbered_by (bare_table 5 9 (pair 1 2 ∷ []) ∷ bare_table 5 9 (pair 3 4 ∷ []) ∷ [])) (drop 16 3 9 0)
    -- rows of several tables in one list: each table takes as many as it counts. Rows that only another share makes sound; a row too few; a number too few; a number left over
    ∷ is (lent_by (row_table 9 5 [] 1 ∷ row_table 5 9 [] 1 ∷ []) (10 ∷ 20 ∷ 5 ∷ 0 ∷ 0 ∷ 7 ∷ [])) (pass 12 (bare 3))
    ∷ is (lent_by (row_table 9 5 [] 2 ∷ row_table 5 9 [] 0 ∷ []) (10 ∷ 20 ∷ 5 ∷ 0 ∷ 0 ∷ 7 ∷ [])) (drop 2 0 0 0)
    ∷ is (lent_by (row_table 5 9 [] 1 ∷ row_table 9 5 [] 1 ∷ []) (0 ∷ 0 ∷ 7 ∷ [])) (drop 2 0 0 0)
    ∷ is (lent_by (row_table 5 9 [] 1 ∷ []) (0 ∷ 0 ∷ [])) (drop 2 0 0 0)
    ∷ is (lent_by (row_table 5 9 [] 1 ∷ []) (0 ∷ 0 ∷ 7 ∷ 1 ∷ [])) (drop 2 0 0 0)
    -- 14 before 22, and 6; 22 before 16
    ∷ is (box three_ports [] [] 7 (empty 0 (0 ∷ 0 ∷ []))) (drop 14 3 9 0)
    ∷ is (box three_ports [] [] 7 []) (drop 6 12 1 134)
    -- "An unsound record (read or not)": the arriving port; a port that is not read; a table that is not read, of domain 0
    ∷ is (box (upside ∷ beyond ∷ []) [] (0 ∷ 0 ∷ 1 ∷ 5 ∷ []) 7 level_three) (drop 2 0 0 0)
    ∷ is (beside_port assigns) (pass 12 (bare 3))
    ∷ is (beside_port upside) (drop 2 0 0 0)
    ∷ is (beside_table (bare_table 5 9 [])) (pass 12 (bare 3))
    ∷ is (beside_table (bare_table 0 9 [])) (drop 2 0 0 0)
    ∷ is (beside_table (bare_table 9 0 [])) (drop 2 0 0 0)
    -- two equal prefixes of one length; of two lengths they are sound
    ∷ is (routed (0 ∷ 0 ∷ 1 ∷ 5 ∷ 0 ∷ 0 ∷ 0 ∷ 5 ∷ []) 7) (drop 2 0 0 0)
    ∷ is (routed (0 ∷ 0 ∷ 1 ∷ 5 ∷ 0 ∷ 1 ∷ 0 ∷ 5 ∷ []) 7) (pass 12 (bare 3))
    -- a length over 32; set bits past the length, the last and the first of them
    ∷ is (routed (0 ∷ 33 ∷ 1 ∷ 5 ∷ []) 7) (drop 2 0 0 0)
    ∷ is (routed (167772161 ∷ 31 ∷ 1 ∷ 5 ∷ []) 7) (drop 2 0 0 0)
    ∷ is (routed (2147483648 ∷ 0 ∷ 1 ∷ 5 ∷ []) 7) (drop 2 0 0 0)
    -- a port not in the list, the arriving one too; a domain other than its port's; numbers left over
    ∷ is (routed (0 ∷ 0 ∷ 3 ∷ 5 ∷ []) 7) (drop 2 0 0 0)
    ∷ is (arriving_at 3 (routed (0 ∷ 0 ∷ 1 ∷ 5 ∷ []) 7)) (drop 2 0 0 0)
    ∷ is (arriving_at 1 (routed (0 ∷ 0 ∷ 1 ∷ 5 ∷ []) 7)) (pass 12 (bare 3))
    ∷ is (routed (0 ∷ 0 ∷ 1 ∷ 9 ∷ []) 7) (drop 2 0 0 0)
    ∷ is (routed (0 ∷ 0 ∷ 1 ∷ 5 ∷ 0 ∷ []) 7) (drop 2 0 0 0)
    -- 1 before 2
    ∷ is (with_room 39 (routed (0 ∷ 33 ∷ 1 ∷ 5 ∷ []) 7)) (drop 1 0 0 0)
    -- 21 at the leaving port with a route, whatever it is; without one at the arriving port alone: Secret passes there, Top Secret does not; 20 without a 130
    ∷ is (to_marked (0 ∷ 0 ∷ 1 ∷ 5 ∷ []) (130 ∷ 3 ∷ 90 ∷ 0 ∷ [])) (drop 21 3 9 0)
    ∷ is (to_marked [] (130 ∷ 3 ∷ 90 ∷ 0 ∷ [])) (drop 22 3 0 0)
    ∷ is (to_marked [] (130 ∷ 3 ∷ 61 ∷ 0 ∷ [])) (drop 21 3 9 0)
    ∷ is (to_marked [] []) (drop 20 12 1 130)
    ∷ is (box (assigns ∷ marked ∷ []) [] [] 7 []) (drop 22 3 0 0)
    ∷ is (box (assigns ∷ marked ∷ []) [] (0 ∷ 0 ∷ 1 ∷ 5 ∷ []) 7 []) (drop 21 3 9 0)
    ∷ []

abbrev pub WorkedBoxes : Type 0
WorkedBoxes =
    (map (λ b. routing_of b.given) boxes ≡ map (λ b. b.answer) boxes)
    -- what is written: of a forwarding, and nothing of a refusal
    × (routed_output (routed (0 ∷ 0 ∷ 1 ∷ 5 ∷ []) 7) (replicate 41 9) ≡ empty 3 (replicate 30 0 ++ (9 ∷ [])))
    × (routed_output (routed [] 7) (replicate 41 9) ≡ replicate 41 9)
