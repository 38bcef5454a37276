-- Document 01's table of checks with document 02's line 22, held against a box of many ports: the lines, and the order in which they are tested.
use Rattle.std.specs.Prelude.{not, ◌&&◌, ◌||◌, List, ◌∷◌, ◌++◌, ltb}
use Rattle.area.specs.Area.{bad_area, met_of}
use Rattle.arrive.specs.Checks.{walk_at, place_in, basic_in, arriving_basic, basic_passes}
use Rattle.decision.specs.Decision.{silenced}
use Rattle.route_decide.specs.Routing.{Routing, box_sound, chosen, is_unrouted, arriving_port, leaving_port, chosen_pair, routing_of}
use Rattle.demands.specs.Rules.{Rule, rule, arrival_rules, crossing_rules, order, tested, Follows}

-- 21 at the leaving port, where a route leads to one
abbrev pub leaving_rule : Routing → Rule
leaving_rule b =
    rule 21 (not (is_unrouted (chosen b)) && not (basic_passes (leaving_port b).basic.on (leaving_port b).basic.sending (arriving_basic (arriving_port b) b.area))) 3 9 0

abbrev pub routed_table : Routing → List Rule
routed_table b =
    -- 1: area over 40 octets or not a multiple of 4; output under 40 octets. 2: the set is unsound
    rule 1 (bad_area b.area || ltb b.room 40) 0 0 0
    ∷ rule 2 (not (box_sound b)) 0 0 0
    ∷ (arrival_rules (place_in (walk_at (arriving_port b) b.area)) (basic_in (walk_at (arriving_port b) b.area)) (arriving_port b) b.area 9
    ++ (leaving_rule b
    -- 22: no matching route, 3/0/0
    ∷ rule 22 (is_unrouted (chosen b)) 3 0 0
    ∷ crossing_rules (chosen_pair b)))

-- all lines in the order in which they are tested: 22 after 15, before 16
abbrev pub routed_tests : Routing → List Rule
routed_tests b = tested order (routed_table b) (arriving_port b).basic.on (met_of b.area)

-- the first line that applies gives number, type, code and pointer; 0 where none does
abbrev pub RoutedOrder : Type 0
RoutedOrder = (b : Routing) → Follows (routed_tests b) (silenced b.facts) (routing_of b)
