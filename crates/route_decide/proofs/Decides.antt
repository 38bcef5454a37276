-- The decision by the route chosen, and by none.
use mathlib.Core.Path.{◌≡◌, refl, sym, ◌∙◌, ap}
use mathlib.Core.Bool.{Bool, true, false, ◌&&◌, ◌||◌}
use mathlib.Core.List.{List, [], ◌∷◌, ◌++◌}
use mathlib.Core.Option.{Option, none, some}
use Prim.Native.Nat.{ℕ, ◌<◌}
use native.Mathlib.Omega.{arith}
use lib.Dec.{leb, eqb}
use borrow.Author.Tests.{ltb-true, ne_eqb}
use lib.ListN.{length, length-map}
use Rattle.label.proofs.Bools.{and_left, and_right}
use Rattle.label.specs.Label.{zero_label}
use Rattle.port.specs.declared.Port.{Port}
use Rattle.port.specs.Port.{port_sound}
use Rattle.decision.specs.declared.Refusal.{Refusal}
use Rattle.decision.specs.Decision.{silenced, decided}
use Rattle.arrive.specs.Checks.{silent, barred, first_of, walk_check, required_check, option_check, bad_basic_check, missing_basic_check, basic_range_check, range_check, arrival_checks}
use Rattle.area_leaving.specs.Kept.{kept_of}
use Rattle.forward_rules.specs.Crossing.{sizes, records, same_domain, leaving_basic_check, number_check, leaving_check, spelling_check, crossing, leaving_label, leaving_option}
use Rattle.forward_rules.specs.Forward.{option_octets, forward_checks, leaving_count, forward_of, output_of}
use Rattle.forward_rules.specs.Forward.{forwarding_of}
use Rattle.decision.specs.declared.Facts.{Facts}
use Rattle.table.specs.Renumbering.{LentTable, lent_of, levels_of}
use Rattle.route.specs.declared.Route.{Route}
use Rattle.route.specs.Route.{Chosen}
use Rattle.std.specs.Prelude.{None, Some}
use Rattle.route.specs.Route.{routes_sound}
use Rattle.route.proofs.Longest.{chosen_leads}
use Rattle.route_ports.specs.Ports.{port_at, ports_sound, domains_of}
use Rattle.route_ports.proofs.Laws.{sound_at}
use Rattle.table_choose.specs.declared.Tables.{Tables}
use Rattle.table_choose.specs.Tables.{used_tables, tables_from, left_over, all_tables_sound, tables_sound, no_table_from}
use Rattle.table_choose.specs.Theorems.{NoneFor}
use Rattle.table_choose.proofs.Theorems.{first_table_lem}
use Rattle.route_decide.specs.Routing.{Routing, arriving_listed, box_sound, chosen, arriving_port, leaving_port, table_between, between, pair_by, chosen_pair, set_check, leaving_basic_by, no_route, route_check, routing_checks, routing_of, routed_output}
use Rattle.route_decide.proofs.Lists.{skip, cut, refuses, writes_nothing}

-- the parts of a sound set
module _ (b : Routing) (e : box_sound b ≡ true) where
  ports_of_lem : ports_sound b.ports ≡ true
  unfolding box_sound
  ports_of_lem = and_left (ports_sound b.ports) (tables_sound b.tables b.rows && (arriving_listed b && routes_sound (domains_of b.ports) b.routes)) e

  rest_of : (tables_sound b.tables b.rows && (arriving_listed b && routes_sound (domains_of b.ports) b.routes)) ≡ true
  unfolding box_sound
  rest_of = and_right (ports_sound b.ports) (tables_sound b.tables b.rows && (arriving_listed b && routes_sound (domains_of b.ports) b.routes)) e

  tables_of : all_tables_sound (tables_from (used_tables b.tables) b.rows) ≡ true
  unfolding tables_sound
  tables_of =
      and_left (all_tables_sound (tables_from (used_tables b.tables) b.rows)) (eqb (length (left_over (used_tables b.tables) b.rows)) 0)
      (and_right (leb b.tables.count 8) _ (and_left (tables_sound b.tables b.rows) (arriving_listed b && routes_sound (domains_of b.ports) b.routes) rest_of))

  last_of : (arriving_listed b && routes_sound (domains_of b.ports) b.routes) ≡ true
  last_of = and_right (tables_sound b.tables b.rows) (arriving_listed b && routes_sound (domains_of b.ports) b.routes) rest_of

  pub routes_of_lem : routes_sound (domains_of b.ports) b.routes ≡ true
  routes_of_lem = and_right (arriving_listed b) (routes_sound (domains_of b.ports) b.routes) last_of

  pub arriving_sound : port_sound (arriving_port b) ≡ true
  arriving_sound = sound_at b.ports ports_of_lem b.arriving (ltb-true b.arriving (length b.ports) (and_left (arriving_listed b) (routes_sound (domains_of b.ports) b.routes) last_of))

  leaving_sound : (r : Route) → chosen b ≡ Some r → port_sound (port_at b.ports r.port) ≡ true
  unfolding chosen
  leaving_sound r c =
      let l : r.port < length (domains_of b.ports) = chosen_leads b.destination (domains_of b.ports) b.routes r (and_right (arriving_listed b) (routes_sound (domains_of b.ports) b.routes) last_of) c in
      let m : length (domains_of b.ports) ≡ length b.ports = length-map b.ports (λ (q : Port). q.domain) in
      sound_at b.ports ports_of_lem r.port (omega arith)

  -- no record that the two-port decision reads is unsound
  pub records_none : (r : Route) → chosen b ≡ Some r → records (pair_by b r) ≡ none
  unfolding records
  records_none r c =
      let t = first_table_lem.sound (arriving_port b).domain (port_at b.ports r.port).domain (tables_from (used_tables b.tables) b.rows) tables_of in
      rw (arriving_sound, leaving_sound r c, t, or_true (same_domain (pair_by b r)))
    where
      or_true : (x : Bool) → (x || true) ≡ true
      or_true true = refl
      or_true false = refl

  set_none : set_check b ≡ none
  unfolding set_check
  set_none = rw e

  module _ (r : Route) (c : chosen b ≡ Some r) where
    route_none : route_check b ≡ none
    unfolding route_check
    route_none = rw c

    -- the checks of the two-port decision, before and from 16 on
    abbrev front : List (Option Refusal)
    front =
        sizes (pair_by b r)
        ∷ none
        ∷ walk_check (arriving_port b) b.area
        ∷ required_check (arriving_port b) b.area
        ∷ option_check (arriving_port b) b.area
        ∷ bad_basic_check (arriving_port b) b.area
        ∷ missing_basic_check (arriving_port b) b.area
        ∷ basic_range_check (arriving_port b) b.area 9
        ∷ leaving_basic_check (pair_by b r)
        ∷ range_check (arriving_port b) b.area 9
        ∷ []

    abbrev back : List (Option Refusal)
    back = number_check (crossing (pair_by b r)) ∷ leaving_check (crossing (pair_by b r)) ∷ spelling_check (crossing (pair_by b r)) (kept_of b.area) ∷ []

    first_routed : first_of (routing_checks b) ≡ first_of (forward_checks (pair_by b r))
    first_routed =
        let here : first_of (routing_checks b) ≡ first_of (front ++ (none ∷ back)) = rw (set_none, route_none, c) in
        let there : first_of (forward_checks (pair_by b r)) ≡ first_of (front ++ back) = rw (records_none r c) in
        here ∙ skip front back ∙ sym there

    pub routed_of : routing_of b ≡ forward_of (pair_by b r)
    unfolding routing_of forward_of
    routed_of = rw (first_routed, c)

    pub output_of_lem : (out : List ℕ) → routed_output b out ≡ output_of (pair_by b r) out
    unfolding routed_output output_of
    output_of_lem out = rw (first_routed, c)

-- without a route
module _ (b : Routing) (e : box_sound b ≡ true) (c : chosen b ≡ None) where
  route_none_matches : route_check b ≡ some no_route
  unfolding route_check
  route_none_matches = rw c

  abbrev arrived : List (Option Refusal)
  arrived = arrival_checks (arriving_port b) b.area 9

  abbrev early : List (Option Refusal)
  early =
      walk_check (arriving_port b) b.area
      ∷ required_check (arriving_port b) b.area
      ∷ option_check (arriving_port b) b.area
      ∷ bad_basic_check (arriving_port b) b.area
      ∷ missing_basic_check (arriving_port b) b.area
      ∷ basic_range_check (arriving_port b) b.area 9
      ∷ []

  abbrev late : List (Option Refusal)
  late = number_check (crossing (chosen_pair b)) ∷ leaving_check (crossing (chosen_pair b)) ∷ spelling_check (crossing (chosen_pair b)) (kept_of b.area) ∷ []

  first_unrouted : first_of (routing_checks b) ≡ first_of ((sizes (chosen_pair b) ∷ arrived) ++ (some no_route ∷ []))
  first_unrouted =
      ap (λ (o : Option Refusal). first_of (sizes (chosen_pair b) ∷ o ∷ (early ++ (leaving_basic_by (chosen b) (chosen_pair b) ∷ range_check (arriving_port b) b.area 9 ∷ route_check b ∷ late)))) (set_none b e)
      ∙ ap (λ (o : Option Refusal). first_of (sizes (chosen_pair b) ∷ none ∷ (early ++ (leaving_basic_by (chosen b) (chosen_pair b) ∷ range_check (arriving_port b) b.area 9 ∷ o ∷ late)))) route_none_matches
      ∙ ap (λ (k : Chosen). first_of (sizes (chosen_pair b) ∷ none ∷ (early ++ (leaving_basic_by k (chosen_pair b) ∷ range_check (arriving_port b) b.area 9 ∷ some no_route ∷ late)))) c
      ∙ skip (sizes (chosen_pair b) ∷ []) (early ++ (none ∷ range_check (arriving_port b) b.area 9 ∷ some no_route ∷ late))
      ∙ skip (sizes (chosen_pair b) ∷ early) (range_check (arriving_port b) b.area 9 ∷ some no_route ∷ late)
      ∙ cut (sizes (chosen_pair b) ∷ arrived) no_route late

  pub unrouted_of_lem : routing_of b ≡ decided (silenced b.facts) (first_of (sizes (chosen_pair b) ∷ (arrived ++ (some no_route ∷ [])))) zero_label 0
  unfolding routing_of
  unrouted_of_lem = refuses (first_of (routing_checks b)) (sizes (chosen_pair b) ∷ arrived) no_route first_unrouted (silenced b.facts) (leaving_label (crossing (chosen_pair b))) zero_label (leaving_count (chosen_pair b)) 0

  pub unwritten_of : (out : List ℕ) → routed_output b out ≡ out
  unfolding routed_output
  unwritten_of out = writes_nothing (first_of (routing_checks b)) (sizes (chosen_pair b) ∷ arrived) no_route first_unrouted (option_octets (leaving_option (crossing (chosen_pair b)))) (kept_of b.area) out

-- an unsound set
module _ (b : Routing) (e : box_sound b ≡ false) where
  set_some : set_check b ≡ some (silent 2)
  unfolding set_check
  set_some = rw e

  abbrev rest : List (Option Refusal)
  rest =
      walk_check (arriving_port b) b.area
      ∷ required_check (arriving_port b) b.area
      ∷ option_check (arriving_port b) b.area
      ∷ bad_basic_check (arriving_port b) b.area
      ∷ missing_basic_check (arriving_port b) b.area
      ∷ basic_range_check (arriving_port b) b.area 9
      ∷ leaving_basic_by (chosen b) (chosen_pair b)
      ∷ range_check (arriving_port b) b.area 9
      ∷ route_check b
      ∷ number_check (crossing (chosen_pair b))
      ∷ leaving_check (crossing (chosen_pair b))
      ∷ spelling_check (crossing (chosen_pair b)) (kept_of b.area)
      ∷ []

  first_unsound : first_of (routing_checks b) ≡ first_of ((sizes (chosen_pair b) ∷ []) ++ (some (silent 2) ∷ []))
  first_unsound = ap (λ (o : Option Refusal). first_of (sizes (chosen_pair b) ∷ o ∷ rest)) set_some ∙ cut (sizes (chosen_pair b) ∷ []) (silent 2) rest

  pub unsound_of : routing_of b ≡ decided (silenced b.facts) (first_of (sizes (chosen_pair b) ∷ some (silent 2) ∷ [])) zero_label 0
  unfolding routing_of
  unsound_of = refuses (first_of (routing_checks b)) (sizes (chosen_pair b) ∷ []) (silent 2) first_unsound (silenced b.facts) (leaving_label (crossing (chosen_pair b))) zero_label (leaving_count (chosen_pair b)) 0

  pub untouched_of : (out : List ℕ) → routed_output b out ≡ out
  unfolding routed_output
  untouched_of out = writes_nothing (first_of (routing_checks b)) (sizes (chosen_pair b) ∷ []) (silent 2) first_unsound (option_octets (leaving_option (crossing (chosen_pair b)))) (kept_of b.area) out

-- a table from another domain has no number for any label
pub tableless_of : (b : Routing) → ((arriving_port b).domain ≡ (leaving_port b).domain → ⊥) → NoneFor (arriving_port b).domain (leaving_port b).domain (tables_from (used_tables b.tables) b.rows)
    → number_check (crossing (chosen_pair b)) ≡ some (barred 16 9)
unfolding number_check
tableless_of b differ missing =
    let t : table_between b.tables b.rows (arriving_port b) (leaving_port b) ≡ no_table_from (arriving_port b).domain = first_table_lem.missing (arriving_port b).domain (leaving_port b).domain (tables_from (used_tables b.tables) b.rows) missing in
    let f : eqb (table_between b.tables b.rows (arriving_port b) (leaving_port b)).item.table.from (arriving_port b).domain ≡ false
    = ap (λ (x : LentTable). eqb x.item.table.from (arriving_port b).domain) t ∙ ne_eqb (no_table_from (arriving_port b).domain).item.table.from (arriving_port b).domain (first_table_lem.other (arriving_port b).domain) in
    rw (ne_eqb (arriving_port b).domain (leaving_port b).domain differ, f)

-- what the table chosen with its rows, and its level pairs as they are handed on, make of the forwarding
pub by_first : {a l : Port} (ts : Tables) (ns : List ℕ) (facts : Facts) (area : List ℕ) (room : ℕ) {x : LentTable} {ls : List (List ℕ)} → x ≡ table_between ts ns a l → ls ≡ levels_of x.item
    → forwarding_of a l (lent_of x) ls facts area room ≡ between a l ts ns facts area room
by_first {a} {l} ts ns facts area room {x} {ls} e f =
    ap (λ (z : List (List ℕ)). forwarding_of a l (lent_of x) z facts area room) f ∙ ap (λ (z : LentTable). forwarding_of a l (lent_of z) (levels_of z.item) facts area room) e
