-- Demands 1, 2 and 3 over a box of many ports. Document 02, Wish 7: "Demand 2 gains: a route matches. Demand 3 adds: the same routes and tables, the same
-- arriving port number and the same destination."
use Rattle.std.specs.Prelude.{◌≡◌, true, false, List, ℕ, ◌+◌, ◌≤◌, length, take}
use Rattle.std.proofs.Math.Option.{none}
use Rattle.label.specs.declared.Label.{Label}
use Rattle.option.specs.Option.{Octets}
use Rattle.area_leaving.specs.Kept.{kept_of, round_up, leaving_of}
use Rattle.arrive.specs.Checks.{NoneApplies, bad_basic_check, arrival_checks}
use Rattle.decision.specs.declared.Refusal.{Refusal}
use Rattle.decision.specs.Decision.{silenced, refused, done}
use Rattle.forward_rules.specs.Crossing.{sizes}
use Rattle.route.specs.declared.Route.{Route}
use Rattle.route.specs.Route.{routes_of, matches}
use Rattle.route.specs.Theorems.{Listed, Decides}
use Rattle.route_ports.specs.Ports.{port_at}
use Rattle.table_choose.specs.Tables.{used_tables, tables_from}
use Rattle.table_choose.specs.Theorems.{NoneFor}
use Rattle.route_decide.specs.Routing.{Routing, box_sound, arriving_port, pair_by, chosen_pair, routing_checks, routing_of, routed_output}
use Rattle.demands.specs.Demands.{FirstIs, MeansAt, Forwards}
use Rattle.demands.specs.Crosses.{before_numbers}

-- the set is sound, a route matches and no longer one does, and between the two ports the conditions of demand 2 hold
pub record RoutedForwards (b : Routing) (r : Route) (l m : Label) (s : List ℕ) : Type 0 where
  pub sound : box_sound b ≡ true
  pub matched : Decides b.destination (routes_of b.routes) r
  pub forwards : Forwards (pair_by b r) l m s

-- two areas past checks 1 to 5 and 19 whose options 134 mean one label of the arriving port's domain, with kept options in order, ports, tables and their rows, routes,
-- arriving port number, destination and facts alike; the outputs may differ
pub record RoutedAlike (b c : Routing) (l : Label) : Type 0 where
  pub ports : b.ports ≡ c.ports
  pub tables : b.tables ≡ c.tables
  pub rows : b.rows ≡ c.rows
  pub routes : b.routes ≡ c.routes
  pub arriving : b.arriving ≡ c.arriving
  pub destination : b.destination ≡ c.destination
  pub facts : b.facts ≡ c.facts
  pub kept : kept_of b.area ≡ kept_of c.area
  pub sized : (sizes (chosen_pair b) ≡ none) × (sizes (chosen_pair c) ≡ none)
  pub sound : (box_sound b ≡ true) × (box_sound c ≡ true)
  pub first : MeansAt (arriving_port b) b.area l
  pub second : MeansAt (arriving_port c) c.area l
  pub good : (bad_basic_check (arriving_port b) b.area ≡ none) × (bad_basic_check (arriving_port c) c.area ≡ none)
  pub domain : l.domain ≡ (arriving_port b).domain

pub record BoxDemands : Type 0 where
  -- demand 1: the first refusal that applies, with its report, and the output is untouched
  pub first : (b : Routing) (x : Refusal) (out : List ℕ) → FirstIs (routing_checks b) x
      → (routing_of b ≡ refused (silenced b.facts) x) × (routed_output b out ≡ out)
  -- "No matching route is 22, 3/0/0": exactly when the checks before it pass and no route of the list matches
  pub unmatched : (b : Routing) → box_sound b ≡ true → sizes (chosen_pair b) ≡ none → NoneApplies (arrival_checks (arriving_port b) b.area 9)
      → ((s : Route) → Listed s (routes_of b.routes) → matches s b.destination ≡ false)
      → routing_of b ≡ refused (silenced b.facts) (record { number = 22; kind = 3; code = 0; pointer = 0 })
  -- "no table for differing domains is 16": of the decision, past the checks before it
  pub tableless : (b : Routing) (r : Route) → box_sound b ≡ true → Decides b.destination (routes_of b.routes) r
      → ((arriving_port b).domain ≡ (port_at b.ports r.port).domain → ⊥)
      → NoneFor (arriving_port b).domain (port_at b.ports r.port).domain (tables_from (used_tables b.tables) b.rows)
      → NoneApplies (before_numbers (pair_by b r))
      → (routing_of b).number ≡ 16
  -- demand 2: forwarded only when the conditions hold, and always then, with that label, count and output
  pub only : (b : Routing) → Octets b.area → (routing_of b).number ≡ 0
      → (r : Route) × (l : Label) × (m : Label) × (s : List ℕ) × RoutedForwards b r l m s
  pub always : (b : Routing) (r : Route) (l m : Label) (s out : List ℕ) → RoutedForwards b r l m s
      → (routing_of b ≡ done m (round_up (length s + length (kept_of b.area))))
      × (routed_output b out ≡ leaving_of s (kept_of b.area) out)
  -- demand 3: decided alike, with a route and without one; and, if forwarded, the same first 40 octets of output
  pub decided : (b c : Routing) (l : Label) → RoutedAlike b c l → routing_of b ≡ routing_of c
  pub written : (b c : Routing) (l : Label) (out out' : List ℕ) → RoutedAlike b c l → 40 ≤ length out → 40 ≤ length out' → (routing_of b).number ≡ 0
      → take 40 (routed_output b out) ≡ take 40 (routed_output c out')
