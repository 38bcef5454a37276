-- What a box of many ports decides, in terms of the two-port decision.
use Rattle.std.specs.Prelude.{None, Some, true, false, List, [], ◌∷◌, ◌++◌, ◌≡◌, ℕ}
use Rattle.std.proofs.Math.Option.{some}
use Rattle.label.specs.Label.{zero_label}
use Rattle.arrive.specs.Checks.{silent, barred, first_of, arrival_checks}
use Rattle.decision.specs.Decision.{silenced, decided}
use Rattle.forward_rules.specs.Crossing.{sizes, number_check, crossing}
use Rattle.forward_rules.specs.Forward.{forward_of, output_of}
use Rattle.route.specs.declared.Route.{Route}
use Rattle.table_choose.specs.Tables.{used_tables, tables_from}
use Rattle.table_choose.specs.Theorems.{NoneFor}
use Rattle.route_decide.specs.Routing.{Routing, box_sound, chosen, arriving_port, leaving_port, pair_by, chosen_pair, no_route, routing_of, routed_output}

pub record Routes : Type 0 where
  -- where a route is chosen, the decision is the two-port decision for its port, with the first table for that pair of domains; and so is the output
  pub routed : (b : Routing) (r : Route) → box_sound b ≡ true → chosen b ≡ Some r
      → routing_of b ≡ forward_of (pair_by b r)
  pub output : (b : Routing) (r : Route) (out : List ℕ) → box_sound b ≡ true → chosen b ≡ Some r
      → routed_output b out ≡ output_of (pair_by b r) out
  -- where none is chosen, 1 and the checks of the arriving port come first, and then 22; nothing is written
  pub unrouted : (b : Routing) → box_sound b ≡ true → chosen b ≡ None
      → routing_of b ≡ decided (silenced b.facts) (first_of (sizes (chosen_pair b) ∷ (arrival_checks (arriving_port b) b.area 9 ++ (some no_route ∷ [])))) zero_label 0
  pub unwritten : (b : Routing) (out : List ℕ) → box_sound b ≡ true → chosen b ≡ None → routed_output b out ≡ out
  -- an unsound set is 2, after 1; nothing is written
  pub unsound : (b : Routing) → box_sound b ≡ false → routing_of b ≡ decided (silenced b.facts) (first_of (sizes (chosen_pair b) ∷ some (silent 2) ∷ [])) zero_label 0
  pub untouched : (b : Routing) (out : List ℕ) → box_sound b ≡ false → routed_output b out ≡ out
  -- differing domains and no table for the pair: 16, where 16 is tested
  pub tableless : (b : Routing) → ((arriving_port b).domain ≡ (leaving_port b).domain → ⊥)
      → NoneFor (arriving_port b).domain (leaving_port b).domain (tables_from (used_tables b.tables) b.rows) → number_check (crossing (chosen_pair b)) ≡ some (barred 16 9)
