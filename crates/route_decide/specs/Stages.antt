-- What the private functions answer; no public contract names these but for the inputs put together.
use Rattle.std.specs.Prelude.{Bool, true, cond, not, ◌&&◌, ◌||◌, List, [], ◌∷◌, ◌++◌, ℕ, leb, ltb, take, is_ok}
use Rattle.std.proofs.Math.Option.{Option}
use Rattle.label.specs.Label.{zero_label}
use Rattle.port.specs.declared.Port.{Port}
use Rattle.port.specs.Port.{port_sound}
use Rattle.decision.specs.declared.Facts.{Facts}
use Rattle.decision.specs.declared.Decision.{Decision}
use Rattle.decision.specs.declared.Refusal.{Refusal}
use Rattle.decision.specs.Decision.{silenced, decided}
use Rattle.area.specs.Area.{bad_area}
use Rattle.arrive.specs.Checks.{silent, when, first_of, arrival_checks}
use Rattle.decision.specs.Verdict.{Verdict, stopped, stopped_by}
use Rattle.route.specs.Route.{routes_sound}
use Rattle.route_ports.specs.declared.Survey.{Survey}
use Rattle.table_choose.specs.declared.Tables.{Tables}
use Rattle.table_choose.specs.Tables.{tables_sound}
use Rattle.route_decide.specs.Routing.{Routing, no_route}

-- the inputs of a decision
abbrev pub routing_for : List Port → Tables → List ℕ → List ℕ → ℕ → ℕ → Facts → List ℕ → ℕ → Routing
routing_for ps ts ns rs arriving destination facts area room =
    record { ports = ps; tables = ts; rows = ns; routes = rs; arriving = arriving; destination = destination; facts = facts; area = area; room = room }

-- soundness of the set, of what is known of the ports
unfoldable pub known_sound : Survey → Tables → List ℕ → List ℕ → ℕ → Bool
known_sound s ts ns rs arriving =
    s.sound && (tables_sound ts ns && (ltb arriving s.count && (leb s.count 64 && routes_sound (take s.count s.domains) rs)))

-- without a route: 1, 2 of the arriving port, 3 to 14 of it, and then 22
abbrev pub unrouted_checks : Port → List ℕ → ℕ → List (Option Refusal)
unrouted_checks a area room = when (bad_area area || ltb room 40) (silent 1) ∷ when (not (port_sound a)) (silent 2) ∷ (arrival_checks a area 9 ++ (when true no_route ∷ []))

unfoldable pub unrouted_of : Port → Facts → List ℕ → ℕ → Decision
unrouted_of a facts area room = decided (silenced facts) (first_of (unrouted_checks a area room)) zero_label 0

-- what arriving answered, with 1 of the output before and 22 behind
unfoldable pub unrouted_by : Verdict → ℕ → Verdict
unrouted_by r room = cond (stopped_by 1 r) r (cond (ltb room 40) (stopped 1 0 0 0) (cond (is_ok r) (stopped 22 3 0 0) r))
