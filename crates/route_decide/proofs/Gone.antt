-- What is decided without a sound set, without a route and by a route is the decision of the box.
use mathlib.Core.Path.{◌≡◌, refl, sym, ◌∙◌, ap}
use mathlib.Core.Bool.{Bool, true, false, not, ◌&&◌, ◌||◌}
use mathlib.Core.List.{List, [], ◌∷◌, ◌++◌}
use mathlib.Core.Option.{Option, some}
use Prim.Native.Nat.{ℕ}
use lib.Dec.{leb, ltb}
use lib.ListN.{length, take}
use borrow.Author.Tests.{le-leb}
use Rattle.label.specs.Label.{zero_label}
use Rattle.port.specs.declared.Port.{Port}
use Rattle.port.specs.Port.{port_sound}
use Rattle.decision.specs.declared.Facts.{Facts}
use Rattle.decision.specs.declared.Decision.{Decision}
use Rattle.decision.specs.declared.Refusal.{Refusal}
use Rattle.decision.specs.Decision.{silenced, decided}
use Rattle.area.specs.Area.{bad_area}
use Rattle.arrive.specs.Checks.{silent, when, first_of, arrival_checks}
use Rattle.forward_rules.specs.Crossing.{Forwarding, sizes}
use Rattle.forward_rules.specs.Forward.{forward_of, output_of}
use Rattle.route.specs.declared.Route.{Route}
use Rattle.std.specs.Prelude.{None, Some}
use Rattle.route.specs.Route.{routes_of, longest, routes_sound}
use Rattle.route_ports.specs.declared.Survey.{Survey}
use Rattle.route_ports.specs.Ports.{unlisted_port, port_at, ports_sound, domains_of, survey_of}
use Rattle.route_ports.proofs.Laws.{few_enough, count_known, domains_known, survey_sound, none_unsound}
use Rattle.table_choose.specs.declared.Tables.{Tables}
use Rattle.table_choose.specs.Tables.{tables_sound}
use Rattle.route_decide.specs.Routing.{Routing, box_sound, chosen, chosen_pair, pair_by, between, no_route, routing_of, routed_output}
use Rattle.route_decide.specs.Stages.{routing_for, known_sound, unrouted_of}
use Rattle.route_decide.proofs.Lists.{skip, cut}
use Rattle.route_decide.proofs.Decides.{arriving_sound, routed_of, output_of_lem, unrouted_of_lem, unwritten_of, unsound_of, untouched_of}

module _ (ps : List Port) (ts : Tables) (ns rs : List ℕ) (i destination : ℕ) (facts : Facts) (area : List ℕ) (room : ℕ) where
  abbrev b : Routing
  b = routing_for ps ts ns rs i destination facts area room

  -- what is known of the ports is enough to tell whether the set is sound
  known_set : known_sound (survey_of ps) ts ns rs i ≡ box_sound b
  unfolding known_sound box_sound
  known_set = go (ports_sound ps) refl
    where
      go : (t : Bool) → ports_sound ps ≡ t
          → ((survey_of ps).sound && (tables_sound ts ns && (ltb i (survey_of ps).count && (leb (survey_of ps).count 64 && routes_sound (take (survey_of ps).count (survey_of ps).domains) rs))))
          ≡ (ports_sound ps && (tables_sound ts ns && (ltb i (length ps) && routes_sound (domains_of ps) rs)))
      go false e = rw (survey_sound ps, e)
      go true e =
          let f : leb (length ps) 64 ≡ true = le-leb (length ps) 64 (few_enough ps e) in
          rw (survey_sound ps, e, domains_known ps e, count_known ps e, f)

  -- where the set is unsound, the box answers as where the arriving port is not sound
  unsound_answer : unrouted_of unlisted_port facts area room ≡ decided (silenced facts) (first_of (sizes (chosen_pair b) ∷ some (silent 2) ∷ [])) zero_label 0
  unfolding unrouted_of sizes
  unsound_answer =
      ap (λ (t : Bool). decided (silenced facts) (first_of (when (bad_area area || ltb room 40) (silent 1) ∷ when (not t) (silent 2) ∷ (arrival_checks unlisted_port area 9 ++ (some no_route ∷ [])))) zero_label 0) none_unsound
      ∙ ap (λ (o : Option Refusal). decided (silenced facts) o zero_label 0) (cut (when (bad_area area || ltb room 40) (silent 1) ∷ []) (silent 2) (arrival_checks unlisted_port area 9 ++ (some no_route ∷ [])))

  unrouted_answer : port_sound (port_at ps i) ≡ true → unrouted_of (port_at ps i) facts area room ≡ decided (silenced facts) (first_of (sizes (chosen_pair b) ∷ (arrival_checks (port_at ps i) area 9 ++ (some no_route ∷ [])))) zero_label 0
  unfolding unrouted_of sizes
  unrouted_answer e =
      ap (λ (t : Bool). decided (silenced facts) (first_of (when (bad_area area || ltb room 40) (silent 1) ∷ when (not t) (silent 2) ∷ (arrival_checks (port_at ps i) area 9 ++ (some no_route ∷ [])))) zero_label 0) e
      ∙ ap (λ (o : Option Refusal). decided (silenced facts) o zero_label 0) (skip (when (bad_area area || ltb room 40) (silent 1) ∷ []) (arrival_checks (port_at ps i) area 9 ++ (some no_route ∷ [])))

  -- what is decided where the set is unsound, where no route matches, and by a route
  pub unsound_gone : (s : Survey) → s ≡ survey_of ps → known_sound s ts ns rs i ≡ false → (p : Port) → p ≡ unlisted_port → (d : Decision) → d ≡ unrouted_of p facts area room → (out : List ℕ)
      → (d ≡ routing_of b) × (out ≡ routed_output b out)
  unsound_gone s es k p ep d ed out =
      let e : box_sound b ≡ false = sym known_set ∙ ap (λ (x : Survey). known_sound x ts ns rs i) (sym es) ∙ k in
      (ed ∙ ap (λ (q : Port). unrouted_of q facts area room) ep ∙ unsound_answer ∙ sym (unsound_of b e), sym (untouched_of b e out))

  module _ (s : Survey) (es : s ≡ survey_of ps) (k : known_sound s ts ns rs i ≡ true) where
    sound : box_sound b ≡ true
    sound = sym known_set ∙ ap (λ (x : Survey). known_sound x ts ns rs i) (sym es) ∙ k

    pub unrouted_gone : longest destination (routes_of rs) ≡ None → (a : Port) → a ≡ port_at ps i → (d : Decision) → d ≡ unrouted_of a facts area room → (out : List ℕ)
        → (d ≡ routing_of b) × (out ≡ routed_output b out)
    unfolding chosen
    unrouted_gone c a ea d ed out =
        (ed ∙ ap (λ (q : Port). unrouted_of q facts area room) ea ∙ unrouted_answer (arriving_sound b sound) ∙ sym (unrouted_of_lem b sound c), sym (unwritten_of b sound c out))

    pub routed_gone : (r : Route) → longest destination (routes_of rs) ≡ Some r → (a l : Port) → a ≡ port_at ps i → l ≡ port_at ps r.port → (d : Decision) (out zs : List ℕ)
        → (d ≡ forward_of (between a l ts ns facts area room)) × (zs ≡ output_of (between a l ts ns facts area room) out) → (d ≡ routing_of b) × (zs ≡ routed_output b out)
    unfolding chosen
    routed_gone r c a l ea el d out zs g =
        let e : between a l ts ns facts area room ≡ pair_by b r = λ j. between (ea j) (el j) ts ns facts area room in
        (g.0 ∙ ap forward_of e ∙ sym (routed_of b sound r c), g.1 ∙ ap (λ (f : Forwarding). output_of f out) e ∙ sym (output_of_lem b sound r c out))
