-- The statements of `specs/Demands.antt`, from those of the two-port decision.
use mathlib.Core.Path.{◌≡◌, refl, sym, ◌∙◌, ap}
use mathlib.Core.Bool.{true, false, not}
use mathlib.Core.List.{List, [], ◌∷◌, ◌++◌}
use mathlib.Core.Option.{Option, none, some}
use Prim.Native.Nat.{ℕ, ◌≤◌}
use lib.ListN.{length, take}
use Rattle.label.specs.declared.Label.{Label}
use Rattle.label.specs.Label.{in_range, zero_label}
use Rattle.port.specs.declared.Port.{Port}
use Rattle.decision.specs.declared.Decision.{Decision}
use Rattle.decision.specs.declared.Refusal.{Refusal}
use Rattle.decision.specs.Decision.{silenced, refused, decided}
use Rattle.arrive.specs.Checks.{barred, when, first_of, NoneApplies, bad_basic_check, arriving_basic, missing_basic_by, missing_basic_check, basic_passes, basic_range_check, range_check, arrival_checks}
use Rattle.arrive.proofs.First.{or_else, first_append, none_first}
use Rattle.forward_rules.specs.Crossing.{sizes}
use Rattle.route.specs.declared.Route.{Route}
use Rattle.route.specs.Route.{Chosen}
use Rattle.std.specs.Prelude.{None, Some}
use Rattle.route.specs.Route.{routes_of, matches, longest}
use Rattle.route.specs.Theorems.{Listed, Decides}
use Rattle.route.proofs.Longest.{longest_match}
use Rattle.route_ports.specs.Ports.{port_at, domains_of}
use Rattle.table_choose.specs.Tables.{used_tables, tables_from}
use Rattle.table_choose.specs.Theorems.{NoneFor}
use Rattle.table_choose.proofs.Theorems.{first_table_lem}
use Rattle.label.proofs.Bools.{never}
use Rattle.table.specs.Renumbering.{LentTable, lent_of, levels_of}
use Rattle.route_decide.specs.Routing.{Routing, box_sound, chosen, arriving_port, pair_by, chosen_pair, table_between, no_route, routing_checks, routing_of, routed_output}
use Rattle.route_decide.proofs.Decides.{routes_of_lem, records_none, routed_of, output_of_lem, unrouted_of_lem}
use Rattle.demands_routed.proofs.Passing.{passes_of}
use Rattle.demands.specs.Demands.{own, MeansAt, Alike}
use Rattle.demands.specs.Crosses.{before_numbers}
use Rattle.demands.proofs.First.{first_is}
use Rattle.demands.proofs.Crosses.{crosses}
use Rattle.demands.proofs.Second.{label_reads, demand2}
use Rattle.demands.proofs.Third.{basic_alike, demand3}
use Rattle.demands_routed.specs.Demands.{RoutedAlike, BoxDemands}

number_of : {d e : Decision} → d ≡ e → d.number ≡ 0 → e.number ≡ 0
number_of p h = sym (ap (λ (d : Decision). d.number) p) ∙ h

-- the arriving port's checks once the label is read: a function of the port, the option 130 and the label
abbrev reach_of : Port → Option (List ℕ) → Label → Option Refusal
reach_of p o l =
    first_of
    (missing_basic_by o p.basic.on
    ∷ when (not (basic_passes p.basic.on p.basic.receiving o)) (barred 21 9)
    ∷ when (not (in_range p.lowest p.highest l)) (barred 14 9)
    ∷ [])

reach_is : (p : Port) (area : List ℕ) (l : Label) → MeansAt p area l → bad_basic_check p area ≡ none → l.domain ≡ p.domain
    → first_of (arrival_checks p area 9) ≡ reach_of p (arriving_basic p area) l
unfolding missing_basic_check basic_range_check range_check
reach_is p area l o good d =
    let q = label_reads p area l (own o.0 o.1 o.2 o.3 d o.4) in
    rw (q.walk, q.required, q.option, good) (ap (λ (z : Label). reach_of p (arriving_basic p area) z) q.label)

-- without a route: 22 after the arriving port's checks
unrouted_is : (b : Routing) (l : Label) → sizes (chosen_pair b) ≡ none → box_sound b ≡ true → chosen b ≡ None
    → MeansAt (arriving_port b) b.area l → bad_basic_check (arriving_port b) b.area ≡ none → l.domain ≡ (arriving_port b).domain
    → routing_of b ≡ decided (silenced b.facts) (or_else (reach_of (arriving_port b) (arriving_basic (arriving_port b) b.area) l) (some no_route)) zero_label 0
unrouted_is b l s e c o good d =
    let checks : List (Option Refusal) = arrival_checks (arriving_port b) b.area 9 in
    let z : first_of (checks ++ (some no_route ∷ [])) ≡ or_else (reach_of (arriving_port b) (arriving_basic (arriving_port b) b.area) l) (some no_route) =
    first_append checks (some no_route ∷ []) ∙ ap (λ (x : Option Refusal). or_else x (some no_route)) (reach_is (arriving_port b) b.area l o good d) in
    unrouted_of_lem b e c
    ∙ ap (λ (x : Option Refusal). decided (silenced b.facts) (first_of (x ∷ (checks ++ (some no_route ∷ [])))) zero_label 0) s
    ∙ ap (λ (x : Option Refusal). decided (silenced b.facts) x zero_label 0) z

module _ (b c : Routing) (l : Label) (a : RoutedAlike b c l) where
  port_alike : arriving_port b ≡ arriving_port c
  port_alike = λ i. port_at (a.ports i) (a.arriving i)

  domain_c : l.domain ≡ (arriving_port c).domain
  domain_c = a.domain ∙ ap (λ (p : Port). p.domain) port_alike

  chosen_alike : chosen b ≡ chosen c
  unfolding chosen
  chosen_alike = λ i. chosen (record { ports = a.ports i; tables = a.tables i; rows = a.rows i; routes = a.routes i; arriving = a.arriving i; destination = a.destination i; facts = a.facts i; area = b.area; room = b.room })

  pair_sized : (d : Routing) (r : Route) → sizes (chosen_pair d) ≡ none → sizes (pair_by d r) ≡ none
  unfolding sizes
  pair_sized d r e = e

  pair_alike : (r : Route) → chosen b ≡ Some r → Alike (pair_by b r) (pair_by c r) l
  pair_alike r m =
      record {
        arriving = port_alike;
        leaving = λ i. port_at (a.ports i) r.port;
        table = λ i. lent_of (table_between (a.tables i) (a.rows i) (port_alike i) (port_at (a.ports i) r.port));
        levels = λ i. levels_of (table_between (a.tables i) (a.rows i) (port_alike i) (port_at (a.ports i) r.port)).item;
        facts = a.facts;
        kept = a.kept;
        sized = (pair_sized b r a.sized.0, pair_sized c r a.sized.1);
        sound = (records_none b a.sound.0 r m, records_none c a.sound.1 r (sym chosen_alike ∙ m));
        first = a.first;
        second = a.second;
        good = a.good;
        domain = a.domain;
      }

  decided_by : (x : Chosen) → chosen b ≡ x → routing_of b ≡ routing_of c
  decided_by (Some r) m =
      routed_of b a.sound.0 r m ∙ demand3.decided (pair_by b r) (pair_by c r) l (pair_alike r m) ∙ sym (routed_of c a.sound.1 r (sym chosen_alike ∙ m))
  decided_by None m =
      let o = basic_alike (arriving_port b) (arriving_port c) b.area c.area l l a.first a.second a.kept in
      unrouted_is b l a.sized.0 a.sound.0 m a.first a.good.0 a.domain
      ∙ (λ i. decided (silenced (a.facts i)) (or_else (reach_of (port_alike i) (o i) l) (some no_route)) zero_label 0)
      ∙ sym (unrouted_is c l a.sized.1 a.sound.1 (sym chosen_alike ∙ m) a.second a.good.1 domain_c)

  written_by : (out out' : List ℕ) → 40 ≤ length out → 40 ≤ length out' → (routing_of b).number ≡ 0 → take 40 (routed_output b out) ≡ take 40 (routed_output c out')
  written_by out out' h h' z =
      let p = passes_of b z in
      ap (take 40) (output_of_lem b p.sound p.route p.matched out)
      ∙ demand3.written (pair_by b p.route) (pair_by c p.route) l out out' (pair_alike p.route p.matched) h h' p.forwarded
      ∙ sym (ap (take 40) (output_of_lem c a.sound.1 p.route (sym chosen_alike ∙ p.matched) out'))

-- of a sound set, the route that decides is the one chosen
module _ (b : Routing) (e : box_sound b ≡ true) where
  decides_chosen : (r : Route) → Decides b.destination (routes_of b.routes) r → chosen b ≡ Some r
  unfolding chosen
  decides_chosen r d = go (longest b.destination (routes_of b.routes)) refl
    where
      go : (c : Chosen) → longest b.destination (routes_of b.routes) ≡ c → longest b.destination (routes_of b.routes) ≡ Some r
      go None p = absurd (never (sym d.hits ∙ longest_match.unmatched b.destination (routes_of b.routes) p r d.listed))
      go (Some s) p =
          p
          ∙ ap Some (longest_match.only b.destination (domains_of b.ports) b.routes s r (routes_of_lem b e) (longest_match.chosen b.destination (routes_of b.routes) s p) d)

  chosen_decides : (r : Route) → chosen b ≡ Some r → Decides b.destination (routes_of b.routes) r
  unfolding chosen
  chosen_decides r c = longest_match.chosen b.destination (routes_of b.routes) r c

  unmatched_is : sizes (chosen_pair b) ≡ none → NoneApplies (arrival_checks (arriving_port b) b.area 9)
      → ((s : Route) → Listed s (routes_of b.routes) → matches s b.destination ≡ false)
      → routing_of b ≡ decided (silenced b.facts) (some no_route) zero_label 0
  unfolding chosen
  unmatched_is s n u =
      let checks : List (Option Refusal) = arrival_checks (arriving_port b) b.area 9 in
      unrouted_of_lem b e (longest_match.unchosen b.destination (routes_of b.routes) u)
      ∙ ap (λ (x : Option Refusal). decided (silenced b.facts) (first_of (x ∷ (checks ++ (some no_route ∷ [])))) zero_label 0) s
      ∙ ap (λ (x : Option Refusal). decided (silenced b.facts) x zero_label 0)
      (first_append checks (some no_route ∷ []) ∙ ap (λ (x : Option Refusal). or_else x (some no_route)) (none_first checks n))

  tableless_is : (r : Route) → Decides b.destination (routes_of b.routes) r
      → ((arriving_port b).domain ≡ (port_at b.ports r.port).domain → ⊥)
      → NoneFor (arriving_port b).domain (port_at b.ports r.port).domain (tables_from (used_tables b.tables) b.rows)
      → NoneApplies (before_numbers (pair_by b r))
      → (routing_of b).number ≡ 16
  tableless_is r d apart without n =
      let from : ℕ = (arriving_port b).domain in
      let t = first_table_lem.missing from (port_at b.ports r.port).domain (tables_from (used_tables b.tables) b.rows) without in
      ap (λ (z : Decision). z.number) (routed_of b e r (decides_chosen r d))
      ∙ (crosses.sixteen (pair_by b r) apart n).1 (λ v h. first_table_lem.other from (sym (ap (λ (z : LentTable). z.item.table.from) t) ∙ h.from))

refused_first : (b : Routing) (x : Refusal) (out : List ℕ) → first_of (routing_checks b) ≡ some x → (routing_of b ≡ refused (silenced b.facts) x) × (routed_output b out ≡ out)
unfolding routing_of routed_output
refused_first b x out e = (rw e, rw e)

pub box_demands : BoxDemands
box_demands =
    record {
      first = λ b x out h. refused_first b x out (first_is (routing_checks b) x h);
      unmatched = λ b e s n u. unmatched_is b e s n u;
      tableless = λ b r e d apart without n. tableless_is b e r d apart without n;
      only = λ b o z.
          let p = passes_of b z in
          let q = demand2.only (pair_by b p.route) o p.forwarded in
          (p.route, q.0, q.1, q.2, record { sound = p.sound; matched = chosen_decides b p.sound p.route p.matched; forwards = q.3 });
      always = λ b r l m s out f.
          let q = demand2.always (pair_by b r) l m s out f.forwards in
          let c = decides_chosen b f.sound r f.matched in
          (routed_of b f.sound r c ∙ q.0, output_of_lem b f.sound r c out ∙ q.1);
      decided = λ b c l a. decided_by b c l a (chosen b) refl;
      written = λ b c l out out' a h h' z. written_by b c l a out out' h h' z;
    }
