-- Of a box too, the number given is the first of the order whose line applies.
use mathlib.Core.Path.{◌≡◌, refl, sym, ◌∙◌, ap, subst}
use mathlib.Core.Bool.{not, ◌&&◌, ◌||◌}
use mathlib.Core.List.{List, [], ◌∷◌}
use mathlib.Core.Option.{Option}
use lib.Dec.{ltb}
use Rattle.area.specs.Area.{bad_area}
use Rattle.area_leaving.specs.Kept.{kept_of}
use Rattle.decision.specs.declared.Refusal.{Refusal}
use Rattle.decision.specs.Decision.{silenced}
use Rattle.arrive.specs.Checks.{barred, when, first_of, walk_check, required_check, option_check, bad_basic_check, missing_basic_check, basic_range_check, range_check, arriving_basic, basic_passes}
use Rattle.arrive.proofs.First.{first_append}
use Rattle.forward_rules.specs.Crossing.{Forwarding, sizes, leaving_basic_check, number_check, leaving_check, spelling_check, crossing}
use Rattle.route.specs.Route.{Chosen}
use Rattle.std.specs.Prelude.{None, Some}
use Rattle.route_decide.specs.Routing.{Routing, box_sound, chosen, is_unrouted, arriving_port, chosen_pair, set_check, leaving_basic_by, route_check, routing_checks, routing_of}
use Rattle.demands.specs.Rules.{Rule, rule, arriving_basic_rule, range_rule, crossing_rules}
use Rattle.demands.proofs.Rules.{checks, all_rules, Found, found, follows}
use Rattle.demands_routed.specs.Rules.{leaving_rule, routed_tests, RoutedOrder}

leaving_by : (c : Chosen) (f : Forwarding) → when (not (is_unrouted c) && not (basic_passes f.leaving.basic.on f.leaving.basic.sending (arriving_basic f.arriving f.area))) (barred 21 9) ≡ leaving_basic_by c f
unfolding leaving_basic_check
leaving_by None f = refl
leaving_by (Some r) f = refl

routed_rules : (b : Routing) → first_of (checks (routed_tests b)) ≡ first_of (routing_checks b)
unfolding sizes set_check basic_range_check range_check route_check number_check leaving_check spelling_check
routed_rules b =
    let p = arriving_port b in
    let f = chosen_pair b in
    let rest : List Rule = arriving_basic_rule p b.area 9 ∷ leaving_rule b ∷ range_rule p b.area 9 ∷ rule 22 (is_unrouted (chosen b)) 3 0 0 ∷ crossing_rules f in
    let ds : List (Option Refusal) =
    basic_range_check p b.area 9 ∷ leaving_basic_by (chosen b) f ∷ range_check p b.area 9 ∷ route_check b ∷ number_check (crossing f) ∷ leaving_check (crossing f) ∷ spelling_check (crossing f) (kept_of b.area) ∷ [] in
    let same : first_of (checks rest) ≡ first_of ds =
    ap (λ (x : Option Refusal). first_of (basic_range_check p b.area 9 ∷ x ∷ range_check p b.area 9 ∷ route_check b ∷ number_check (crossing f) ∷ leaving_check (crossing f) ∷ spelling_check (crossing f) (kept_of b.area) ∷ [])) (leaving_by (chosen b) f) in
    all_rules (rule 1 (bad_area b.area || ltb b.room 40) 0 0 0 ∷ rule 2 (not (box_sound b)) 0 0 0 ∷ []) b.area p rest ds same
    ∙ sym (first_append (sizes f ∷ set_check b ∷ []) (walk_check p b.area ∷ required_check p b.area ∷ option_check p b.area ∷ bad_basic_check p b.area ∷ missing_basic_check p b.area ∷ ds))

pub routed_order : RoutedOrder
unfolding routing_of
routed_order b = follows (routed_tests b) (silenced b.facts) (first_of (routing_checks b)) _ _ (subst (Found (routed_tests b)) (routed_rules b) (found (routed_tests b)))
