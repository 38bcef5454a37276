-- Forwarded only with a sound set and a route that matches.
use mathlib.Core.Path.{◌≡◌, refl, sym, ◌∙◌, ap}
use mathlib.Core.Bool.{Bool, true, false, ◌||◌}
use mathlib.Core.List.{List, [], ◌∷◌, ◌++◌}
use mathlib.Core.Option.{Option, none, some}
use Prim.Native.Nat.{ℕ}
use native.Mathlib.Omega.{arith}
use lib.Dec.{ltb}
use Rattle.label.specs.declared.Label.{Label}
use Rattle.label.specs.Label.{zero_label}
use Rattle.decision.specs.declared.Decision.{Decision}
use Rattle.decision.specs.declared.Refusal.{Refusal}
use Rattle.decision.specs.Decision.{silenced, decided}
use Rattle.area.specs.Area.{bad_area}
use Rattle.arrive.specs.Checks.{silent, when, first_of, arrival_checks}
use Rattle.arrive.proofs.First.{or_else, Real, first_append}
use Rattle.arrive.proofs.Arrival.{arrival_real}
use Rattle.forward_rules.specs.Crossing.{sizes}
use Rattle.forward_rules.specs.Forward.{forward_of}
use Rattle.route.specs.declared.Route.{Route}
use Rattle.route.specs.Route.{Chosen}
use Rattle.std.specs.Prelude.{None, Some}
use Rattle.route_decide.specs.Routing.{Routing, box_sound, chosen, arriving_port, pair_by, chosen_pair, no_route, routing_of}
use Rattle.route_decide.proofs.Decides.{routed_of, unrouted_of_lem, unsound_of}

-- a sound set, a route chosen, and the two-port decision for its pair forwards
pub record Passing (b : Routing) : Type 0 where
  pub route : Route
  pub sound : box_sound b ≡ true
  pub matched : chosen b ≡ Some route
  pub forwarded : (forward_of (pair_by b route)).number ≡ 0

-- where a check applies, and its number is not 0, the decision's number is not 0
stops : (quiet : Bool) (x : Refusal) (o : Option Refusal) (xs : List (Option Refusal)) (l : Label) (n : ℕ) → Real o → (x.number ≡ 0 → ⊥) → Real (first_of xs)
    → (decided quiet (first_of (o ∷ (xs ++ (some x ∷ [])))) l n).number ≡ 0 → ⊥
stops quiet x (some y) xs l n r h q e = r e
stops quiet x none xs l n r h q e = go (first_of xs) q (ap (λ (p : Option Refusal). (decided quiet p l n).number) (sym (first_append xs (some x ∷ []))) ∙ e)
  where
    go : (p : Option Refusal) → Real p → (decided quiet (or_else p (some x)) l n).number ≡ 0 → ⊥
    go none q e = h e
    go (some y) q e = q e

sizes_real : (b : Routing) → Real (sizes (chosen_pair b))
unfolding sizes
sizes_real b = go (bad_area b.area || ltb b.room 40)
  where
    go : (t : Bool) → Real (when t (silent 1))
    go true = λ z. omega arith
    go false = tt

pub passes_of : (b : Routing) → (routing_of b).number ≡ 0 → Passing b
passes_of b z = by_set (box_sound b) refl
  where
    number : {d e : Decision} → d ≡ e → d.number ≡ 0 → e.number ≡ 0
    number p h = sym (ap (λ (d : Decision). d.number) p) ∙ h

    by_route : box_sound b ≡ true → (c : Chosen) → chosen b ≡ c → Passing b
    by_route e None c =
        absurd (stops (silenced b.facts) no_route (sizes (chosen_pair b)) (arrival_checks (arriving_port b) b.area 9) zero_label 0 (sizes_real b) (λ h. omega arith) (arrival_real (arriving_port b) b.area 9)
        (number (unrouted_of_lem b e c) z))
    by_route e (Some r) c = record { route = r; sound = e; matched = c; forwarded = number (routed_of b e r c) z }

    by_set : (t : Bool) → box_sound b ≡ t → Passing b
    by_set true e = by_route e (chosen b) refl
    by_set false e = absurd (stops (silenced b.facts) (silent 2) (sizes (chosen_pair b)) [] zero_label 0 (sizes_real b) (λ h. omega arith) tt (number (unsound_of b e) z))
