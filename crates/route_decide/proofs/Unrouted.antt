-- Without a route: what was found on arrival, with 1 of the output before it and 22 behind it, is the first of the checks.
use mathlib.Core.Path.{◌≡◌, refl, sym, ◌∙◌, ap}
use mathlib.Core.Bool.{Bool, true, false, cond, not, ◌||◌}
use mathlib.Core.List.{List, [], ◌∷◌, ◌++◌}
use mathlib.Core.Option.{Option, none, some}
use Prim.Native.Nat.{ℕ}
use native.Mathlib.Omega.{arith}
use lib.Dec.{ltb}
use lib.ListN.{length}
use borrow.Author.Tests.{ne_eqb}
use Rattle.std.specs.Prelude.{Err, is_ok}
use Rattle.label.specs.Label.{zero_label}
use Rattle.port.specs.declared.Port.{Port}
use Rattle.port.specs.Port.{port_sound}
use Rattle.decision.specs.declared.Facts.{Facts}
use Rattle.decision.specs.declared.Decision.{Decision}
use Rattle.decision.specs.declared.Refusal.{Refusal}
use Rattle.decision.specs.Decision.{silenced, refused, decided}
use Rattle.area.specs.Area.{bad_area}
use Rattle.arrive.specs.Checks.{silent, when, first_of, arriving_label, arrival_checks}
use Rattle.decision.specs.Verdict.{Verdict, verdict_of, stopped, stopped_by, concluded}
use Rattle.arrive.specs.Verdict.{arrival_of, Arrives}
use Rattle.arrive.proofs.First.{or_else, first_append, Late}
use Rattle.arrive.proofs.Arrival.{arrival_late}
use Rattle.decision.proofs.Concluded.{concluded_refused}
use Rattle.route_decide.specs.Routing.{no_route}
use Rattle.route_decide.specs.Stages.{unrouted_checks, unrouted_of, unrouted_by}

-- what arriving answered, by whether the output is small
abbrev by_small : Bool → Verdict → Verdict
by_small small r = cond (stopped_by 1 r) r (cond small (stopped 1 0 0 0) (cond (is_ok r) (stopped 22 3 0 0) r))

-- over what the checks say: of the area, of the output, of the port, and the first from 3 on
module _ (v n : ℕ) (quiet : Bool) (keys : List ℕ) where
  abbrev Said : Bool → Bool → Bool → Option Refusal → Type 0
  Said bad small sound o =
      concluded (by_small small (verdict_of (first_of (when bad (silent 1) ∷ when (not sound) (silent 2) ∷ o ∷ [])) v n)) 0 quiet 0 keys
      ≡ decided quiet (first_of (when (bad || small) (silent 1) ∷ when (not sound) (silent 2) ∷ or_else o (some no_route) ∷ [])) zero_label 0

  by_refusal : (x : Refusal) → concluded (Err x) 0 quiet 0 keys ≡ refused quiet x
  by_refusal x = concluded_refused x 0 0 0 0 quiet keys

  said : (bad small sound : Bool) (o : Option Refusal) → Late o → Said bad small sound o
  said true small sound o h = by_refusal (silent 1)
  said false true false o h = by_refusal (silent 1)
  said false false false o h = by_refusal (silent 2)
  said false true true none h = by_refusal (silent 1)
  said false false true none h = by_refusal no_route
  said false true true (some x) h = rw (ne_eqb x.number 1 (λ z. omega arith)) (by_refusal (silent 1))
  said false false true (some x) h = rw (ne_eqb x.number 1 (λ z. omega arith)) (by_refusal x)

-- a list behind two checks is its first
gathered : (x y : Option Refusal) (xs : List (Option Refusal)) → first_of (x ∷ y ∷ xs) ≡ first_of (x ∷ y ∷ first_of xs ∷ [])
gathered (some r) y xs = refl
gathered none (some r) xs = refl
gathered none none xs = go (first_of xs)
  where
    go : (o : Option Refusal) → o ≡ first_of (o ∷ [])
    go none = refl
    go (some r) = refl

-- the checks of the port, with room enough for its keys
by_arrival : (a : Port) (area : List ℕ) (m : ℕ) (r : Verdict) → r ≡ arrival_of a area 9 m → m ≡ 120
    → r ≡ verdict_of (first_of (when (bad_area area) (silent 1) ∷ when (not (port_sound a)) (silent 2) ∷ first_of (arrival_checks a area 9) ∷ [])) (arriving_label a area).level (arriving_label a area).count
unfolding arrival_of
by_arrival a area m r e long =
    e
    ∙ ap (λ (o : Option Refusal). verdict_of o (arriving_label a area).level (arriving_label a area).count)
    (ap (λ (k : ℕ). first_of (when (bad_area area || ltb k 120) (silent 1) ∷ when (not (port_sound a)) (silent 2) ∷ arrival_checks a area 9)) long
    ∙ ap (λ (b : Bool). first_of (when b (silent 1) ∷ when (not (port_sound a)) (silent 2) ∷ arrival_checks a area 9)) (or_false (bad_area area))
    ∙ gathered (when (bad_area area) (silent 1)) (when (not (port_sound a)) (silent 2)) (arrival_checks a area 9))
  where
    or_false : (b : Bool) → (b || false) ≡ b
    or_false true = refl
    or_false false = refl

first_unrouted : (a : Port) (area : List ℕ) (room : ℕ)
    → first_of (when (bad_area area || ltb room 40) (silent 1) ∷ when (not (port_sound a)) (silent 2) ∷ or_else (first_of (arrival_checks a area 9)) (some no_route) ∷ []) ≡ first_of (unrouted_checks a area room)
first_unrouted a area room =
    ap (λ (o : Option Refusal). first_of (when (bad_area area || ltb room 40) (silent 1) ∷ when (not (port_sound a)) (silent 2) ∷ o ∷ [])) (sym (first_append (arrival_checks a area 9) (some no_route ∷ [])))
    ∙ sym (gathered (when (bad_area area || ltb room 40) (silent 1)) (when (not (port_sound a)) (silent 2)) (arrival_checks a area 9 ++ (some no_route ∷ [])))

pub concludes : (a : Port) (facts : Facts) (area : List ℕ) (room : ℕ) {keys keys' : List ℕ} {r s : Verdict} {d : Decision} → Arrives a area 9 keys keys' r
    → s ≡ unrouted_by r room → d ≡ concluded s 0 (silenced facts) 0 keys' → length keys ≡ 120 → d ≡ unrouted_of a facts area room
unfolding unrouted_by unrouted_of
concludes a facts area room {keys} {keys'} {r} {s} {d} arrives es ed long =
    ed
    ∙ ap (λ (x : Verdict). concluded x 0 (silenced facts) 0 keys') es
    ∙ ap (λ (x : Verdict). concluded (unrouted_by x room) 0 (silenced facts) 0 keys') (by_arrival a area (length keys) r arrives.answer long)
    ∙ said (arriving_label a area).level (arriving_label a area).count (silenced facts) keys' (bad_area area) (ltb room 40) (port_sound a) (first_of (arrival_checks a area 9)) (arrival_late a area 9)
    ∙ ap (λ (o : Option Refusal). decided (silenced facts) o zero_label 0) (first_unrouted a area room)
