-- Datagrams without an option 134: equal kept options, equal decisions.
use mathlib.Core.Path.{◌≡◌, sym, ◌∙◌, ap}
use mathlib.Core.Bool.{Bool, not}
use mathlib.Core.List.{List, [], ◌∷◌}
use mathlib.Core.Option.{Option, none}
use Prim.Native.Nat.{ℕ, ◌+◌}
use lib.ListN.{length}
use Rattle.label.specs.Label.{in_range}
use Rattle.option_form.specs.Spelled.{length_of}
use Rattle.std.specs.Prelude.{Ok, None}
use Rattle.area.specs.Kinds.{Place, places}
use Rattle.area_leaving.proofs.Again.{basic_from}
use Rattle.area_leaving.specs.Kept.{kept_of, round_up}
use Rattle.port.specs.declared.Port.{Port}
use Rattle.port.specs.declared.Host.{Host}
use Rattle.decision.specs.declared.Decision.{Decision}
use Rattle.decision.specs.declared.Refusal.{Refusal}
use Rattle.decision.specs.Decision.{silenced, decided}
use Rattle.arrive.specs.Checks.{barred, when, first_of, walk_at, walk_check, required_by, required_check, option_check, bad_basic_check, arriving_basic, missing_basic_by, missing_basic_check, basic_passes, basic_range_check, arriving_label, range_check}
use Rattle.deliver.specs.Delivery.{Delivery, delivery_sizes, delivery_records, host_check, deliver_of}
use Rattle.forward_rules.specs.Crossing.{Forwarding, Crossing, sizes, records, leaving_basic_check, crossing, number_check, leaving_check, spelling_check, leaving_label, leaving_option}
use Rattle.forward_rules.specs.Forward.{forward_of}
use Rattle.demands.specs.Guards.{Unlabelled, UnlabelledDelivered, leaving_area}
use Rattle.demands.proofs.Basic.{basic_kept}
use Rattle.demands.proofs.Second.{same_some}
use Rattle.demands.proofs.Again.{p, laid, area_is}

-- what an area without an option 134 leaves of checks 3 to 14
module _ (port : Port) (area : List ℕ) (u : (b : Place) × (walk_at port area ≡ Ok (places None b))) where
  w : walk_at port area ≡ Ok (places None u.0)
  w = u.1

  no_walk : walk_check port area ≡ none
  unfolding walk_check
  no_walk = rw w

  no_label : required_check port area ≡ required_by None port
  unfolding required_check
  no_label = rw w

  no_option : option_check port area ≡ none
  unfolding option_check
  no_option = rw w

  given : arriving_label port area ≡ port.assigned
  unfolding arriving_label
  given = rw w

  held : (code : ℕ) → range_check port area code ≡ when (not (in_range port.lowest port.highest port.assigned)) (barred 14 code)
  unfolding range_check
  held code = rw given

-- a forwarding, by its records and kept options
abbrev bare_crossing : Forwarding → Crossing
bare_crossing f = record { label = f.arriving.assigned; domain = f.arriving.domain; leaving = f.leaving; table = f.table; levels = f.levels }

abbrev bare_checks : Port → Port → Option (List ℕ) → Option Refusal → Crossing → List ℕ → List (Option Refusal)
bare_checks p q o r x kept =
    none
    ∷ r
    ∷ none
    ∷ required_by None p
    ∷ none
    ∷ none
    ∷ missing_basic_by o p.basic.on
    ∷ when (not (basic_passes p.basic.on p.basic.receiving o)) (barred 21 9)
    ∷ when (not (basic_passes q.basic.on q.basic.sending o)) (barred 21 9)
    ∷ when (not (in_range p.lowest p.highest p.assigned)) (barred 14 9)
    ∷ number_check x
    ∷ leaving_check x
    ∷ spelling_check x kept
    ∷ []

abbrev bare_decision : Bool → Port → Port → Option (List ℕ) → Option Refusal → Crossing → List ℕ → Decision
bare_decision quiet p q o r x kept = decided quiet (first_of (bare_checks p q o r x kept)) (leaving_label x) (round_up (length_of (leaving_option x) + length kept))

-- kept options alike have the option 130 alike
bare_basic : (p q : Port) (a b : List ℕ) → (x : Place) × (walk_at p a ≡ Ok (places None x)) → (x : Place) × (walk_at q b ≡ Ok (places None x)) → kept_of a ≡ kept_of b
    → arriving_basic p a ≡ arriving_basic q b
bare_basic p q a b x y k = basic_kept p a None x.0 x.1 ∙ ap (λ (ks : List ℕ). basic_from ks 0) k ∙ sym (basic_kept q b None y.0 y.1)

module _ (f : Forwarding) (s : sizes f ≡ none) (w : (b : Place) × (walk_at f.arriving f.area ≡ Ok (places None b))) (good : bad_basic_check f.arriving f.area ≡ none) where
  crossing_is : crossing f ≡ bare_crossing f
  crossing_is i = record { label = given f.arriving f.area w i; domain = f.arriving.domain; leaving = f.leaving; table = f.table; levels = f.levels }

  bare_is : forward_of f ≡ bare_decision (silenced f.facts) f.arriving f.leaving (arriving_basic f.arriving f.area) (records f) (bare_crossing f) (kept_of f.area)
  unfolding forward_of missing_basic_check basic_range_check leaving_basic_check
  bare_is i =
      decided (silenced f.facts)
      (first_of
      (s i
      ∷ records f
      ∷ no_walk f.arriving f.area w i
      ∷ no_label f.arriving f.area w i
      ∷ no_option f.arriving f.area w i
      ∷ good i
      ∷ missing_basic_check f.arriving f.area
      ∷ basic_range_check f.arriving f.area 9
      ∷ leaving_basic_check f
      ∷ held f.arriving f.area w 9 i
      ∷ number_check (crossing_is i)
      ∷ leaving_check (crossing_is i)
      ∷ spelling_check (crossing_is i) (kept_of f.area)
      ∷ []))
      (leaving_label (crossing_is i))
      (round_up (length_of (leaving_option (crossing_is i)) + length (kept_of f.area)))

module _ (f g : Forwarding) (u : Unlabelled f g) where
  records_alike : records f ≡ records g
  unfolding records
  records_alike = rw (u.arriving, u.leaving, u.table, u.levels)

  bare_alike : bare_crossing f ≡ bare_crossing g
  bare_alike i = record { label = (u.arriving i).assigned; domain = (u.arriving i).domain; leaving = u.leaving i; table = u.table i; levels = u.levels i }

  pub unlabelled_decided : forward_of f ≡ forward_of g
  unlabelled_decided =
      let o = bare_basic f.arriving g.arriving f.area g.area u.first u.second u.kept in
      bare_is f u.sized.0 u.first u.good.0
      ∙ (λ i. bare_decision (silenced (u.facts i)) (u.arriving i) (u.leaving i) (o i) (records_alike i) (bare_alike i) (u.kept i))
      ∙ sym (bare_is g u.sized.1 u.second u.good.1)

  pub unlabelled_written : (out out' : List ℕ) → (forward_of f).number ≡ 0 → leaving_area f out ≡ leaving_area g out'
  unlabelled_written out out' e =
      let e' : (forward_of g).number ≡ 0 = ap (λ (d : Decision). d.number) (sym unlabelled_decided) ∙ e in
      let x : crossing f ≡ crossing g = crossing_is f u.sized.0 u.first u.good.0 ∙ bare_alike ∙ sym (crossing_is g u.sized.1 u.second u.good.1) in
      let t : (p f e).fits.octets ≡ (p g e').fits.octets = same_some (sym (p f e).fits.spelled ∙ ap leaving_option x ∙ (p g e').fits.spelled) in
      area_is f e out ∙ (λ i. laid (t i) (u.kept i)) ∙ sym (area_is g e' out')

-- a delivery, by its records
abbrev bare_delivery : Bool → Port → Host → Option (List ℕ) → Option Refusal → Decision
bare_delivery quiet p h o r =
    decided quiet
    (first_of
    (none
    ∷ r
    ∷ none
    ∷ required_by None p
    ∷ none
    ∷ none
    ∷ missing_basic_by o p.basic.on
    ∷ when (not (basic_passes p.basic.on p.basic.receiving o)) (barred 21 10)
    ∷ when (not (in_range p.lowest p.highest p.assigned)) (barred 14 10)
    ∷ when (not (in_range h.lowest h.highest p.assigned)) (barred 15 10)
    ∷ []))
    p.assigned 0

delivery_is : (d : Delivery) → delivery_sizes d ≡ none → (b : Place) × (walk_at d.port d.area ≡ Ok (places None b)) → bad_basic_check d.port d.area ≡ none
    → deliver_of d ≡ bare_delivery (silenced d.facts) d.port d.host (arriving_basic d.port d.area) (delivery_records d)
unfolding deliver_of missing_basic_check basic_range_check host_check
delivery_is d s w good i =
    decided (silenced d.facts)
    (first_of
    (s i
    ∷ delivery_records d
    ∷ no_walk d.port d.area w i
    ∷ no_label d.port d.area w i
    ∷ no_option d.port d.area w i
    ∷ good i
    ∷ missing_basic_check d.port d.area
    ∷ basic_range_check d.port d.area 10
    ∷ held d.port d.area w 10 i
    ∷ when (not (in_range d.host.lowest d.host.highest (given d.port d.area w i))) (barred 15 10)
    ∷ []))
    (given d.port d.area w i) 0

pub unlabelled_delivered : (d e : Delivery) → UnlabelledDelivered d e → deliver_of d ≡ deliver_of e
unfolding delivery_records
unlabelled_delivered d e u =
    let r : delivery_records d ≡ delivery_records e = rw (u.port, u.host) in
    let o = bare_basic d.port e.port d.area e.area u.first u.second u.kept in
    delivery_is d u.sized.0 u.first u.good.0
    ∙ (λ i. bare_delivery (silenced (u.facts i)) (u.port i) (u.host i) (o i) (r i))
    ∙ sym (delivery_is e u.sized.1 u.second u.good.1)
