-- Laws of a delivery, return by return.
use mathlib.Core.Path.{◌≡◌, refl, sym, ◌∙◌, ap}
use mathlib.Core.Bool.{Bool, true, false, cond, ◌&&◌}
use mathlib.Core.List.{List, [], ◌∷◌}
use mathlib.Core.Option.{Option, none, some}
use Prim.Native.Nat.{ℕ, ◌≤◌}
use native.Mathlib.Omega.{arith}
use lib.ListN.{length, take}
use borrow.Author.Tests.{le-ltb, ne_eqb}
use Rattle.label.specs.declared.Label.{Label}
use Rattle.label.specs.Label.{used, in_range}
use Rattle.label_keys.specs.Keys.{key_runs, label_from}
use Rattle.port.specs.Port.{port_sound, host_sound}
use Rattle.port.proofs.Laws.{host_range}
use Rattle.decision.specs.declared.Refusal.{Refusal}
use Rattle.decision.specs.Decision.{silenced, refused, done}
use Rattle.area.specs.Area.{bad_area}
use Rattle.arrive.specs.Checks.{silent, barred, first_of, arriving_label, arrival_checks}
use Rattle.decision.specs.Verdict.{Verdict, passed_with, verdict_of, stopped, concluded}
use Rattle.arrive.specs.Verdict.{arrival_of, Arrives}
use Rattle.arrive.specs.Stages.{held_between}
use Rattle.deliver.specs.Delivery.{Delivery, delivery_sizes, delivery_records, host_check, deliver_checks, deliver_of}
use Rattle.deliver.specs.Stages.{hosted_by}
use Rattle.arrive.proofs.First.{or_else, first_append, Late}
use Rattle.arrive.proofs.Arrival.{arrival_held, arrival_late}
use Rattle.arrive.proofs.Verdicts.{held_in_range, label_from_lem}
use Rattle.decision.proofs.Concluded.{concluded_refused, concluded_done}

module _ (d : Delivery) where
  pub deliver_refused : (x : Refusal) → first_of (deliver_checks d) ≡ some x → refused (silenced d.facts) x ≡ deliver_of d
  unfolding deliver_of
  deliver_refused x e = rw e

  pub deliver_size : bad_area d.area ≡ true → first_of (deliver_checks d) ≡ some (silent 1)
  unfolding delivery_sizes
  deliver_size e = rw e

  module _ (sized : bad_area d.area ≡ false) where
    pub deliver_record : (port_sound d.port && host_sound d.host d.port.domain) ≡ false → first_of (deliver_checks d) ≡ some (silent 2)
    unfolding delivery_sizes delivery_records
    deliver_record e = rw (sized, e)

    module _ (p : port_sound d.port ≡ true) (h : host_sound d.host d.port.domain ≡ true) where
      past : first_of (deliver_checks d) ≡ or_else (first_of (arrival_checks d.port d.area 10)) (first_of (host_check d ∷ []))
      unfolding delivery_sizes delivery_records
      past = rw (sized, p, h) (first_append (arrival_checks d.port d.area 10) (host_check d ∷ []))

      pub deliver_arrival : (x : Refusal) → first_of (arrival_checks d.port d.area 10) ≡ some x → first_of (deliver_checks d) ≡ some x
      deliver_arrival x e = past ∙ rw e

      pub deliver_outside : first_of (arrival_checks d.port d.area 10) ≡ none
          → in_range d.host.lowest d.host.highest (arriving_label d.port d.area) ≡ false
          → first_of (deliver_checks d) ≡ some (barred 15 10)
      unfolding host_check
      deliver_outside e f = past ∙ rw (e, f)

      pub deliver_done : first_of (arrival_checks d.port d.area 10) ≡ none
          → in_range d.host.lowest d.host.highest (arriving_label d.port d.area) ≡ true
          → done (arriving_label d.port d.area) 0 ≡ deliver_of d
      unfolding host_check deliver_of
      deliver_done e f = (let q : first_of (deliver_checks d) ≡ none = past ∙ rw (e, f) in rw q)

-- The stages of a delivery decide as its checks do.
module _ (d : Delivery) (keys keys' : List ℕ) (a v : Verdict) (room : 120 ≤ length keys) (arrived : Arrives d.port d.area 10 keys keys' a)
    (hosted : v ≡ hosted_by a d.host d.port.domain keys') where
  abbrev label : Label
  label = arriving_label d.port d.area

  abbrev answer : Option Refusal → Verdict
  answer o = verdict_of o label.level label.count

  -- a refusal
  by_refusal : (o : Option Refusal) (x : Refusal) → a ≡ answer o → hosted_by (answer o) d.host d.port.domain keys' ≡ answer (some x)
      → first_of (deliver_checks d) ≡ some x → concluded v d.port.domain (silenced d.facts) 0 keys' ≡ deliver_of d
  by_refusal o x e f g =
      ap (λ (r : Verdict). concluded r d.port.domain (silenced d.facts) 0 keys') (hosted ∙ ap (λ (r : Verdict). hosted_by r d.host d.port.domain keys') e ∙ f)
      ∙ concluded_refused x label.level label.count d.port.domain 0 (silenced d.facts) keys'
      ∙ deliver_refused d x g

  size_is : bad_area d.area ≡ true → a ≡ answer (some (silent 1))
  unfolding arrival_of
  size_is e = arrived.answer ∙ rw e

  size_host : hosted_by (answer (some (silent 1))) d.host d.port.domain keys' ≡ answer (some (silent 1))
  unfolding hosted_by
  size_host = refl

  module _ (sized : bad_area d.area ≡ false) where
    record_is : port_sound d.port ≡ false → a ≡ answer (some (silent 2))
    unfolding arrival_of
    record_is p = arrived.answer ∙ rw (sized, le-ltb (length keys) 120 room, p)

    record_host : hosted_by (answer (some (silent 2))) d.host d.port.domain keys' ≡ answer (some (silent 2))
    unfolding hosted_by
    record_host = go (host_sound d.host d.port.domain)
      where
        go : (b : Bool) → ◌≡◌ {A = Verdict} (cond b (answer (some (silent 2))) (stopped 2 0 0 0)) (answer (some (silent 2)))
        go true = refl
        go false = refl

    module _ (p : port_sound d.port ≡ true) where
      past_is : a ≡ answer (first_of (arrival_checks d.port d.area 10))
      unfolding arrival_of
      past_is = arrived.answer ∙ rw (sized, le-ltb (length keys) 120 room, p)

      -- the host is unsound: 2 comes before 3 to 14
      unsound_host : (o : Option Refusal) → Late o → host_sound d.host d.port.domain ≡ false → hosted_by (answer o) d.host d.port.domain keys' ≡ answer (some (silent 2))
      unfolding hosted_by
      unsound_host none t h = rw h
      unsound_host (some x) t h = rw (ne_eqb x.number 1 (λ z. omega arith), h)

      module _ (h : host_sound d.host d.port.domain ≡ true) where
        stopped_host : (x : Refusal) → 3 ≤ x.number → hosted_by (answer (some x)) d.host d.port.domain keys' ≡ answer (some x)
        unfolding hosted_by
        stopped_host x t = rw (ne_eqb x.number 1 (λ z. omega arith), h)

        module _ (e : first_of (arrival_checks d.port d.area 10) ≡ none) where
          none_is : a ≡ answer none
          none_is = past_is ∙ ap answer e

          stand : key_runs (take label.count keys') ≡ used label
          stand = rw none_is at arrived.stands

          held_is : held_between d.host.lowest d.host.highest (passed_with label.level label.count) keys' ≡ in_range d.host.lowest d.host.highest label
          held_is =
              let f = arrival_held d.port d.area 10 p e in
              let g = host_range d.host d.port.domain h in
              held_in_range d.host.lowest d.host.highest label (passed_with label.level label.count) keys' g.low_formed g.high_formed f.formed
              (g.low_domain ∙ sym f.domain) (f.domain ∙ sym g.high_domain) refl stand

          ranged_host : (b : Bool) → in_range d.host.lowest d.host.highest label ≡ b
              → hosted_by (answer none) d.host d.port.domain keys' ≡ cond b (answer none) (answer (some (barred 15 10)))
          unfolding hosted_by
          ranged_host true q = rw (h, held_is ∙ q)
          ranged_host false q = rw (h, held_is ∙ q)

          by_range : (b : Bool) → in_range d.host.lowest d.host.highest label ≡ b → concluded v d.port.domain (silenced d.facts) 0 keys' ≡ deliver_of d
          by_range false q = by_refusal none (barred 15 10) none_is (ranged_host false q) (deliver_outside d sized p h e q)
          by_range true q =
              let f = arrival_held d.port d.area 10 p e in
              let l : label_from d.port.domain label.level (key_runs (take label.count keys')) ≡ label =
              ap (λ (n : ℕ). label_from n label.level (key_runs (take label.count keys'))) (sym f.domain) ∙ label_from_lem label _ f.formed stand in
              ap (λ (r : Verdict). concluded r d.port.domain (silenced d.facts) 0 keys') (hosted ∙ ap (λ (r : Verdict). hosted_by r d.host d.port.domain keys') none_is ∙ ranged_host true q)
              ∙ concluded_done label.level label.count d.port.domain 0 (silenced d.facts) keys'
              ∙ ap (λ (x : Label). done x 0) l
              ∙ deliver_done d sized p h e q

        by_arrival : (o : Option Refusal) → first_of (arrival_checks d.port d.area 10) ≡ o → Late o → concluded v d.port.domain (silenced d.facts) 0 keys' ≡ deliver_of d
        by_arrival none e t = by_range e (in_range d.host.lowest d.host.highest label) refl
        by_arrival (some x) e t = by_refusal (some x) x (past_is ∙ ap answer e) (stopped_host x t) (deliver_arrival d sized p h x e)

      by_host : (b : Bool) → host_sound d.host d.port.domain ≡ b → concluded v d.port.domain (silenced d.facts) 0 keys' ≡ deliver_of d
      by_host true h = by_arrival h (first_of (arrival_checks d.port d.area 10)) refl (arrival_late d.port d.area 10)
      by_host false h =
          by_refusal (first_of (arrival_checks d.port d.area 10)) (silent 2) past_is (unsound_host (first_of (arrival_checks d.port d.area 10)) (arrival_late d.port d.area 10) h)
          (deliver_record d sized (rw (p, h)))

    by_port : (b : Bool) → port_sound d.port ≡ b → concluded v d.port.domain (silenced d.facts) 0 keys' ≡ deliver_of d
    by_port true p = by_host p (host_sound d.host d.port.domain) refl
    by_port false p = by_refusal (some (silent 2)) (silent 2) (record_is p) record_host (deliver_record d sized (rw p))

  by_size : (b : Bool) → bad_area d.area ≡ b → concluded v d.port.domain (silenced d.facts) 0 keys' ≡ deliver_of d
  by_size true e = by_refusal (some (silent 1)) (silent 1) (size_is e) size_host (deliver_size d e)
  by_size false e = by_port e (port_sound d.port) refl

  pub delivered : concluded v d.port.domain (silenced d.facts) 0 keys' ≡ deliver_of d
  delivered = by_size (bad_area d.area) refl
