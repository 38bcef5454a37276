-- The statements of `specs/Reported.antt`.
use Prim.Native.Nat.{ℕ, ◌+◌, ◌<◌}
use mathlib.Core.Path.{◌≡◌, refl, sym, ap, ◌∙◌}
use mathlib.Core.Bool.{Bool, true, false, not, ◌&&◌, ◌||◌}
use mathlib.Core.List.{List, [], ◌∷◌}
use mathlib.Core.Logic.{⊎_elim}
use mathlib.Core.Option.{Option, none, some}
use native.Mathlib.Omega.{arith}
use borrow.Author.Tests.{eqb-false}
use lib.Dec.{eqb, ltb}
use lib.ListN.{length}
use Rattle.label.specs.declared.Label.{Label}
use Rattle.label.specs.Label.{in_range}
use Rattle.option.specs.Option.{Octets}
use Rattle.basic.specs.Alone.{basic_reading}
use Rattle.std.specs.Prelude.{Ok, Err, Some, None, is_none}
use Rattle.area.specs.Kinds.{Place, Walk}
use Rattle.area.specs.Area.{bad_area}
use Rattle.area.proofs.Laws.{area_refused}
use Rattle.area_leaving.specs.Kept.{kept_of}
use Rattle.port.specs.declared.Port.{Port}
use Rattle.port.specs.Port.{port_sound, host_sound, lowest_out, highest_out}
use Rattle.label_keys.specs.Range.{set_in_range}
use Rattle.decision.specs.declared.Refusal.{Refusal}
use Rattle.decision.specs.Decision.{silenced, decided}
use Rattle.arrive.specs.Checks.{silent as silent_as, faulty, barred, option_at, read_at, basic_passes, arriving_label, when, first_of, walk_at, walk_refusal, walk_check, place_in, basic_in, required_by, required_check, option_by, option_check, bad_basic_by, bad_basic_check, arriving_basic, missing_basic_by, missing_basic_check, basic_range_check, range_check}
use Rattle.arrive.proofs.Pointer.{strict_number}
use Rattle.forward_rules.specs.Crossing.{Forwarding, sizes, records, leaving_basic_check, Crossing, crossing, stays, has_numbers, number_check, leaving_level, leaving_runs, leaving_check, no_room, leaving_label, leaving_option, spelling_check}
use Rattle.forward_rules.specs.Forward.{forward_checks, leaving_count, forward_of}
use Rattle.forward_rules.proofs.Forwards.{records_test}
use Rattle.deliver.specs.Delivery.{Delivery, delivery_sizes, delivery_records, host_check, deliver_checks, deliver_of}
use Rattle.route.specs.Route.{Chosen}
use Rattle.std.specs.Prelude.{None, Some}
use Rattle.route_decide.specs.Routing.{Routing, box_sound, chosen, arriving_port, chosen_pair, set_check, leaving_basic_by, is_unrouted, no_route, route_check, routing_checks, routing_of}
use Rattle.message.specs.Message.{reports, whole_header}
use Rattle.message_reply.specs.Reply.{reply_area}
use Rattle.message_build.specs.declared.Report.{Report}
use Rattle.message_build.specs.Build.{silent, unsound, unanswered, area_of, sent}
use Rattle.message_build.proofs.Laws.{sound_silent, unsound_report, sent_quiet}
use Rattle.demands_reported.specs.Reported.{Job, forwarding, delivery, routing, decision_of, facts_of, area_in, report_of, Reports}
use Rattle.demands_reported.proofs.Answered.{reported, past_first, when_silent, decided_answered}

-- What is known of every refusal: it has a number, it is silent or a message carries it, and 22 is that of no route.
record Carried (r : Refusal) : Type 0 where
  real : 0 < r.number
  known : (silent (reported r) || reports r.kind r.pointer) ≡ true
  routed : r.number ≡ 22 → r ≡ no_route

-- so of what a check says, and of a list of checks
abbrev Fine : Option Refusal → Type 0
Fine none = Unit {0}
Fine (some r) = Carried r

abbrev AllFine : List (Option Refusal) → Type 0
AllFine [] = Unit {0}
AllFine (c ∷ cs) = Fine c × AllFine cs

first_fine : (cs : List (Option Refusal)) → AllFine cs → Fine (first_of cs)
first_fine [] h = tt
first_fine (some r ∷ cs) h = h.0
first_fine (none ∷ cs) h = first_fine cs h.1

when_fine : (b : Bool) (r : Refusal) → Carried r → Fine (when b r)
when_fine true r h = h
when_fine false r h = tt

-- the refusals by what they report
faulty_fine : (n at : ℕ) → 0 < n → (n ≡ 22 → ⊥) → Carried (faulty n at)
faulty_fine n at h k = record { real = h; known = refl; routed = λ e. absurd (k e) }

barred_fine : (n code : ℕ) → 0 < n → n < 22 → Carried (barred n code)
barred_fine n code h k = record { real = h; known = refl; routed = λ e. absurd (omega arith) }

silent_fine : (n : ℕ) → 0 < n → n < 22 → Carried (silent_as n)
silent_fine n h k = record { real = h; known = refl; routed = λ e. absurd (omega arith) }

missing_fine : (n pointer : ℕ) → 0 < n → n < 22 → Carried (record { number = n; kind = 12; code = 1; pointer = pointer })
missing_fine n pointer h k = record { real = h; known = refl; routed = λ e. absurd (omega arith) }

-- The checks that both jobs ask.
module _ (port : Port) (area : List ℕ) where
  walk_fine : Fine (walk_check port area)
  unfolding walk_check
  walk_fine = go (walk_at port area) refl
    where
      go : (w : Walk) → walk_at port area ≡ w → Fine (walk_refusal w)
      go (Ok m) e = tt
      go (Err r) e =
          let q = area_refused port.basic.on area r.number r.at e in
          faulty_fine r.number r.at (omega (arith, q.0)) (λ z. omega (arith, q.1))

  required_fine : Fine (required_check port area)
  unfolding required_check
  required_fine = go (place_in (walk_at port area))
    where
      go : (p : Place) → Fine (required_by p port)
      go None = when_fine port.required (record { number = 6; kind = 12; code = 1; pointer = 134 }) (missing_fine 6 134 (omega arith) (omega arith))
      go (Some p) = tt

  option_fine : Fine (option_check port area)
  unfolding option_check
  option_fine = go (place_in (walk_at port area))
    where
      go : (p : Place) → Fine (option_by p port area)
      go None = tt
      go (Some p) = by (eqb (read_at port (option_at p area)).number 0) refl
        where
          by : (t : Bool) → eqb (read_at port (option_at p area)).number 0 ≡ t
              → Fine (when (not t) (faulty (read_at port (option_at p area)).number (p + (read_at port (option_at p area)).pointer)))
          by true e = tt
          by false e =
              ⊎_elim (λ n. faulty_fine (read_at port (option_at p area)).number (p + (read_at port (option_at p area)).pointer) (omega (arith, n.0)) (λ z. omega (arith, n.1)))
              (λ n. faulty_fine (read_at port (option_at p area)).number (p + (read_at port (option_at p area)).pointer) (omega (arith, n)) (λ z. omega (arith, n)))
              (strict_number port.strict port.domain (option_at p area) (eqb-false _ _ e))

  bad_basic_fine : Fine (bad_basic_check port area)
  unfolding bad_basic_check
  bad_basic_fine = go (basic_in (walk_at port area))
    where
      go : (p : Place) → Fine (bad_basic_by p area)
      go None = tt
      go (Some p) = when_fine (is_none (basic_reading (option_at p area))) (faulty 19 p) (faulty_fine 19 p (omega arith) (λ z. omega arith))

  missing_basic_fine : Fine (missing_basic_check port area)
  unfolding missing_basic_check
  missing_basic_fine = go (arriving_basic port area)
    where
      go : (o : Option (List ℕ)) → Fine (missing_basic_by o port.basic.on)
      go none = when_fine port.basic.on (record { number = 20; kind = 12; code = 1; pointer = 130 }) (missing_fine 20 130 (omega arith) (omega arith))
      go (some o) = tt

  basic_range_fine : (code : ℕ) → Fine (basic_range_check port area code)
  unfolding basic_range_check
  basic_range_fine code = when_fine (not (basic_passes port.basic.on port.basic.receiving (arriving_basic port area))) (barred 21 code) (barred_fine 21 code (omega arith) (omega arith))

  range_fine : (code : ℕ) → Fine (range_check port area code)
  unfolding range_check
  range_fine code = when_fine (not (in_range port.lowest port.highest (arriving_label port area))) (barred 14 code) (barred_fine 14 code (omega arith) (omega arith))

-- The checks of a forwarding.
module _ (f : Forwarding) where
  sizes_fine : Fine (sizes f)
  unfolding sizes
  sizes_fine = when_fine (bad_area f.area || ltb f.room 40) (silent_as 1) (silent_fine 1 (omega arith) (omega arith))

  records_fine : Fine (records f)
  unfolding records
  records_fine =
      when_fine (not (records_test f)) (silent_as 2) (silent_fine 2 (omega arith) (omega arith))

  leaving_basic_fine : Fine (leaving_basic_check f)
  unfolding leaving_basic_check
  leaving_basic_fine = when_fine (not (basic_passes f.leaving.basic.on f.leaving.basic.sending (arriving_basic f.arriving f.area))) (barred 21 9) (barred_fine 21 9 (omega arith) (omega arith))

module _ (x : Crossing) where
  number_fine : Fine (number_check x)
  unfolding number_check
  number_fine = when_fine (not (stays x || has_numbers x)) (barred 16 9) (barred_fine 16 9 (omega arith) (omega arith))

  leaving_fine : Fine (leaving_check x)
  unfolding leaving_check
  leaving_fine = when_fine (not (set_in_range (lowest_out x.leaving) (highest_out x.leaving) (leaving_level x) (leaving_runs x))) (barred 17 9) (barred_fine 17 9 (omega arith) (omega arith))

  spelling_fine : (kept : List ℕ) → Fine (spelling_check x kept)
  unfolding spelling_check
  spelling_fine kept = when_fine (ltb 120 (length (leaving_runs x)) || no_room (leaving_option x) kept) (barred 18 9) (barred_fine 18 9 (omega arith) (omega arith))

forward_fine : (f : Forwarding) → AllFine (forward_checks f)
forward_fine f =
    let p = f.arriving in
    let a = f.area in (
      sizes_fine f,
      (
        records_fine f,
        (
          walk_fine p a,
          (
            required_fine p a,
            (
              option_fine p a,
              (
                bad_basic_fine p a,
                (
                  missing_basic_fine p a,
                  (
                    basic_range_fine p a 9,
                    (
                      leaving_basic_fine f,
                      (range_fine p a 9, (number_fine (crossing f), (leaving_fine (crossing f), (spelling_fine (crossing f) (kept_of a), tt)))),
                    ),
                  ),
                ),
              ),
            ),
          ),
        ),
      ),
    )

-- The checks of a box of many ports.
module _ (b : Routing) where
  set_fine : Fine (set_check b)
  unfolding set_check
  set_fine = when_fine (not (box_sound b)) (silent_as 2) (silent_fine 2 (omega arith) (omega arith))

  leaving_by_fine : (c : Chosen) → Fine (leaving_basic_by c (chosen_pair b))
  leaving_by_fine None = tt
  leaving_by_fine (Some r) = leaving_basic_fine (chosen_pair b)

  route_fine : Fine (route_check b)
  unfolding route_check
  route_fine = when_fine (is_unrouted (chosen b)) no_route (record { real = omega arith; known = refl; routed = λ e. refl })

routing_fine : (b : Routing) → AllFine (routing_checks b)
routing_fine b =
    let p = arriving_port b in
    let a = b.area in
    let x = crossing (chosen_pair b) in (
      sizes_fine (chosen_pair b),
      (
        set_fine b,
        (
          walk_fine p a,
          (
            required_fine p a,
            (
              option_fine p a,
              (
                bad_basic_fine p a,
                (
                  missing_basic_fine p a,
                  (
                    basic_range_fine p a 9,
                    (
                      leaving_by_fine b (chosen b),
                      (range_fine p a 9, (route_fine b, (number_fine x, (leaving_fine x, (spelling_fine x (kept_of a), tt))))),
                    ),
                  ),
                ),
              ),
            ),
          ),
        ),
      ),
    )

-- The checks of a delivery.
module _ (d : Delivery) where
  delivery_sizes_fine : Fine (delivery_sizes d)
  unfolding delivery_sizes
  delivery_sizes_fine = when_fine (bad_area d.area) (silent_as 1) (silent_fine 1 (omega arith) (omega arith))

  delivery_records_fine : Fine (delivery_records d)
  unfolding delivery_records
  delivery_records_fine = when_fine (not (port_sound d.port && host_sound d.host d.port.domain)) (silent_as 2) (silent_fine 2 (omega arith) (omega arith))

  host_fine : Fine (host_check d)
  unfolding host_check
  host_fine = when_fine (not (in_range d.host.lowest d.host.highest (arriving_label d.port d.area))) (barred 15 10) (barred_fine 15 10 (omega arith) (omega arith))

deliver_fine : (d : Delivery) → AllFine (deliver_checks d)
deliver_fine d =
    let p = d.port in
    let a = d.area in (
      delivery_sizes_fine d,
      (
        delivery_records_fine d,
        (
          walk_fine p a,
          (
            required_fine p a,
            (
              option_fine p a,
              (
                bad_basic_fine p a,
                (
                  missing_basic_fine p a,
                  (
                    basic_range_fine p a 10,
                    (range_fine p a 10, (host_fine d, tt)),
                  ),
                ),
              ),
            ),
          ),
        ),
      ),
    )

-- The checks of every job: two that are silent, those of the walk and the option, and the rest.
record Ordered (port : Port) (area : List ℕ) (checks : List (Option Refusal)) : Type 0 where
  one : Option Refusal
  two : Option Refusal
  rest : List (Option Refusal)
  order : checks ≡ one ∷ two ∷ walk_check port area ∷ required_check port area ∷ option_check port area ∷ rest
  first : (x : Refusal) → one ≡ some x → silent (reported x) ≡ true
  second : (x : Refusal) → two ≡ some x → silent (reported x) ≡ true

forward_ordered : (f : Forwarding) → Ordered f.arriving f.area (forward_checks f)
unfolding sizes records
forward_ordered f =
    record {
      one = sizes f;
      two = records f;
      rest = bad_basic_check f.arriving f.area ∷ missing_basic_check f.arriving f.area ∷ basic_range_check f.arriving f.area 9 ∷ leaving_basic_check f
          ∷ range_check f.arriving f.area 9 ∷ number_check (crossing f) ∷ leaving_check (crossing f) ∷ spelling_check (crossing f) (kept_of f.area) ∷ [];
      order = refl;
      first = λ x. when_silent (bad_area f.area || ltb f.room 40) 1 x;
      second = λ x. when_silent (not (records_test f)) 2 x;
    }

deliver_ordered : (d : Delivery) → Ordered d.port d.area (deliver_checks d)
unfolding delivery_sizes delivery_records
deliver_ordered d =
    record {
      one = delivery_sizes d;
      two = delivery_records d;
      rest = bad_basic_check d.port d.area ∷ missing_basic_check d.port d.area ∷ basic_range_check d.port d.area 10 ∷ range_check d.port d.area 10 ∷ host_check d ∷ [];
      order = refl;
      first = λ x. when_silent (bad_area d.area) 1 x;
      second = λ x. when_silent (not (port_sound d.port && host_sound d.host d.port.domain)) 2 x;
    }

routing_ordered : (b : Routing) → Ordered (arriving_port b) b.area (routing_checks b)
unfolding sizes set_check
routing_ordered b =
    let p = arriving_port b in
    let a = b.area in
    let x = crossing (chosen_pair b) in
    record {
      one = sizes (chosen_pair b);
      two = set_check b;
      rest = bad_basic_check p a ∷ missing_basic_check p a ∷ basic_range_check p a 9 ∷ leaving_basic_by (chosen b) (chosen_pair b) ∷ range_check p a 9 ∷ route_check b
          ∷ number_check x ∷ leaving_check x ∷ spelling_check x (kept_of a) ∷ [];
      order = refl;
      first = λ x. when_silent (bad_area b.area || ltb b.room 40) 1 x;
      second = λ x. when_silent (not (box_sound b)) 2 x;
    }

-- What is decided, of any list of checks that are fine.
module _ (checks : List (Option Refusal)) (fine : AllFine checks) (facts : Bool) (l : Label) (n : ℕ) (header : List ℕ) where
  carried_sound : whole_header header ≡ true → (r : Report) → (silent r || reports r.kind r.pointer) ≡ true → unsound r header ≡ false
  carried_sound w r e = go (silent r) refl e
    where
      go : (b : Bool) → silent r ≡ b → (b || reports r.kind r.pointer) ≡ true → unsound r header ≡ false
      go true p q = sound_silent r header w p
      go false p q = unsound_report r header w p ∙ ap not q

  silent_quiet : (r : Report) → silent r ≡ true → sent r header ≡ none
  silent_quiet r e = sent_quiet r header (rw e)

  decided_sound : whole_header header ≡ true → unsound (report_of (decided facts (first_of checks) l n)) header ≡ false
  decided_sound w = go facts (first_of checks) (first_fine checks fine)
    where
      go : (quiet : Bool) (c : Option Refusal) → Fine c → unsound (report_of (decided quiet c l n)) header ≡ false
      go quiet none h = carried_sound w (report_of (decided quiet none l n)) refl
      go true (some r) h = carried_sound w (report_of (decided true (some r) l n)) refl
      go false (some r) h = carried_sound w (report_of (decided false (some r) l n)) h.known

  decided_done : (decided facts (first_of checks) l n).number ≡ 0 → sent (report_of (decided facts (first_of checks) l n)) header ≡ none
  decided_done = go facts (first_of checks) (first_fine checks fine)
    where
      go : (quiet : Bool) (c : Option Refusal) → Fine c → (decided quiet c l n).number ≡ 0 → sent (report_of (decided quiet c l n)) header ≡ none
      go quiet none h e = silent_quiet (report_of (decided quiet none l n)) refl
      go quiet (some r) h e = absurd (omega (arith, h.real, e))

  decided_quiet : facts ≡ true → sent (report_of (decided facts (first_of checks) l n)) header ≡ none
  decided_quiet = go facts (first_of checks)
    where
      go : (quiet : Bool) (c : Option Refusal) → quiet ≡ true → sent (report_of (decided quiet c l n)) header ≡ none
      go true none e = silent_quiet (report_of (decided true none l n)) refl
      go true (some r) e = silent_quiet (report_of (decided true (some r) l n)) refl
      go false c e = absurd (let z : ◌≡◌ {A = ℕ} 0 1 = cc in omega arith)

  decided_sent : (port : Port) (area : List ℕ) → Ordered port area checks → area_of header ≡ area → Octets area
      → silent (report_of (decided facts (first_of checks) l n)) ≡ false → unanswered (decided facts (first_of checks) l n).number ≡ false
      → sent (report_of (decided facts (first_of checks) l n)) header ≡ none → ⊥
  decided_sent port area o a oct =
      decided_answered header facts (first_of checks) l n
      (λ r e q u x. past_first port area oct o.one o.two o.rest r o.first o.second (ap first_of (sym o.order) ∙ e) q u (sym (ap reply_area a) ∙ x))

  decided_unrouted : facts ≡ false → (decided facts (first_of checks) l n).number ≡ 22
      → report_of (decided facts (first_of checks) l n) ≡ record { number = 22; kind = 3; code = 0; pointer = 0 }
  decided_unrouted = go facts (first_of checks) (first_fine checks fine)
    where
      go : (quiet : Bool) (c : Option Refusal) → Fine c → quiet ≡ false → (decided quiet c l n).number ≡ 22
          → report_of (decided quiet c l n) ≡ record { number = 22; kind = 3; code = 0; pointer = 0 }
      go true c h f e = absurd (let z : ◌≡◌ {A = ℕ} 0 1 = cc in omega arith)
      go false none h f e = absurd (omega (arith, e))
      go false (some r) h f e = ap reported (h.routed e)

-- the three jobs
sound_of : (j : Job) (header : List ℕ) → whole_header header ≡ true → unsound (report_of (decision_of j)) header ≡ false
unfolding forward_of deliver_of routing_of
sound_of (forwarding f) header = decided_sound (forward_checks f) (forward_fine f) (silenced f.facts) (leaving_label (crossing f)) (leaving_count f) header
sound_of (delivery d) header = decided_sound (deliver_checks d) (deliver_fine d) (silenced d.facts) (arriving_label d.port d.area) 0 header
sound_of (routing b) header =
    decided_sound (routing_checks b) (routing_fine b) (silenced b.facts) (leaving_label (crossing (chosen_pair b))) (leaving_count (chosen_pair b)) header

done_of : (j : Job) (header : List ℕ) → (decision_of j).number ≡ 0 → sent (report_of (decision_of j)) header ≡ none
unfolding forward_of deliver_of routing_of
done_of (forwarding f) header = decided_done (forward_checks f) (forward_fine f) (silenced f.facts) (leaving_label (crossing f)) (leaving_count f) header
done_of (delivery d) header = decided_done (deliver_checks d) (deliver_fine d) (silenced d.facts) (arriving_label d.port d.area) 0 header
done_of (routing b) header =
    decided_done (routing_checks b) (routing_fine b) (silenced b.facts) (leaving_label (crossing (chosen_pair b))) (leaving_count (chosen_pair b)) header

quiet_of : (j : Job) (header : List ℕ) → silenced (facts_of j) ≡ true → sent (report_of (decision_of j)) header ≡ none
unfolding forward_of deliver_of routing_of
quiet_of (forwarding f) header = decided_quiet (forward_checks f) (forward_fine f) (silenced f.facts) (leaving_label (crossing f)) (leaving_count f) header
quiet_of (delivery d) header = decided_quiet (deliver_checks d) (deliver_fine d) (silenced d.facts) (arriving_label d.port d.area) 0 header
quiet_of (routing b) header =
    decided_quiet (routing_checks b) (routing_fine b) (silenced b.facts) (leaving_label (crossing (chosen_pair b))) (leaving_count (chosen_pair b)) header

sent_of_lem : (j : Job) (header : List ℕ) → area_of header ≡ area_in j → Octets (area_in j)
    → silent (report_of (decision_of j)) ≡ false → unanswered (decision_of j).number ≡ false → sent (report_of (decision_of j)) header ≡ none → ⊥
unfolding forward_of deliver_of routing_of
sent_of_lem (forwarding f) header =
    decided_sent (forward_checks f) (forward_fine f) (silenced f.facts) (leaving_label (crossing f)) (leaving_count f) header f.arriving f.area (forward_ordered f)
sent_of_lem (delivery d) header =
    decided_sent (deliver_checks d) (deliver_fine d) (silenced d.facts) (arriving_label d.port d.area) 0 header d.port d.area (deliver_ordered d)
sent_of_lem (routing b) header =
    decided_sent (routing_checks b) (routing_fine b) (silenced b.facts) (leaving_label (crossing (chosen_pair b))) (leaving_count (chosen_pair b)) header
    (arriving_port b) b.area (routing_ordered b)

unrouted_of_lem : (b : Routing) → silenced b.facts ≡ false → (routing_of b).number ≡ 22 → report_of (routing_of b) ≡ record { number = 22; kind = 3; code = 0; pointer = 0 }
unfolding routing_of
unrouted_of_lem b =
    decided_unrouted (routing_checks b) (routing_fine b) (silenced b.facts) (leaving_label (crossing (chosen_pair b))) (leaving_count (chosen_pair b)) []

pub reports_sound : Reports
reports_sound = record { sound = sound_of; done = done_of; quiet = quiet_of; answers = sent_of_lem; unrouted = unrouted_of_lem }
