-- Demand 2: forwarded and delivered exactly when the conditions hold.
use mathlib.Core.Path.{◌≡◌, refl, sym, ◌∙◌, ap, subst}
use mathlib.Core.Bool.{Bool, true, false, cond, not, ◌&&◌, ◌||◌}
use mathlib.Core.List.{List, [], ◌∷◌, ◌++◌}
use mathlib.Core.Logic.{◌↔◌}
use mathlib.Core.Option.{Option, none, some}
use Prim.Native.Nat.{ℕ, ◌+◌, ◌%◌, ◌≤◌}
use native.Mathlib.Omega.{arith}
use lib.Dec.{ltb, eqb}
use lib.ListN.{length, get_or}
use borrow.Author.Tests.{eqb-true, eqb-false, eq-eqb, ne_eqb, le-ltb, ltb-false}
use Rattle.label.specs.declared.Label.{Label}
use Rattle.label.specs.Label.{well_formed, in_range}
use Rattle.label.proofs.Bools.{never, and_left, and_right, or_none}
use Rattle.label_keys.specs.Range.{set_in_range}
use Rattle.option.specs.Option.{Octets}
use Rattle.option.specs.Spelling.{spelled_of}
use Rattle.option.proofs.OneSpelling.{one_spelling}
use Rattle.option_read.specs.Reading.{Reading}
use Rattle.option_read.specs.Reading.{found, reading_for}
use Rattle.option_read.proofs.Theorems.{reads}
use Rattle.option_slack.specs.Slack.{slack}
use Rattle.option_slack.proofs.Strict.{strict_reads, strictly_reads}
use Rattle.std.specs.Prelude.{Ok, Err, Some, None}
use Rattle.area.specs.Kinds.{Place, Walk, places}
use Rattle.area.proofs.Laws.{sound_placed}
use Rattle.area_leaving.specs.Kept.{kept_of, round_up, leaving_of}
use Rattle.port.specs.declared.Port.{Port}
use Rattle.port.specs.Port.{port_sound, host_sound, lowest_out, highest_out}
use Rattle.port.proofs.Laws.{sound, range_formed, default_in}
use Rattle.table.specs.Table.{table_sound}
use Rattle.renumber.specs.Renumber.{carried_of}
use Rattle.renumber.specs.Theorems.{Far}
use Rattle.renumber.proofs.Theorems.{renumbering, agrees}
use Rattle.decision.specs.declared.Decision.{Decision}
use Rattle.decision.specs.declared.Refusal.{Refusal}
use Rattle.decision.specs.Decision.{silenced, refused, decided}
use Rattle.area.specs.Area.{bad_area}
use Rattle.arrive.specs.Checks.{silent, barred, first_of, NoneApplies, walk_at, walk_check, option_at, read_at, required_by, required_check, option_by, option_check, label_by, arriving_label, range_check, arrival_checks}
use Rattle.deliver.specs.Delivery.{Delivery, delivery_sizes, delivery_records, host_check, deliver_checks, deliver_of}
use Rattle.decision.specs.Decision as decision
use Rattle.arrive.proofs.First.{Real, real_first, real_when, first_none, none_first, when_none, first_append, not_false_yes, real_else}
use Rattle.option.proofs.Octets.{octets_part}
use Rattle.arrive.proofs.Arrival.{placed_framed, Held, arrival_held, arrival_real, in_range_held}
use Rattle.deliver.proofs.Deliveries.{deliver_done}
use Rattle.forward_rules.specs.Crossing.{no_room, Forwarding, same_domain, Crossing, crossing, stays, leaving_label, leaving_option, sizes, records, number_check, leaving_check, leaving_level, leaving_runs}
use Rattle.forward_rules.specs.Forward.{forward_checks, forward_of, output_of}
use Rattle.forward_rules.specs.Crossing.{crossing_checks}
use Rattle.forward_rules.proofs.Crossings.{label_stays, stays_inside, stays_outside, Crossed, crossed, crossed_carried, crosses_passed, numbers, default_is}
use Rattle.forward_rules.proofs.Forwards.{reach_checks, records_test, Passed, forward_passed, passed_formed, forward_real, forward_fits, forward_done, forward_range, forward_none, kept_fits, leaving_spelled, leaving_none, reach_arrival, forward_refused}
use Rattle.demands.proofs.Basic.{octets_at_lem, basic_arrives, basic_passes_lem, Unbarred, arrives_unbarred, passes_unbarred, passes_sent}
use Rattle.demands.specs.Demands.{AreaSound, LabelOf, own, assigned, Forwards, Delivers, Becomes, Demand2, earlier_checks}

pub same_some : {a b : List ℕ} → ◌≡◌ {A = Option (List ℕ)} (some a) (some b) → a ≡ b
same_some e = cc

-- The area.

pub area_sound : (area : List ℕ) → bad_area area ≡ false → AreaSound area
area_sound area e =
    let q = or_none (ltb 40 (length area)) (not (eqb (length area % 4) 0)) e in
    record { few = ltb-false _ _ q.0; fourfold = eqb-true _ _ (not_false_yes _ q.1) }

pub sound_area : (area : List ℕ) → AreaSound area → bad_area area ≡ false
sound_area area a = rw (le-ltb 40 (length area) a.few, eq-eqb _ _ a.fourfold)

-- The label of an area that has passed checks 3 to 14.

pub passed_label : (p : Port) (area : List ℕ) (code : ℕ) → Octets area → port_sound p ≡ true → first_of (arrival_checks p area code) ≡ none → LabelOf p area (arriving_label p area)
unfolding walk_check required_check option_check arriving_label
passed_label p area code oct s e = go (walk_at p area) refl
  where
    n : NoneApplies (arrival_checks p area code)
    n = first_none (arrival_checks p area code) e

    at_place : (q b : Place) → walk_at p area ≡ Ok (places q b) → required_by q p ≡ none → option_by q p area ≡ none → label_by q p area ≡ arriving_label p area → LabelOf p area (arriving_label p area)
    at_place None b w r o l = assigned b w (when_none p.required _ r) l
    at_place (Some i) b w r o l =
        let f = placed_framed area i (sound_placed p.basic.on area (Some i) b w).0 in
        let z : (read_at p (option_at i area)).number ≡ 0 = eqb-true _ _ (not_false_yes _ (when_none _ _ o)) in
        let q = (strictly_reads.exactly p.strict p.domain (option_at i area)).0 z in
        let m = (reads.for p.domain).means (option_at i area) (octets_part (get_or area (i + 1) 0) i area (octets_at_lem area oct)) f.framed (sound p s).owned q.0 in
        own i b w (rw l at m) (arrival_held p area code s e).domain (λ t. ap (λ (x : Bool). x && slack (option_at i area)) (sym t) ∙ q.1)

    go : (w : Walk) → walk_at p area ≡ w → LabelOf p area (arriving_label p area)
    go (Ok m) w = at_place m.label m.basic w (rw w at n.1.0) (rw w at n.1.1.0) (rw w)
    go (Err r) w = let c : some _ ≡ none = rw w at n.0 in let z : ◌≡◌ {A = ℕ} 0 1 = cc in absurd (omega arith)

-- and back: an area with this label passes them.
pub record Reads (p : Port) (area : List ℕ) (l : Label) : Type 0 where
  pub label : arriving_label p area ≡ l
  pub sound : (q : Place) × (b : Place) × (walk_at p area ≡ Ok (places q b))
  pub walk : walk_check p area ≡ none
  pub required : required_check p area ≡ none
  pub option : option_check p area ≡ none

-- 23, of an option that passes it
not_stopped : (s z : Bool) → (s ≡ true → z ≡ false) → (s && z) ≡ false
not_stopped true z h = h refl
not_stopped false z h = refl

pub label_reads : (p : Port) (area : List ℕ) (l : Label) → LabelOf p area l → Reads p area l
unfolding walk_check required_check option_check arriving_label
label_reads p area l (own i b w m d t) =
    let r : reading_for p.domain (option_at i area) ≡ found l = (reads.for p.domain).back (option_at i area) l m d in
    let q : read_at p (option_at i area) ≡ found l =
    strict_reads p.strict p.domain (option_at i area) (ap (λ (x : Reading). x.number) r) (not_stopped p.strict (slack (option_at i area)) t) ∙ r in
    record { label = rw w (ap (λ (x : Reading). x.label) r); sound = (Some i, b, w); walk = rw w; required = rw w; option = rw w (rw q) }
label_reads p area l (assigned b w r e) = record { label = rw w e; sound = (None, b, w); walk = rw w; required = rw w (rw r); option = rw w }

label_within : (p : Port) (area : List ℕ) (code : ℕ) (l : Label) → Reads p area l → in_range p.lowest p.highest l ≡ true → range_check p area code ≡ none
unfolding range_check
label_within p area code l r e = rw (r.label, e)

pub label_arrives : (p : Port) (area : List ℕ) (code : ℕ) (l : Label) → Reads p area l → Unbarred p area code → in_range p.lowest p.highest l ≡ true
    → first_of (arrival_checks p area code) ≡ none
label_arrives p area code l r u e =
    none_first (arrival_checks p area code) (r.walk, (r.required, (r.option, (u.bad, (u.missing, (u.range, (label_within p area code l r e, tt)))))))

-- a decision of number 0 has passed every check
decided_none : (quiet : Bool) (o : Option Refusal) (l : Label) (n : ℕ) → Real o → (decided quiet o l n).number ≡ 0 → o ≡ none
decided_none quiet none l n r e = refl
decided_none quiet (some x) l n r e = absurd (r e)

-- Forwarding.

pub forwarded_passes : (f : Forwarding) → (forward_of f).number ≡ 0 → first_of (forward_checks f) ≡ none
unfolding forward_of
forwarded_passes f e = decided_none (silenced f.facts) (first_of (forward_checks f)) _ _ (forward_real f) e

module _ (f : Forwarding) (p : Passed f) where
  arriving_sound : port_sound f.arriving ≡ true
  arriving_sound = and_left (port_sound f.arriving) _ p.sound

  others : (port_sound f.leaving && (same_domain f || table_sound f.table f.levels)) ≡ true
  others = and_right (port_sound f.arriving) _ p.sound

  leaving_sound : port_sound f.leaving ≡ true
  leaving_sound = and_left (port_sound f.leaving) _ others

  table_sound_lem : (f.arriving.domain ≡ f.leaving.domain → ⊥) → table_sound f.table f.levels ≡ true
  table_sound_lem h = rw (ne_eqb _ _ h) at (and_right (port_sound f.leaving) _ others)

  abbrev x : Crossing
  x = crossing f

  formed : well_formed x.label ≡ true
  formed = (arrival_held f.arriving f.area 9 arriving_sound p.arrived).formed

  domain : x.label.domain ≡ x.domain
  domain = (arrival_held f.arriving f.area 9 arriving_sound p.arrived).domain

  over : (f.arriving.domain ≡ f.leaving.domain → ⊥) → Crossed x
  over h = crossed x (ne_eqb _ _ h) p.crossed

  leaves : in_range (lowest_out f.leaving) (highest_out f.leaving) (leaving_label x) ≡ true
  leaves = by (stays x) refl
    where
      here : f.arriving.domain ≡ f.leaving.domain → (b : Bool) → in_range (lowest_out f.leaving) (highest_out f.leaving) x.label ≡ b → b ≡ true
      here s true e = refl
      here s false e = let q = stays_outside x formed domain leaving_sound s e in let c = p.crossed in let z : ◌≡◌ {A = ℕ} 0 1 = cc in absurd (omega arith)

      by : (b : Bool) → stays x ≡ b → in_range (lowest_out f.leaving) (highest_out f.leaving) (leaving_label x) ≡ true
      by true s =
          ap (in_range (lowest_out f.leaving) (highest_out f.leaving)) (label_stays x formed domain leaving_sound (eqb-true _ _ s))
          ∙ here (eqb-true _ _ s) (in_range (lowest_out f.leaving) (highest_out f.leaving) x.label) refl
      by false s = (crossed_carried x formed domain leaving_sound (table_sound_lem (eqb-false _ _ s)) (over (eqb-false _ _ s))).held

  -- 17 has passed: toward unlabelled hosts the label is their default label, and no octets of an option are written
  within : set_in_range (lowest_out f.leaving) (highest_out f.leaving) (leaving_level x) (leaving_runs x) ≡ true
  unfolding leaving_check
  within = not_false_yes _ (when_none _ (barred 17 9) (first_none (crossing_checks x) p.crossed).1.0)

  pub passed_default : f.leaving.unlabelled ≡ true → leaving_label x ≡ f.leaving.default
  passed_default o = (default_is x formed leaving_sound o within).label

  pub passed_bare : f.leaving.unlabelled ≡ true → p.fits.octets ≡ []
  passed_bare o = same_some (sym p.fits.spelled ∙ leaving_none x o)

  pub passed_forwards : Octets f.area → Forwards f x.label (leaving_label x) p.fits.octets
  passed_forwards oct =
      record {
        area = area_sound f.area p.area;
        room = p.room;
        arriving = arriving_sound;
        leaving = leaving_sound;
        table = table_sound_lem;
        label = passed_label f.arriving f.area 9 oct arriving_sound p.arrived;
        basic = basic_passes_lem f p oct arriving_sound leaving_sound;
        arrives = (arrival_held f.arriving f.area 9 arriving_sound p.arrived).within;
        stays = λ s. sym (label_stays x formed domain leaving_sound s);
        from = λ h. (over h).from;
        to = λ h. (over h).to;
        numbered = λ h. (crossed_carried x formed domain leaving_sound (table_sound_lem h) (over h)).far;
        leaves = λ o. subst (λ (u : Bool). in_range (cond u f.leaving.default f.leaving.lowest) (cond u f.leaving.default f.leaving.highest) (leaving_label x) ≡ true) o leaves;
        spelled = λ o. (one_spelling.spells f.leaving.spellings (leaving_label x) p.fits.octets (passed_formed f p)).0 (leaving_spelled x o ∙ p.fits.spelled);
        fits = λ o. p.fits.room;
        default = passed_default;
        bare = passed_bare;
      }

-- a label in the far domain that is in range passes 16, 17 and the check of its runs
module _ (f : Forwarding) (formed : well_formed (crossing f).label ≡ true) (own : (crossing f).label.domain ≡ (crossing f).domain) (leaving : port_sound f.leaving ≡ true) (ts : table_sound f.table f.levels ≡ true)
    (d : f.arriving.domain ≡ f.leaving.domain → ⊥) (from : f.table.from ≡ f.arriving.domain) (to : f.table.to ≡ f.leaving.domain) (m : Label) (out : in_range (lowest_out f.leaving) (highest_out f.leaving) m ≡ true)
    (far : Far (crossing f).label f.table f.levels m) where
  far_passes : (first_of (crossing_checks (crossing f)) ≡ none) × (m ≡ leaving_label (crossing f))
  far_passes =
      let g = (sound f.leaving leaving).out in
      let n = renumbering.found (crossing f).label f.table f.levels m ts formed (own ∙ sym from) far in
      let a = agrees (crossing f).label f.table f.levels (lowest_out f.leaving) (highest_out f.leaving) m g.low_formed g.high_formed (g.low_domain ∙ sym to) (g.high_domain ∙ sym to) n in
      let c : Ok m ≡ carried_of (crossing f).label f.table f.levels (lowest_out f.leaving) (highest_out f.leaving) = sym (a ∙ rw out) in
      crosses_passed (crossing f) d from to m c

  far_inside : first_of (crossing_checks (crossing f)) ≡ none
  far_inside = far_passes.0

-- The conditions let every check pass.
module _ (f : Forwarding) (l m : Label) (s : List ℕ) (h : Forwards f l m s) where
  r : Reads f.arriving f.area l
  r = label_reads f.arriving f.area l h.label

  held : Held f.arriving l
  held = in_range_held f.arriving l h.arriving h.arrives

  abbrev y : Crossing
  y = crossing f

  y_formed : well_formed y.label ≡ true
  y_formed = rw r.label held.formed

  y_domain : y.label.domain ≡ y.domain
  y_domain = rw r.label held.domain

  tested : records_test f ≡ true
  tested = by (same_domain f) refl
    where
      by : (b : Bool) → same_domain f ≡ b → records_test f ≡ true
      by true e = rw (h.arriving, h.leaving, e)
      by false e = rw (h.arriving, h.leaving, e, h.table (eqb-false _ _ e))

  -- the label lies in the range of what may leave: toward unlabelled hosts it is that label
  out_of : in_range (lowest_out f.leaving) (highest_out f.leaving) m ≡ true
  out_of = by f.leaving.unlabelled refl
    where
      by : (b : Bool) → f.leaving.unlabelled ≡ b → in_range (lowest_out f.leaving) (highest_out f.leaving) m ≡ true
      by true o = rw o (default_in f.leaving m ((sound f.leaving h.leaving).unlabelled o) (h.default o))
      by false o = rw o (h.leaves o)

  pub record Crosses : Type 0 where
    pub none : first_of (crossing_checks y) ≡ none
    pub label : leaving_label y ≡ m

  crosses : Crosses
  crosses = by (same_domain f) refl
    where
      by : (b : Bool) → same_domain f ≡ b → Crosses
      by true e =
          let d : f.arriving.domain ≡ f.leaving.domain = eqb-true _ _ e in
          let same : y.label ≡ m = r.label ∙ h.stays d in
          record {
            none = stays_inside y y_formed y_domain h.leaving d (ap (in_range (lowest_out f.leaving) (highest_out f.leaving)) same ∙ out_of);
            label = label_stays y y_formed y_domain h.leaving d ∙ same;
          }
      by false e =
          let d : (f.arriving.domain ≡ f.leaving.domain → ⊥) = eqb-false _ _ e in
          let q = far_passes f y_formed y_domain h.leaving (h.table d) d (h.from d) (h.to d) m out_of (rw r.label (h.numbered d)) in
          record { none = q.0; label = sym q.1 }

  m_formed : well_formed m ≡ true
  m_formed = range_formed (lowest_out f.leaving) (highest_out f.leaving) m out_of

  pub option_is : leaving_option y ≡ some s
  option_is = by f.leaving.unlabelled refl
    where
      by : (b : Bool) → f.leaving.unlabelled ≡ b → leaving_option y ≡ some s
      by true o = leaving_none y o ∙ ap some (sym (h.bare o))
      by false o = sym (leaving_spelled y o) ∙ ap (spelled_of f.leaving.spellings) crosses.label ∙ (one_spelling.spells f.leaving.spellings m s m_formed).1 (h.spelled o)

  room_left : length s + length (kept_of f.area) ≤ 40
  room_left = by f.leaving.unlabelled refl
    where
      by : (b : Bool) → f.leaving.unlabelled ≡ b → length s + length (kept_of f.area) ≤ 40
      by true o = omega (arith, ap length (h.bare o), kept_fits f.area (sound_area f.area h.area))
      by false o = h.fits o

  reaches : first_of (reach_checks f) ≡ none
  reaches =
      let u = passes_unbarred f.arriving f.leaving f.area r.sound.0 r.sound.1 r.sound.2 h.arriving h.basic in
      none_first (reach_checks f)
      (r.walk, (r.required, (r.option, (u.bad, (u.missing, (u.range, (passes_sent f h.leaving h.basic, (label_within f.arriving f.area 9 l r h.arrives, tt))))))))

  pub forwards_passes : first_of (forward_checks f) ≡ none
  forwards_passes =
      forward_fits f (sound_area f.area h.area) h.room tested reaches false crosses.none
      (rw (option_is, le-ltb 40 (length s + length (kept_of f.area)) room_left))

  pub forwards_done : (out : List ℕ)
      → (forward_of f ≡ decision.done m (round_up (length s + length (kept_of f.area)))) × (output_of f out ≡ leaving_of s (kept_of f.area) out)
  forwards_done out =
      let q = forward_done f s out forwards_passes option_is in
      (q.0 ∙ ap (λ (z : Label). decision.done z (round_up (length s + length (kept_of f.area)))) crosses.label, q.1)

-- Toward unlabelled hosts: past the checks before 17, the default label or 17.
module _ (f : Forwarding) (o : f.leaving.unlabelled ≡ true) (n : NoneApplies (earlier_checks f)) where
  a : (bad_area f.area ≡ false) × (ltb f.room 40 ≡ false)
  unfolding sizes
  a = or_none (bad_area f.area) (ltb f.room 40) (when_none _ (silent 1) n.0)

  long : 40 ≤ f.room
  long = ltb-false _ _ a.1

  t : records_test f ≡ true
  unfolding records
  t = not_false_yes (records_test f) (when_none _ (silent 2) n.1.0)

  reached : first_of (reach_checks f) ≡ none
  reached = none_first (reach_checks f) (n.1.1.0, (n.1.1.1.0, (n.1.1.1.1.0, (n.1.1.1.1.1.0, (n.1.1.1.1.1.1.0, (n.1.1.1.1.1.1.1.0, (n.1.1.1.1.1.1.1.1.0, (n.1.1.1.1.1.1.1.1.1.0, tt))))))))

  numbered : number_check (crossing f) ≡ none
  numbered = n.1.1.1.1.1.1.1.1.1.1.0

  arriving : port_sound f.arriving ≡ true
  arriving = and_left (port_sound f.arriving) _ t

  leaving : port_sound f.leaving ≡ true
  leaving = and_left (port_sound f.leaving) _ (and_right (port_sound f.arriving) _ t)

  label : well_formed (arriving_label f.arriving f.area) ≡ true
  label = (arrival_held f.arriving f.area 9 arriving (reach_arrival f reached)).formed

  refused17 : first_of (forward_checks f) ≡ some (barred 17 9) → (forward_of f).number ≡ 17
  refused17 e = ap (λ (d : Decision). d.number) (sym (forward_refused f (barred 17 9) [] e).0) ∙ numbered17 (silenced f.facts)
    where
      numbered17 : (b : Bool) → (refused b (barred 17 9)).number ≡ 17
      numbered17 true = refl
      numbered17 false = refl

  abbrev inside : Bool
  inside = set_in_range (lowest_out f.leaving) (highest_out f.leaving) (leaving_level (crossing f)) (leaving_runs (crossing f))

  facing_out : inside ≡ false → (forward_of f).number ≡ 17
  facing_out g = refused17 (forward_range f a.0 long t reached numbered g)

  facing_in : inside ≡ true → ((forward_of f).number ≡ 0) × ((forward_of f).label ≡ f.leaving.default)
  facing_in g =
      let d = default_is (crossing f) label leaving o g in
      let room : (ltb 120 (length (leaving_runs (crossing f))) || no_room (leaving_option (crossing f)) (kept_of f.area)) ≡ false =
      rw (le-ltb 120 (length (leaving_runs (crossing f))) d.few, leaving_none (crossing f) o, le-ltb 40 (0 + length (kept_of f.area)) (omega (arith, kept_fits f.area a.0))) in
      let e = forward_none f a.0 long t reached numbered g room in
      let q = (forward_done f [] [] e (leaving_none (crossing f) o)).0 in
      (ap (λ (z : Decision). z.number) q, ap (λ (z : Decision). z.label) q ∙ d.label)

  domain_kept : (crossing f).label.domain ≡ (crossing f).domain
  domain_kept = (arrival_held f.arriving f.area 9 arriving (reach_arrival f reached)).domain

  table_checked : (f.arriving.domain ≡ f.leaving.domain → ⊥) → table_sound f.table f.levels ≡ true
  table_checked h = rw (ne_eqb _ _ h) at (and_right (port_sound f.leaving) _ (and_right (port_sound f.arriving) _ t))

  -- in range: the label is the default one
  default_becomes : inside ≡ true → Becomes f f.leaving.default
  unfolding leaving_check
  default_becomes g =
      let d = default_is (crossing f) label leaving o g in
      let crossed_all : first_of (crossing_checks (crossing f)) ≡ none = rw (numbered, g, le-ltb 120 (length (leaving_runs (crossing f))) d.few) in
      record {
        stays = λ s. sym (label_stays (crossing f) label domain_kept leaving s) ∙ d.label;
        numbered = λ h.
            let far = (crossed_carried (crossing f) label domain_kept leaving (table_checked h) (crossed (crossing f) (ne_eqb _ _ h) crossed_all)).far in
            subst (λ (m : Label). Far (crossing f).label f.table f.levels m) d.label far;
      }

  -- the default label is in range
  default_inside : Becomes f f.leaving.default → inside ≡ true
  unfolding leaving_check
  default_inside b = not_false_yes _ (when_none _ (barred 17 9) (first_none (crossing_checks (crossing f)) (all (same_domain f) refl)).1.0)
    where
      out : in_range (lowest_out f.leaving) (highest_out f.leaving) f.leaving.default ≡ true
      out = rw o (default_in f.leaving f.leaving.default ((sound f.leaving leaving).unlabelled o) refl)

      all : (e : Bool) → same_domain f ≡ e → first_of (crossing_checks (crossing f)) ≡ none
      all true e =
          let d : f.arriving.domain ≡ f.leaving.domain = eqb-true _ _ e in
          stays_inside (crossing f) label domain_kept leaving d (ap (in_range (lowest_out f.leaving) (highest_out f.leaving)) (b.stays d) ∙ out)
      all false e =
          let d : (f.arriving.domain ≡ f.leaving.domain → ⊥) = eqb-false _ _ e in
          let has = numbers (crossing f) e numbered in
          let from : f.table.from ≡ f.arriving.domain = eqb-true _ _ (and_left (eqb f.table.from f.arriving.domain) _ has) in
          let to : f.table.to ≡ f.leaving.domain = eqb-true _ _ (and_left (eqb f.table.to f.leaving.domain) _ (and_right (eqb f.table.from f.arriving.domain) _ has)) in
          far_inside f label domain_kept leaving (table_checked d) d from to f.leaving.default out (b.numbered d)

  facing_all : (((forward_of f).number ≡ 0) ↔ Becomes f f.leaving.default) × ((Becomes f f.leaving.default → ⊥) → (forward_of f).number ≡ 17) × ((forward_of f).number ≡ 0 → (forward_of f).label ≡ f.leaving.default)
  facing_all = by inside refl
    where
      by : (b : Bool) → inside ≡ b
          → (((forward_of f).number ≡ 0) ↔ Becomes f f.leaving.default) × ((Becomes f f.leaving.default → ⊥) → (forward_of f).number ≡ 17) × ((forward_of f).number ≡ 0 → (forward_of f).label ≡ f.leaving.default)
      by false g =
          let z = facing_out g in
          ((λ e. absurd (omega arith), λ b. absurd (never (sym (default_inside b) ∙ g))), λ h. z, λ e. absurd (omega arith))
      by true g = ((λ e. default_becomes g, λ b. (facing_in g).0), λ h. absurd (h (default_becomes g)), λ e. (facing_in g).1)

-- Delivering.

one : ◌≡◌ {A = ℕ} 1 0 → ⊥
one z = omega arith

two : ◌≡◌ {A = ℕ} 2 0 → ⊥
two z = omega arith

fifteen : ◌≡◌ {A = ℕ} 15 0 → ⊥
fifteen z = omega arith

deliver_real : (d : Delivery) → Real (first_of (deliver_checks d))
unfolding delivery_sizes delivery_records host_check
deliver_real d =
    subst Real (sym (first_append (delivery_sizes d ∷ delivery_records d ∷ []) (arrival_checks d.port d.area 10 ++ (host_check d ∷ []))))
    (real_else (first_of (delivery_sizes d ∷ delivery_records d ∷ [])) _
    (real_first (delivery_sizes d ∷ delivery_records d ∷ []) (real_when (bad_area d.area) (silent 1) one, (real_when (not (port_sound d.port && host_sound d.host d.port.domain)) (silent 2) two, tt)))
    (subst Real (sym (first_append (arrival_checks d.port d.area 10) (host_check d ∷ [])))
    (real_else (first_of (arrival_checks d.port d.area 10)) _ (arrival_real d.port d.area 10)
    (real_first (host_check d ∷ []) (real_when (not (in_range d.host.lowest d.host.highest (arriving_label d.port d.area))) (barred 15 10) fifteen, tt)))))

pub delivered_passes : (d : Delivery) → (deliver_of d).number ≡ 0 → first_of (deliver_checks d) ≡ none
unfolding deliver_of
delivered_passes d e = decided_none (silenced d.facts) (first_of (deliver_checks d)) _ _ (deliver_real d) e

passes_delivered : (d : Delivery) → first_of (deliver_checks d) ≡ none → (deliver_of d).number ≡ 0
unfolding deliver_of
passes_delivered d e = rw e

pub delivered_conditions : (d : Delivery) → Octets d.area → first_of (deliver_checks d) ≡ none → Delivers d (arriving_label d.port d.area)
unfolding delivery_sizes delivery_records host_check
delivered_conditions d oct e =
    let n = first_none (deliver_checks d) e in
    let t : (port_sound d.port && host_sound d.host d.port.domain) ≡ true = not_false_yes _ (when_none _ (silent 2) n.1.0) in
    let p = and_left (port_sound d.port) _ t in
    let a : first_of (arrival_checks d.port d.area 10) ≡ none = none_first (arrival_checks d.port d.area 10) (n.1.1.0, (n.1.1.1.0, (n.1.1.1.1.0, (n.1.1.1.1.1.0, (n.1.1.1.1.1.1.0, (n.1.1.1.1.1.1.1.0, (n.1.1.1.1.1.1.1.1.0, tt))))))) in
    record {
      area = area_sound d.area (when_none _ (silent 1) n.0);
      port = p;
      host = and_right (port_sound d.port) _ t;
      label = passed_label d.port d.area 10 oct p a;
      basic = basic_arrives d.port d.area 10 oct p a;
      arrives = (arrival_held d.port d.area 10 p a).within;
      held = not_false_yes _ (when_none _ (barred 15 10) n.1.1.1.1.1.1.1.1.1.0);
    }

pub conditions_delivered : (d : Delivery) (l : Label) → Delivers d l → deliver_of d ≡ decision.done l 0
conditions_delivered d l h =
    let r = label_reads d.port d.area l h.label in
    let u = arrives_unbarred d.port d.area 10 r.sound.0 r.sound.1 r.sound.2 h.port h.basic in
    sym
    (deliver_done d (sound_area d.area h.area) h.port h.host (label_arrives d.port d.area 10 l r u h.arrives) (rw r.label h.held))
    ∙ ap (λ (z : Label). decision.done z 0) r.label

pub demand2 : Demand2
demand2 =
    record {
      only = λ f oct e.
          (let p = forward_passed f (forwarded_passes f e) in
          ((crossing f).label, leaving_label (crossing f), p.fits.octets, passed_forwards f p oct));
      always = λ f l m s out h. forwards_done f l m s h out;
      facing = facing_all;
      delivered = λ d oct e. (arriving_label d.port d.area, delivered_conditions d oct (delivered_passes d e));
      delivers = conditions_delivered;
      exactly = λ d. (λ e. first_none (deliver_checks d) (delivered_passes d e), λ n. passes_delivered d (none_first (deliver_checks d) n));
    }
