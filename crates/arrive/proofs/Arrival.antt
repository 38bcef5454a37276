-- Laws of checks 3 to 14 and 23: the walk, the option and the arriving port's range.
use mathlib.Core.Path.{◌≡◌, refl, sym, ◌∙◌, ap, subst}
use mathlib.Core.Bool.{Bool, true, false, cond, not, ◌||◌, true≢false}
use mathlib.Core.List.{List, [], ◌∷◌, ◌++◌}
use mathlib.Core.Option.{Option, none, some}
use Prim.Native.Nat.{ℕ, ◌+◌, ◌%◌, ◌≤◌}
use native.Mathlib.Omega.{arith}
use lib.Dec.{ltb, eqb}
use lib.ListN.{length, get_or, take}
use mathlib.Core.Logic.{⊎_elim}
use borrow.Author.Tests.{eqb-false, eq-eqb, ne_eqb, le-ltb, ltb-false}
use Rattle.label.specs.declared.Run.{Run}
use Rattle.label.specs.declared.Label.{Label}
use Rattle.label.specs.Label.{used, well_formed, leq, in_range}
use Rattle.label_keys.specs.Keys.{key_runs, with_keys}
use Rattle.label.proofs.Bools.{and_left}
use Rattle.label.proofs.Labels.{leq_says, used_of}
use Rattle.option.specs.Option.{Octets}
use Rattle.option_read.specs.Reading.{Reading}
use Rattle.option_read.specs.Keys.{KeyReading}
use Rattle.option_read.specs.Reading.{framed, reading_for}
use Rattle.option_read.specs.Keys.{keyed, labelled, key_reading_for, ReadsKeys}
use Rattle.option_read.proofs.Checks.{parts_framed}
use Rattle.option_read.proofs.Theorems.{reads}
use Rattle.option_slack.specs.Strict.{stops_slack}
use Rattle.option_slack.proofs.Strict.{strict_else, strict_stops}
use Rattle.std.specs.Prelude.{Ok, Err, Some, None, is_none}
use Rattle.area.specs.Kinds.{Place, Walk, places, fault}
use Rattle.area.specs.declared.Kind.TheVariants.{Cipso}
use Rattle.area.specs.Area.{bad_area, walk_of, octets_at, WholeAt}
use Rattle.area.proofs.KindLaws.{cipso_octet}
use Rattle.area.proofs.Laws.{area_refused, off_nowhere, whole_inside}
use Rattle.basic.specs.declared.Way.{Way}
use Rattle.basic.specs.declared.BasicReading.{BasicReading}
use Rattle.basic.specs.Alone.{BasicRead, basic_reading}
use Rattle.basic.specs.Settings.{passes_way, passes_read}
use Rattle.port.specs.declared.Port.{Port}
use Rattle.port.specs.Port.{port_sound}
use Rattle.port.proofs.Laws.{sound}
use Rattle.decision.specs.declared.Refusal.{Refusal}
use Rattle.arrive.specs.Checks.{faulty, barred, when, first_of, walk_at, walk_refusal, walk_check, place_in, basic_in, option_at, read_at, required_by, required_check, option_by, option_check, bad_basic_by, bad_basic_check, arriving_basic, missing_basic_by, missing_basic_check, basic_passes, basic_range_check, label_by, arriving_label, range_check, arrival_checks}
use Rattle.decision.specs.Verdict.{Verdict, passed_with, verdict_of, stopped, going}
use Rattle.arrive.specs.Verdict.{arrival_of, arrival_keys, Arrives}
use Rattle.arrive.specs.Stages.{place_checks, basic_checks, is_open, instead_of, before_range, held_between, ArrivesAt}
use Rattle.arrive.proofs.Pointer.{reading_pointer, strict_number}
use Rattle.arrive.proofs.First.{first_append, Real, late_else, Late, late_first, late_when, late_real, Early, AllEarly, early_first, early_when, between, before_none, before_ok, first_none, when_none, not_false_yes}
use Rattle.arrive.proofs.Verdicts.{held_in_range, label_stands}

-- The walk's answer decides which checks are left.
pub arrival_refused : (p : Port) (area : List ℕ) (code n at : ℕ) → walk_at p area ≡ Err (fault n at) → first_of (arrival_checks p area code) ≡ some (faulty n at)
unfolding walk_check
arrival_refused p area code n at e = rw e

-- by place: 6 to 13 with 23, and then 19 to 21 before 14
abbrev label_checks : Place → Port → List ℕ → List (Option Refusal)
label_checks l p area = required_by l p ∷ option_by l p area ∷ []

abbrev out_of_range : Place → Port → List ℕ → Bool
out_of_range l p area = not (in_range p.lowest p.highest (label_by l p area))

pub arrival_placed : (p : Port) (area : List ℕ) (code : ℕ) (l b : Place) → walk_at p area ≡ Ok (places l b)
    → (first_of (arrival_checks p area code)
    ≡ first_of (label_checks l p area ++ (basic_checks b p.basic.on p.basic.receiving area code ++ (when (out_of_range l p area) (barred 14 code) ∷ []))))
    × (arriving_label p area ≡ label_by l p area)
unfolding walk_check required_check option_check bad_basic_check missing_basic_check basic_range_check arriving_basic range_check arriving_label
arrival_placed p area code l b e = (rw e, rw e)

-- Every refusal has a number, 3 or above, and those before the range have not 14.

walk_late : (on : Bool) (area : List ℕ) (w : Walk) → walk_of on area ≡ w → Late (walk_refusal w)
walk_late on area (Ok m) e = tt
walk_late on area (Err r) e = (area_refused on area r.number r.at e).0

walk_early : (on : Bool) (area : List ℕ) (w : Walk) → walk_of on area ≡ w → Early (walk_refusal w)
walk_early on area (Ok m) e = tt
walk_early on area (Err r) e =
    let q = area_refused on area r.number r.at e in
    λ z. omega (arith, q.1)

module _ (p : Port) (area : List ℕ) where
  option_in : (i : ℕ) → (b : Bool) → eqb (read_at p (option_at i area)).number 0 ≡ b
      → let o = when (not b) (faulty (read_at p (option_at i area)).number (i + (read_at p (option_at i area)).pointer)) in
      Late o × Early o
  option_in i true e = (tt, tt)
  option_in i false e =
      ⊎_elim (λ n. (omega (arith, n.0), λ z. omega (arith, n.1))) (λ n. (omega (arith, n), λ z. omega (arith, n)))
      (strict_number p.strict p.domain (option_at i area) (eqb-false _ _ e))

  option_late : (q : Place) → Late (option_by q p area) × Early (option_by q p area)
  option_late None = (tt, tt)
  option_late (Some i) = option_in i (eqb (read_at p (option_at i area)).number 0) refl

required_late : (q : Place) (p : Port) → Late (required_by q p) × Early (required_by q p)
required_late None p = (late_when p.required _ (omega arith), early_when p.required _ (λ z. omega arith))
required_late (Some i) p = (tt, tt)

bad_late : (b : Place) (area : List ℕ) → Late (bad_basic_by b area) × Early (bad_basic_by b area)
bad_late None area = (tt, tt)
bad_late (Some i) area =
    let c : Bool = is_none (basic_reading (option_at i area)) in
    (late_when c (faulty 19 i) (omega arith), early_when c (faulty 19 i) (λ z. omega arith))

missing_late : (o : Option (List ℕ)) (on : Bool) → Late (missing_basic_by o on) × Early (missing_basic_by o on)
missing_late none on = (late_when on _ (omega arith), early_when on _ (λ z. omega arith))
missing_late (some o) on = (tt, tt)

range_late : (b : Bool) (code : ℕ) → Late (when b (barred 21 code)) × Early (when b (barred 21 code))
range_late b code = (late_when b (barred 21 code) (omega arith), early_when b (barred 21 code) (λ z. omega arith))

fourteen : ◌≤◌ 3 14
fourteen = omega arith

-- the checks before the range
abbrev pub before_checks : Port → List ℕ → ℕ → List (Option Refusal)
before_checks p area code =
    walk_check p area
    ∷ required_check p area
    ∷ option_check p area
    ∷ bad_basic_check p area
    ∷ missing_basic_check p area
    ∷ basic_range_check p area code
    ∷ []

pub arrival_early : (p : Port) (area : List ℕ) (code : ℕ) → AllEarly (before_checks p area code)
unfolding walk_check required_check option_check bad_basic_check missing_basic_check basic_range_check
arrival_early p area code = (
  walk_early p.basic.on area (walk_at p area) refl,
  (
    (required_late (place_in (walk_at p area)) p).1,
    (
      (option_late p area (place_in (walk_at p area))).1,
      (
        (bad_late (basic_in (walk_at p area)) area).1,
        ((missing_late (arriving_basic p area) p.basic.on).1, ((range_late (not (basic_passes p.basic.on p.basic.receiving (arriving_basic p area))) code).1, tt)),
      ),
    ),
  ),
)

pub before_late : (p : Port) (area : List ℕ) (code : ℕ) → Late (first_of (before_checks p area code))
unfolding walk_check required_check option_check bad_basic_check missing_basic_check basic_range_check
before_late p area code =
    late_first (before_checks p area code) (
      walk_late p.basic.on area (walk_at p area) refl,
      (
        (required_late (place_in (walk_at p area)) p).0,
        (
          (option_late p area (place_in (walk_at p area))).0,
          (
            (bad_late (basic_in (walk_at p area)) area).0,
            ((missing_late (arriving_basic p area) p.basic.on).0, ((range_late (not (basic_passes p.basic.on p.basic.receiving (arriving_basic p area))) code).0, tt)),
          ),
        ),
      ),
    )

pub arrival_late : (p : Port) (area : List ℕ) (code : ℕ) → Late (first_of (arrival_checks p area code))
unfolding range_check
arrival_late p area code =
    subst Late (sym (first_append (before_checks p area code) (range_check p area code ∷ [])))
    (late_else (first_of (before_checks p area code)) (first_of (range_check p area code ∷ [])) (before_late p area code)
    (late_first (range_check p area code ∷ []) (late_when (not (in_range p.lowest p.highest (arriving_label p area))) (barred 14 code) fourteen, tt)))

pub arrival_real : (p : Port) (area : List ℕ) (code : ℕ) → Real (first_of (arrival_checks p area code))
arrival_real p area code = late_real (first_of (arrival_checks p area code)) (arrival_late p area code)

-- A label that has passed is in the port's range, so it is well formed and of the port's domain.
pub record Held (p : Port) (l : Label) : Type 0 where
  pub within : in_range p.lowest p.highest l ≡ true
  pub formed : well_formed l ≡ true
  pub domain : l.domain ≡ p.domain

pub in_range_held : (p : Port) (l : Label) → port_sound p ≡ true → in_range p.lowest p.highest l ≡ true → Held p l
unfolding in_range
in_range_held p l s e =
    let a = leq_says p.lowest l (and_left (leq p.lowest l) _ e) in
    record { within = e; formed = a.second; domain = sym a.domain ∙ (sound p s).range.low_domain }

pub arrival_held : (p : Port) (area : List ℕ) (code : ℕ) → port_sound p ≡ true → first_of (arrival_checks p area code) ≡ none → Held p (arriving_label p area)
unfolding range_check
arrival_held p area code s e =
    let a = first_none (arrival_checks p area code) e in
    in_range_held p (arriving_label p area) s (not_false_yes _ (when_none _ _ a.1.1.1.1.1.1.0))

-- The option at its place.

-- an option 134 that stands in the area: its length octet says how long it is
pub record Framed (area : List ℕ) (at : ℕ) : Type 0 where
  pub inside : at + get_or area (at + 1) 0 ≤ length area
  pub least : 2 ≤ get_or area (at + 1) 0
  pub size : length (option_at at area) ≡ get_or area (at + 1) 0
  pub framed : framed (option_at at area) ≡ true

pub placed_framed : (area : List ℕ) (at : ℕ) → WholeAt Cipso area at → Framed area at
placed_framed area at o =
    let i = whole_inside Cipso area at o in
    record {
      inside = i.inside;
      least = i.least;
      size = i.size;
      framed = parts_framed (option_at at area) (record { long = omega (arith, i.least, i.size); kind = cipso_octet (get_or (option_at at area) 0 0) i.first; size = i.second });
    }

-- the checks of an option, by what was read, at a port that may be strict and for its domain
abbrev read_checks : Port → ℕ → ℕ → Reading → Reading → List (Option Refusal)
read_checks p at code x y =
    none
    ∷ when (not (eqb x.number 0)) (faulty x.number (at + x.pointer))
    ∷ when (not (in_range p.lowest p.highest y.label)) (barred 14 code)
    ∷ []

-- Reading the option there: its slice is the option, its refusal is that of the checks, and its label is held against the range.
module _ (p : Port) (area : List ℕ) (at code : ℕ) (r : Reading) (is : r ≡ reading_for p.domain (option_at at area)) where
  -- whether 23 decides
  stops_is : (b : Bool) → stops_slack p.strict r.number (option_at at area) ≡ b → stops_slack p.strict (reading_for p.domain (option_at at area)).number (option_at at area) ≡ b
  stops_is b e = rw (← is) e

  pub read_slack : stops_slack p.strict r.number (option_at at area) ≡ true
      → first_of (place_checks (Some at) p area code) ≡ some (faulty 23 (at + 10))
  read_slack e =
      ap (λ (x : Reading). first_of (read_checks p at code x (reading_for p.domain (option_at at area))))
      (strict_stops p.strict p.domain (option_at at area) (stops_is true e))

  module _ (passed : stops_slack p.strict r.number (option_at at area) ≡ false) where
    checks_are : first_of (place_checks (Some at) p area code) ≡ first_of (read_checks p at code r r)
    checks_are =
        ap (λ (x : Reading). first_of (read_checks p at code x (reading_for p.domain (option_at at area))))
        (strict_else p.strict p.domain (option_at at area) (stops_is false passed))
        ∙ ap (λ (x : Reading). first_of (read_checks p at code x x)) (sym is)

    pub read_refused : (r.number ≡ 0 → ⊥) → first_of (place_checks (Some at) p area code) ≡ some (faulty r.number (at + r.pointer))
    read_refused h = checks_are ∙ rw (ne_eqb r.number 0 h)

    pub read_outside : r.number ≡ 0 → in_range p.lowest p.highest r.label ≡ false → first_of (place_checks (Some at) p area code) ≡ some (barred 14 code)
    read_outside h e = checks_are ∙ rw (eq-eqb r.number 0 h, e)

    pub read_inside : r.number ≡ 0 → in_range p.lowest p.highest r.label ≡ true
        → (first_of (place_checks (Some at) p area code) ≡ none) × (label_by (Some at) p area ≡ r.label)
    read_inside h e = (checks_are ∙ rw (eq-eqb r.number 0 h, e), ap (λ (x : Reading). x.label) (sym is))

  pub read_formed : WholeAt Cipso area at → Octets (option_at at area) → port_sound p ≡ true → r.number ≡ 0 → well_formed r.label ≡ true
  read_formed o oct s h =
      let m = (reads.for p.domain).means (option_at at area) oct (placed_framed area at o).framed (sound p s).owned (ap (λ (x : Reading). x.number) (sym is) ∙ h) in
      ap (λ (x : Reading). well_formed x.label) is ∙ m.label

  pub read_points : WholeAt Cipso area at → length area ≤ 40 → r.pointer ≤ 50
  read_points o h =
      let f = placed_framed area at o in
      let q : r.pointer ≤ length (option_at at area) + 10 = rw is (reading_pointer p.domain (option_at at area)) in
      omega (arith, f.size, f.inside)

-- The option is read into keys: what is answered, and what the keys hold.
module _ (p : Port) (area keys keys' : List ℕ) (at code : ℕ) (r : KeyReading)
    (is : ReadsKeys p.domain (option_at at area) keys keys' r) (room : 120 ≤ length keys) where
  abbrev whole : Reading
  whole = labelled p.domain r keys'

  abbrev rs : List Run
  rs = key_runs (take r.count keys')

  answer_is : r ≡ keyed (reading_for p.domain (option_at at area))
  unfolding key_reading_for
  answer_is = rw (le-ltb (length keys) 120 room) at is.answer

  -- whether 23 decides
  abbrev stops : Bool
  stops = stops_slack p.strict r.number (option_at at area)

  pub keys_slack : stops ≡ true → ArrivesAt (Some at) p area code keys keys' (stopped 23 12 0 (20 + (at + 10)))
  keys_slack e =
      record {
        answer = ap (λ (o : Option Refusal). verdict_of o (label_by (Some at) p area).level (label_by (Some at) p area).count) (sym (read_slack p area at code whole (is.reading room) e));
        left = is.left;
        stands = tt;
      }

  pub keys_refused : stops ≡ false → (r.number ≡ 0 → ⊥) → ArrivesAt (Some at) p area code keys keys' (stopped r.number 12 0 (20 + (at + r.pointer)))
  keys_refused passed h =
      record {
        answer = ap (λ (o : Option Refusal). verdict_of o (label_by (Some at) p area).level (label_by (Some at) p area).count) (sym (read_refused p area at code whole (is.reading room) passed h));
        left = is.left;
        stands = tt;
      }

  pub keys_point : WholeAt Cipso area at → length area ≤ 40 → r.pointer ≤ 50
  keys_point o h = read_points p area at code whole (is.reading room) o h

  module _ (o : WholeAt Cipso area at) (oct : Octets (option_at at area)) (s : port_sound p ≡ true) (z : r.number ≡ 0) where
    formed_is : well_formed whole.label ≡ true
    formed_is = read_formed p area at code whole (is.reading room) o oct s z

    used_is : used whole.label ≡ rs
    used_is = used_of (cond (eqb r.number 0) p.domain 0) r.level rs

    owner_is : whole.label.domain ≡ p.domain
    owner_is = rw (eq-eqb r.number 0 z)

    held_is : held_between p.lowest p.highest (passed_with r.level r.count) keys' ≡ in_range p.lowest p.highest whole.label
    held_is =
        let g = (sound p s).range in
        held_in_range p.lowest p.highest whole.label (passed_with r.level r.count) keys' g.low_formed g.high_formed formed_is
        (g.low_domain ∙ sym owner_is) (owner_is ∙ sym g.high_domain) refl (sym used_is)

    pub keys_held : stops ≡ false → (b : Bool) → held_between p.lowest p.highest (passed_with r.level r.count) keys' ≡ b
        → ArrivesAt (Some at) p area code keys keys' (cond b (going r.level r.count) (stopped 14 3 code 0))
    keys_held passed true e =
        record {
          answer = ap (λ (x : KeyReading). going x.level x.count) answer_is
              ∙ ap (λ (o : Option Refusal). verdict_of o (label_by (Some at) p area).level (label_by (Some at) p area).count) (sym (read_inside p area at code whole (is.reading room) passed z (sym held_is ∙ e)).0);
          left = is.left;
          stands = sym used_is ∙ ap (λ (x : Reading). used x.label) (is.reading room);
        }
    keys_held passed false e =
        record {
          answer = ap (λ (o : Option Refusal). verdict_of o (label_by (Some at) p area).level (label_by (Some at) p area).count) (sym (read_outside p area at code whole (is.reading room) passed z (sym held_is ∙ e)));
          left = is.left;
          stands = tt;
        }

-- No option: 6, or the assigned label, which is in the range of a sound port.
pub none_required : (p : Port) (area keys : List ℕ) (code : ℕ) → p.required ≡ true → ArrivesAt None p area code keys keys (stopped 6 12 1 134)
none_required p area keys code e = record { answer = rw e; left = rw e; stands = tt }

pub none_assigned : (p : Port) (area keys keys' : List ℕ) (code : ℕ) → port_sound p ≡ true → p.required ≡ false → 120 ≤ length keys → keys' ≡ with_keys p.assigned keys
    → ArrivesAt None p area code keys keys' (going p.assigned.level p.assigned.count)
none_assigned p area keys keys' code s e h w =
    record {
      answer = rw (e, (sound p s).assigned e);
      left = rw e w;
      stands = rw w (label_stands p.assigned keys ((sound p s).assigned_formed e) h);
    }

-- A port that does not read option 130 meets none.
pub off_none : (p : Port) (area : List ℕ) → p.basic.on ≡ false → arriving_basic p area ≡ none
unfolding arriving_basic
off_none p area e = go (walk_at p area) refl
  where
    go : (w : Walk) → walk_at p area ≡ w → octets_at (basic_in w) area ≡ none
    go (Ok m) g = rw (off_nowhere area m.label m.basic (ap (λ (t : Bool). walk_of t area) (sym e) ∙ g))
    go (Err r) g = refl

-- One that does meets the option that a walk with it read meets.
pub on_some : (p : Port) (area o : List ℕ) → p.basic.on ≡ true → arriving_basic p area ≡ some o → octets_at (basic_in (walk_of true area)) area ≡ some o
unfolding arriving_basic
on_some p area o e g = ap (λ (t : Bool). octets_at (basic_in (walk_of t area)) area) (sym e) ∙ g

-- What 19 to 21 answer, return by return.
pub open_closed : (r : Verdict) (o : Option Refusal) → is_open r ≡ false → r ≡ before_range r o
open_closed r o e = sym (ap (λ (b : Bool). cond b (instead_of r o) r) e)

module _ (r : Verdict) (way : Way) (area : List ℕ) (code : ℕ) (asked : is_open r ≡ true) where
  answered_by : (b : Place) (o : Option Refusal) → first_of (basic_checks b true way area code) ≡ o
      → instead_of r o ≡ before_range r (first_of (basic_checks b true way area code))
  answered_by b o e = sym (ap (λ (t : Bool). cond t (instead_of r (first_of (basic_checks b true way area code))) r) asked ∙ ap (instead_of r) e)

  pub basic_missing : stopped 20 12 1 130 ≡ before_range r (first_of (basic_checks None true way area code))
  basic_missing = answered_by None _ refl

  module _ (at : ℕ) where
    abbrev by_reading : BasicRead → Option Refusal
    by_reading y = first_of (when (is_none y) (faulty 19 at) ∷ none ∷ when (not (passes_read way y)) (barred 21 code) ∷ [])

    pub basic_bad_lem : basic_reading (option_at at area) ≡ None → stopped 19 12 0 (20 + at) ≡ before_range r (first_of (basic_checks (Some at) true way area code))
    basic_bad_lem h = answered_by (Some at) (some (faulty 19 at)) (ap by_reading h)

    module _ (x : BasicReading) (is : basic_reading (option_at at area) ≡ Some x) where
      pub basic_outside : passes_way way x.level x.flags ≡ false → stopped 21 3 code 0 ≡ before_range r (first_of (basic_checks (Some at) true way area code))
      basic_outside e = answered_by (Some at) (some (barred 21 code)) (ap by_reading is ∙ rw e)

      pub basic_passes_lem : passes_way way x.level x.flags ≡ true → r ≡ before_range r (first_of (basic_checks (Some at) true way area code))
      basic_passes_lem e = answered_by (Some at) none (ap by_reading is ∙ rw e)

-- 19 to 21 at equal places
pub checks_at : (r : Verdict) (way : Way) (area : List ℕ) (code : ℕ) (p q : Place) → p ≡ q
    → before_range r (first_of (basic_checks q true way area code)) ≡ before_range r (first_of (basic_checks p true way area code))
checks_at r way area code p q e = sym (ap (λ (x : Place). before_range r (first_of (basic_checks x true way area code))) e)

-- Checks 1 and 2, and then those of the walk.
module _ (p : Port) (area keys : List ℕ) (code : ℕ) where
  pub port_sized : (bad_area area || ltb (length keys) 120) ≡ true → Arrives p area code keys keys (stopped 1 0 0 0)
  unfolding arrival_of arrival_keys
  port_sized e = record { answer = rw e; left = rw e; stands = tt }

  module _ (sized : (bad_area area || ltb (length keys) 120) ≡ false) where
    pub port_unsound : port_sound p ≡ false → Arrives p area code keys keys (stopped 2 0 0 0)
    unfolding arrival_of arrival_keys
    port_unsound e = record { answer = rw (sized, e); left = rw (sized, e); stands = tt }

    module _ (s : port_sound p ≡ true) where
      pub port_walked : (n at : ℕ) → walk_at p area ≡ Err (fault n at) → Arrives p area code keys keys (stopped n 12 0 (20 + at))
      unfolding arrival_of arrival_keys
      port_walked n at e =
          record {
            answer = rw (sized, s, arrival_refused p area code n at e);
            left = rw (sized, s, e);
            stands = tt;
          }

      -- what 6 to 13, 23 and 14 answered, with 19 to 21 between
      pub port_placed : (l b : Place) (keys' : List ℕ) (r : Verdict) → walk_at p area ≡ Ok (places l b) → ArrivesAt l p area code keys keys' r
          → Arrives p area code keys keys' (before_range r (first_of (basic_checks b p.basic.on p.basic.receiving area code)))
      unfolding arrival_of arrival_keys
      port_placed l b keys' r e w =
          let a = arrival_placed p area code l b e in
          let v = (label_by l p area).level in
          let n = (label_by l p area).count in
          let early = early_first (label_checks l p area) ((required_late l p).1, ((option_late p area l).1, tt)) in
          let o = first_of (basic_checks b p.basic.on p.basic.receiving area code) in
          let g : before_range r o ≡ verdict_of (first_of (arrival_checks p area code)) v n =
          ap (λ (x : Verdict). before_range x o) w.answer
          ∙ between (label_checks l p area) (basic_checks b p.basic.on p.basic.receiving area code) (out_of_range l p area) code v n early
          ∙ ap (λ (x : Option Refusal). verdict_of x v n) (sym a.0) in
          record {
            answer = rw (sized, s, a.1) g;
            left = rw (sized, s, e) w.left;
            stands = before_ok r o _ (rw a.1 w.stands);
          }

      -- where the port does not read option 130 there is none
      pub port_off : (l b : Place) (keys' : List ℕ) (r : Verdict) → walk_at p area ≡ Ok (places l b) → p.basic.on ≡ false → ArrivesAt l p area code keys keys' r
          → Arrives p area code keys keys' r
      port_off l b keys' r e f w =
          let q : b ≡ None = off_nowhere area l b (ap (λ (x : Bool). walk_of x area) (sym f) ∙ e) in
          let o : first_of (basic_checks b p.basic.on p.basic.receiving area code) ≡ none = rw (q, f) in
          subst (Arrives p area code keys keys') (ap (before_range r) o ∙ before_none r) (port_placed l b keys' r e w)

      -- where it does, they are asked
      pub port_on : (l b : Place) (keys' : List ℕ) (r v : Verdict) → walk_at p area ≡ Ok (places l b) → p.basic.on ≡ true → ArrivesAt l p area code keys keys' r
          → v ≡ before_range r (first_of (basic_checks b true p.basic.receiving area code)) → Arrives p area code keys keys' v
      port_on l b keys' r v e f w g =
          subst (Arrives p area code keys keys')
          (ap (λ (t : Bool). before_range r (first_of (basic_checks b t p.basic.receiving area code))) f ∙ sym g)
          (port_placed l b keys' r e w)

-- an area past check 1 has at most 40 octets
pub area_short : (area : List ℕ) → bad_area area ≡ false → length area ≤ 40
area_short area e = go (ltb 40 (length area)) refl e
  where
    go : (b : Bool) → ltb 40 (length area) ≡ b → (b || not (eqb (length area % 4) 0)) ≡ false → length area ≤ 40
    go true p q = absurd (true≢false q)
    go false p q = ltb-false _ _ p
