-- Laws of an arrival at a port that is taken for sound, stage by stage, and that of a sound port it is the port's own checks.
use mathlib.Core.Path.{◌≡◌, refl, sym, ◌∙◌, ap, subst}
use mathlib.Core.Bool.{Bool, true, false, cond, not, ◌||◌}
use mathlib.Core.List.{List, [], ◌∷◌, ◌++◌, map}
use mathlib.Core.Option.{Option, none, some}
use Prim.Native.Nat.{ℕ, ◌+◌, ◌*◌, ◌/◌, ◌%◌, ◌≤◌, ◌<◌}
use native.Mathlib.Omega.{arith}
use lib.Dec.{ltb, eqb}
use lib.ListN.{length, take, drop, length-map}
use lib.Seq.{take_at}
use borrow.Author.Tests.{eq-eqb, ne_eqb, le-leb, lt-leb, le-ltb}
use Rattle.lists.specs.Lists.{copied}
use Rattle.lists.proofs.Laws.{copied_whole}
use Rattle.label.specs.declared.Run.{Run}
use Rattle.label.specs.declared.Label.{Label}
use Rattle.label.specs.Label.{used, label_of}
use Rattle.label.proofs.Labels.{used_of}
use Rattle.label_keys.specs.Keys.{key_run, key_runs, run_key, keys_fit, with_keys}
use Rattle.label_keys.specs.Range.{answered, look_of, runs_between}
use Rattle.option_read.specs.Reading.{Reading}
use Rattle.option_read.specs.Keys.{KeyReading}
use Rattle.option_read.specs.Reading.{reading_for}
use Rattle.option_read.specs.Keys.{keyed, labelled, key_reading_for, ReadsKeys}
use Rattle.option_slack.specs.Strict.{stops_slack}
use Rattle.option_slack.proofs.Strict.{strict_else, strict_stops}
use Rattle.std.specs.Prelude.{Ok, Err, Some, None}
use Rattle.area.specs.Kinds.{Place, Walk, places, fault}
use Rattle.area.specs.Area.{bad_area, walk_of}
use Rattle.area.proofs.Laws.{off_nowhere}
use Rattle.port.specs.declared.Port.{Port}
use Rattle.decision.specs.declared.Refusal.{Refusal}
use Rattle.decision.specs.Verdict.{Verdict, passed_with, verdict_of, stopped, going}
use Rattle.arrive.specs.Checks.{faulty, barred, when, first_of, walk_at, walk_check, place_in, option_at, read_at, required_by, required_check, option_by, option_check, bad_basic_check, arriving_basic, missing_basic_check, basic_range_check, label_by, arriving_label}
use Rattle.arrive.specs.Stages.{basic_checks, before_range, held_between}
use Rattle.arrive.proofs.First.{Early, early_first, between, before_none, before_ok}
use Rattle.arrive.proofs.Arrival.{arrival_early}
use Rattle.gate.specs.Acts.{label_between, outside, acts_checks, acts_of, acts_keys, Acts}
use Rattle.gate.specs.Stages.{place_acts, ActsAt}

-- 1. No option: 6, or the assigned label.

-- a key is that of its run
pub key_back : (ks : List ℕ) → map run_key (key_runs ks) ≡ ks
key_back [] = refl
key_back (k ∷ ks) =
    let e : k / 65536 * 65536 + k % 65536 ≡ k = omega arith in
    let t = key_back ks in
    λ i. e i ∷ t i

pub acts_required : (p : Port) (area keys : List ℕ) (code : ℕ) → p.required ≡ true → ActsAt None p area code keys keys (stopped 6 12 1 134)
acts_required p area keys code e = record { answer = rw e; left = rw e; stands = tt }

-- the assigned label, given by its keys
module _ (p : Port) (area keys : List ℕ) (code : ℕ) (d v : ℕ) (given : List ℕ) (is : p.assigned ≡ label_of d v (key_runs given)) (e : p.required ≡ false) (room : 120 ≤ length keys) where
  count_is : (label_of d v (key_runs given)).count ≡ length given
  count_is = length-map given key_run

  going_is : going v (length given) ≡ verdict_of (first_of (place_acts None p area code)) (label_by None p area).level (label_by None p area).count
  going_is = rw e ((λ i. going v (sym count_is i)) ∙ sym (ap (λ (l : Label). going l.level l.count) is))

  over_keys : 120 < length given → with_keys (label_of d v (key_runs given)) keys ≡ keys
  unfolding with_keys keys_fit
  over_keys h = rw (count_is, lt-leb (length given) 120 h)

  fit_keys : length given ≤ 120 → with_keys (label_of d v (key_runs given)) keys ≡ copied given keys
  unfolding with_keys keys_fit
  fit_keys h =
      rw (used_of d v (key_runs given), key_back given, count_is, le-leb (length given) 120 h, le-leb (length given) (length keys) (omega arith))
      (sym (copied_whole given keys (omega arith)))

  pub acts_over : 120 < length given → ActsAt None p area code keys keys (going v (length given))
  acts_over h =
      record {
        answer = going_is;
        left = rw (e, is) (sym (over_keys h));
        stands = λ w. absurd (omega (arith, rw (is, count_is) at w));
      }

  pub acts_assigned : (keys' : List ℕ) → length given ≤ 120 → keys' ≡ copied given keys → ActsAt None p area code keys keys' (going v (length given))
  acts_assigned keys' h w =
      record {
        answer = going_is;
        left = rw (e, is) (w ∙ sym (fit_keys h));
        stands = λ q.
            rw (is, used_of d v (key_runs given))
            (ap key_runs (ap (take (length given)) (w ∙ copied_whole given keys (omega arith)) ∙ take_at given (drop (length given) keys) (length given) refl));
      }

-- 2. The option is read into keys.
module _ (p : Port) (area keys keys' : List ℕ) (at code : ℕ) (r : KeyReading)
    (is : ReadsKeys p.domain (option_at at area) keys keys' r) (room : 120 ≤ length keys) where
  abbrev whole : Reading
  whole = labelled p.domain r keys'

  answer_is : r ≡ keyed (reading_for p.domain (option_at at area))
  unfolding key_reading_for
  answer_is = rw (le-ltb (length keys) 120 room) at is.answer

  reading_is : whole ≡ reading_for p.domain (option_at at area)
  reading_is = is.reading room

  -- the checks, by what was read at a port that may be strict and for its domain
  abbrev read_acts : Bool → Reading → Reading → Verdict
  read_acts out x y =
      verdict_of
      (first_of (none ∷ when (not (eqb x.number 0)) (faulty x.number (at + x.pointer)) ∷ when out (barred 14 code) ∷ []))
      y.label.level
      y.label.count

  -- whether 23 decides
  abbrev stops : Bool
  stops = stops_slack p.strict r.number (option_at at area)

  stops_is : (b : Bool) → stops ≡ b → stops_slack p.strict (reading_for p.domain (option_at at area)).number (option_at at area) ≡ b
  stops_is b e = rw (← reading_is) e

  pub acts_slack : stops ≡ true → ActsAt (Some at) p area code keys keys' (stopped 23 12 0 (20 + (at + 10)))
  acts_slack e =
      record {
        answer = sym
            (ap (λ (x : Reading). read_acts (outside (Some at) p area) x (reading_for p.domain (option_at at area)))
            (strict_stops p.strict p.domain (option_at at area) (stops_is true e)));
        left = is.left;
        stands = tt;
      }

  strict_is : stops ≡ false → read_at p (option_at at area) ≡ reading_for p.domain (option_at at area)
  strict_is e = strict_else p.strict p.domain (option_at at area) (stops_is false e)

  pub acts_refused : stops ≡ false → (r.number ≡ 0 → ⊥) → ActsAt (Some at) p area code keys keys' (stopped r.number 12 0 (20 + (at + r.pointer)))
  acts_refused passed h =
      let q : read_acts (outside (Some at) p area) whole whole ≡ stopped r.number 12 0 (20 + (at + r.pointer)) = rw (ne_eqb r.number 0 h) in
      record {
        answer = sym q ∙ ap (λ (x : Reading). read_acts (outside (Some at) p area) x x) reading_is
            ∙ sym (ap (λ (x : Reading). read_acts (outside (Some at) p area) x (reading_for p.domain (option_at at area))) (strict_is passed));
        left = is.left;
        stands = tt;
      }

  module _ (passed : stops ≡ false) (z : r.number ≡ 0) where
    used_is : used whole.label ≡ key_runs (take r.count keys')
    used_is = used_of (cond (eqb r.number 0) p.domain 0) r.level (key_runs (take r.count keys'))

    held_is : held_between p.lowest p.highest (passed_with r.level r.count) keys' ≡ label_between p.lowest p.highest (label_by (Some at) p area)
    held_is =
        ap (λ (rs : List Run). answered (look_of p.lowest p.highest r.level rs) (runs_between p.lowest p.highest rs)) (sym used_is)
        ∙ ap (λ (x : Reading). label_between p.lowest p.highest x.label) reading_is

    counted : going r.level r.count ≡ going (label_by (Some at) p area).level (label_by (Some at) p area).count
    counted = ap (λ (x : KeyReading). going x.level x.count) answer_is

    number_is : eqb (read_at p (option_at at area)).number 0 ≡ true
    number_is = ap (λ (x : Reading). eqb x.number 0) (strict_is passed ∙ sym reading_is) ∙ eq-eqb r.number 0 z

    pub acts_held : (b : Bool) → b ≡ held_between p.lowest p.highest (passed_with r.level r.count) keys'
        → ActsAt (Some at) p area code keys keys' (cond b (going r.level r.count) (stopped 14 3 code 0))
    acts_held true e =
        record {
          answer = counted ∙ sym (rw (number_is, sym (e ∙ held_is)));
          left = is.left;
          stands = λ h. sym used_is ∙ ap (λ (x : Reading). used x.label) reading_is;
        }
    acts_held false e =
        record {
          answer = sym (rw (number_is, sym (e ∙ held_is)));
          left = is.left;
          stands = tt;
        }

-- 3. Check 1, the walk, and 19 to 21 between.

pub acts_walk : (p : Port) (area : List ℕ) (code n at : ℕ) → walk_at p area ≡ Err (fault n at) → first_of (acts_checks p area code) ≡ some (faulty n at)
unfolding walk_check
acts_walk p area code n at e = rw e

pub acts_placed : (p : Port) (area : List ℕ) (code : ℕ) (l b : Place) → walk_at p area ≡ Ok (places l b)
    → (first_of (acts_checks p area code)
    ≡ first_of ((required_by l p ∷ option_by l p area ∷ []) ++ (basic_checks b p.basic.on p.basic.receiving area code ++ (when (outside l p area) (barred 14 code) ∷ []))))
    × (arriving_label p area ≡ label_by l p area)
unfolding walk_check required_check option_check bad_basic_check missing_basic_check basic_range_check arriving_basic arriving_label
acts_placed p area code l b e = (rw e, rw e)

label_early : (p : Port) (area : List ℕ) (code : ℕ) (l b : Place) → walk_at p area ≡ Ok (places l b) → Early (required_by l p) × Early (option_by l p area)
unfolding required_check option_check
label_early p area code l b e =
    let a = arrival_early p area code in
    (subst (λ (w : Walk). Early (required_by (place_in w) p)) e a.1.0, subst (λ (w : Walk). Early (option_by (place_in w) p area)) e a.1.1.0)

module _ (p : Port) (area keys : List ℕ) (code : ℕ) where
  pub acts_sized : (bad_area area || ltb (length keys) 120) ≡ true → Acts p area code keys keys (stopped 1 0 0 0)
  unfolding acts_of acts_keys
  acts_sized e = record { answer = rw e; left = rw e; stands = tt }

  module _ (sized : (bad_area area || ltb (length keys) 120) ≡ false) where
    pub acts_walked : (n at : ℕ) → walk_at p area ≡ Err (fault n at) → Acts p area code keys keys (stopped n 12 0 (20 + at))
    unfolding acts_of acts_keys
    acts_walked n at e =
        record {
          answer = rw (sized, acts_walk p area code n at e);
          left = rw (sized, e);
          stands = tt;
        }

    acts_between : (l b : Place) (keys' : List ℕ) (r : Verdict) → walk_at p area ≡ Ok (places l b) → ActsAt l p area code keys keys' r
        → Acts p area code keys keys' (before_range r (first_of (basic_checks b p.basic.on p.basic.receiving area code)))
    unfolding acts_of acts_keys
    acts_between l b keys' r e w =
        let a = acts_placed p area code l b e in
        let v = (label_by l p area).level in
        let n = (label_by l p area).count in
        let y = label_early p area code l b e in
        let early = early_first (required_by l p ∷ option_by l p area ∷ []) (y.0, (y.1, tt)) in
        let o = first_of (basic_checks b p.basic.on p.basic.receiving area code) in
        let g : before_range r o ≡ verdict_of (first_of (acts_checks p area code)) v n =
        ap (λ (x : Verdict). before_range x o) w.answer
        ∙ between (required_by l p ∷ option_by l p area ∷ []) (basic_checks b p.basic.on p.basic.receiving area code) (outside l p area) code v n early
        ∙ ap (λ (x : Option Refusal). verdict_of x v n) (sym a.0) in
        record {
          answer = rw (sized, a.1) g;
          left = rw (sized, e) w.left;
          stands = before_ok r o _ (rw a.1 w.stands);
        }

    -- where the port does not read option 130 there is none
    pub acts_off : (l b : Place) (keys' : List ℕ) (r : Verdict) → walk_at p area ≡ Ok (places l b) → p.basic.on ≡ false → ActsAt l p area code keys keys' r
        → Acts p area code keys keys' r
    acts_off l b keys' r e f w =
        let q : b ≡ None = off_nowhere area l b (ap (λ (x : Bool). walk_of x area) (sym f) ∙ e) in
        let o : first_of (basic_checks b p.basic.on p.basic.receiving area code) ≡ none = rw (q, f) in
        subst (Acts p area code keys keys') (ap (before_range r) o ∙ before_none r) (acts_between l b keys' r e w)

    -- where it does, they are asked
    pub acts_on : (l b : Place) (keys' : List ℕ) (r v : Verdict) → walk_at p area ≡ Ok (places l b) → p.basic.on ≡ true → ActsAt l p area code keys keys' r
        → v ≡ before_range r (first_of (basic_checks b true p.basic.receiving area code)) → Acts p area code keys keys' v
    acts_on l b keys' r v e f w g =
        subst (Acts p area code keys keys')
        (ap (λ (t : Bool). before_range r (first_of (basic_checks b t p.basic.receiving area code))) f ∙ sym g)
        (acts_between l b keys' r e w)
