-- Laws of a forwarding, return by return.
use mathlib.Core.Path.{◌≡◌, refl, sym, ◌∙◌, ap, subst}
use mathlib.Core.Bool.{Bool, true, false, cond, not, ◌&&◌, ◌||◌, true≢false}
use mathlib.Core.List.{List, [], ◌∷◌, ◌++◌}
use mathlib.Core.Option.{Option, none, some}
use Prim.Native.Nat.{ℕ, ◌+◌, ◌-◌, ◌≤◌, ◌<◌}
use native.Mathlib.Omega.{arith}
use lib.Dec.{ltb}
use lib.ListN.{length, drop, length-append, length-drop}
use lib.Seq.{take-append_seam, drop-drop, drop_at}
use borrow.Author.Tests.{le-leb, lt-ltb, le-ltb, ltb-false}
use Rattle.label.specs.declared.Label.{Label}
use Rattle.label.specs.Label.{well_formed, in_range}
use Rattle.label_keys.specs.Range.{set_in_range}
use Rattle.label.proofs.Bools.{and_left, and_right, or_none}
use Rattle.label.proofs.Labels.{used_of}
use Rattle.option.specs.Spelling.{spelling_of, spelled_of}
use Rattle.option_form.specs.Spelled.{length_of}
use Rattle.option_write.specs.Keys.{in_front}
use Rattle.area_leaving.specs.Kept.{kept_of, round_up, leaving_of, rest_count, rest_of}
use Rattle.area_leaving.proofs.Laws.{kept_most, rest_counted, rest_whole}
use Rattle.port.specs.Port.{port_sound, lowest_out, highest_out}
use Rattle.table.specs.Table.{table_sound}
use Rattle.decision.specs.declared.Refusal.{Refusal}
use Rattle.decision.specs.Decision.{silenced, refused, done}
use Rattle.area.specs.Area.{bad_area}
use Rattle.arrive.specs.Checks.{silent, barred, when, first_of, arriving_basic, basic_passes, arriving_label, range_check, arrival_checks}
use Rattle.arrive.proofs.First.{or_else, first_append, first_none, none_first, when_none, Real, real_first, real_when, not_false_yes, real_else, Late, late_first, late_when, late_real, late_else}
use Rattle.arrive.proofs.Arrival.{before_checks, before_late, arrival_held}
use Rattle.forward_rules.specs.Crossing.{Forwarding, same_domain, sizes, records, leaving_basic_check, Crossing, crossing, stays, has_numbers, number_check, leaving_level, leaving_runs, leaving_check, leaving_label, leaving_option, no_room, spelling_check, crossing_checks}
use Rattle.forward_rules.specs.Forward.{forward_checks, forward_of, output_of}
use Rattle.forward_rules.proofs.Crossings.{crossing_real, crossing_formed}

-- 18 is decided in two steps: on the runs, then on the spelling and the room.
split18 : (a b : Option Refusal) (c e : Bool) (r : Refusal) → first_of (a ∷ b ∷ when (c || e) r ∷ []) ≡ or_else (first_of (a ∷ b ∷ when c r ∷ [])) (when e r)
split18 (some x) b c e r = refl
split18 none (some x) c e r = refl
split18 none none true e r = refl
split18 none none false true r = refl
split18 none none false false r = refl

pub crossing_last : (x : Crossing) (kept : List ℕ)
    → first_of (number_check x ∷ leaving_check x ∷ spelling_check x kept ∷ []) ≡ or_else (first_of (crossing_checks x)) (when (no_room (leaving_option x) kept) (barred 18 9))
unfolding spelling_check
crossing_last x kept = split18 (number_check x) (leaving_check x) (ltb 120 (length (leaving_runs x))) (no_room (leaving_option x) kept) (barred 18 9)

-- the checks from the walk to the arriving port's range, with 21 of the leaving port among them
abbrev pub reach_checks : Forwarding → List (Option Refusal)
reach_checks f = before_checks f.arriving f.area 9 ++ (leaving_basic_check f ∷ range_check f.arriving f.area 9 ∷ [])

-- where none of them applies, none of the arriving port's does
pub reach_arrival : (f : Forwarding) → first_of (reach_checks f) ≡ none → first_of (arrival_checks f.arriving f.area 9) ≡ none
reach_arrival f e =
    let n = first_none (reach_checks f) e in
    none_first (arrival_checks f.arriving f.area 9)
    (n.0, (n.1.0, (n.1.1.0, (n.1.1.1.0, (n.1.1.1.1.0, (n.1.1.1.1.1.0, (n.1.1.1.1.1.1.1.0, tt)))))))

fourteen : ◌≤◌ 3 14
fourteen = omega arith

twenty_one : ◌≤◌ 3 21
twenty_one = omega arith

pub reach_late : (f : Forwarding) → Late (first_of (reach_checks f))
unfolding leaving_basic_check range_check
reach_late f =
    let o = leaving_basic_check f ∷ range_check f.arriving f.area 9 ∷ [] in
    subst Late (sym (first_append (before_checks f.arriving f.area 9) o))
    (late_else (first_of (before_checks f.arriving f.area 9)) (first_of o) (before_late f.arriving f.area 9)
    (late_first o (
      late_when (not (basic_passes f.leaving.basic.on f.leaving.basic.sending (arriving_basic f.arriving f.area))) (barred 21 9) twenty_one,
      (late_when (not (in_range f.arriving.lowest f.arriving.highest (arriving_label f.arriving f.area))) (barred 14 9) fourteen, tt),
    )))

-- the test of 16
abbrev pub numberless : Crossing → Bool
numberless x = not (stays x || has_numbers x)

-- the test of the records
abbrev pub records_test : Forwarding → Bool
records_test f = port_sound f.arriving && (port_sound f.leaving && (same_domain f || table_sound f.table f.levels))

module _ (f : Forwarding) where
  pub forward_area : bad_area f.area ≡ true → first_of (forward_checks f) ≡ some (silent 1)
  unfolding sizes
  forward_area e = rw e

  pub forward_room : bad_area f.area ≡ false → f.room < 40 → first_of (forward_checks f) ≡ some (silent 1)
  unfolding sizes
  forward_room e h = rw (e, lt-ltb f.room 40 h)

  module _ (sized : bad_area f.area ≡ false) (room : 40 ≤ f.room) where
    pub forward_record : records_test f ≡ false → first_of (forward_checks f) ≡ some (silent 2)
    unfolding sizes records
    forward_record e = rw (sized, le-ltb f.room 40 room, e)

    module _ (sound : records_test f ≡ true) where
      past : first_of (forward_checks f)
          ≡ or_else (first_of (reach_checks f))
          (first_of (number_check (crossing f) ∷ leaving_check (crossing f) ∷ spelling_check (crossing f) (kept_of f.area) ∷ []))
      unfolding sizes records
      past =
          rw (sized, le-ltb f.room 40 room, sound)
          (first_append (reach_checks f) (number_check (crossing f) ∷ leaving_check (crossing f) ∷ spelling_check (crossing f) (kept_of f.area) ∷ []))

      pub forward_arrival : (x : Refusal) → first_of (reach_checks f) ≡ some x → first_of (forward_checks f) ≡ some x
      forward_arrival x e = past ∙ rw e

      module _ (arrived : first_of (reach_checks f) ≡ none) where
        then : first_of (forward_checks f) ≡ or_else (first_of (crossing_checks (crossing f))) (when (no_room (leaving_option (crossing f)) (kept_of f.area)) (barred 18 9))
        then = past ∙ rw arrived (crossing_last (crossing f) (kept_of f.area))

        pub forward_crossing : (x : Refusal) → first_of (crossing_checks (crossing f)) ≡ some x → first_of (forward_checks f) ≡ some x
        forward_crossing x e = then ∙ rw e

        -- 16, 17 and 18, each where those before it do not apply
        pub forward_number : numberless (crossing f) ≡ true → first_of (forward_checks f) ≡ some (barred 16 9)
        unfolding number_check
        forward_number e = past ∙ rw (arrived, e)

        module _ (numbered : number_check (crossing f) ≡ none) where
          pub forward_range : set_in_range (lowest_out f.leaving) (highest_out f.leaving) (leaving_level (crossing f)) (leaving_runs (crossing f)) ≡ false → first_of (forward_checks f) ≡ some (barred 17 9)
          unfolding leaving_check
          forward_range e = past ∙ rw (arrived, numbered, e)

          module _ (within : set_in_range (lowest_out f.leaving) (highest_out f.leaving) (leaving_level (crossing f)) (leaving_runs (crossing f)) ≡ true) where
            pub forward_spelling : (ltb 120 (length (leaving_runs (crossing f))) || no_room (leaving_option (crossing f)) (kept_of f.area)) ≡ true → first_of (forward_checks f) ≡ some (barred 18 9)
            unfolding leaving_check spelling_check
            forward_spelling e = past ∙ rw (arrived, numbered, within, e)

            pub forward_none : (ltb 120 (length (leaving_runs (crossing f))) || no_room (leaving_option (crossing f)) (kept_of f.area)) ≡ false → first_of (forward_checks f) ≡ none
            unfolding leaving_check spelling_check
            forward_none e = past ∙ rw (arrived, numbered, within, e)

        pub forward_fits : (b : Bool) → first_of (crossing_checks (crossing f)) ≡ none → no_room (leaving_option (crossing f)) (kept_of f.area) ≡ b → first_of (forward_checks f) ≡ when b (barred 18 9)
        forward_fits b e g = then ∙ rw (e, g)

-- Toward labelled hosts the label that leaves is spelled as its parts are; toward unlabelled ones no octets are written.
pub leaving_spelled : (x : Crossing) → x.leaving.unlabelled ≡ false → spelled_of x.leaving.spellings (leaving_label x) ≡ leaving_option x
leaving_spelled x e =
    let o : Option (List ℕ) = spelling_of x.leaving.spellings x.leaving.domain (leaving_level x) (leaving_runs x) in
    let u : spelled_of x.leaving.spellings (leaving_label x) ≡ o = rw (used_of x.leaving.domain (leaving_level x) (leaving_runs x)) in
    u ∙ sym (ap (λ (b : Bool). cond b (some []) o) e)

pub leaving_none : (x : Crossing) → x.leaving.unlabelled ≡ true → leaving_option x ≡ some []
leaving_none x e = ap (λ (b : Bool). cond b (some []) (spelling_of x.leaving.spellings x.leaving.domain (leaving_level x) (leaving_runs x))) e

-- A refusal: what is answered, and that nothing is written.
pub forward_refused : (f : Forwarding) (x : Refusal) (out : List ℕ) → first_of (forward_checks f) ≡ some x → (refused (silenced f.facts) x ≡ forward_of f) × (out ≡ output_of f out)
unfolding forward_of output_of
forward_refused f x out e = (rw e, rw e)

-- The kept options of an area that passes check 1 fit by themselves.
pub kept_fits : (area : List ℕ) → bad_area area ≡ false → length (kept_of area) ≤ 40
kept_fits area e =
    let a = or_none (ltb 40 (length area)) _ e in
    omega (arith, kept_most area, ltb-false 40 (length area) a.0)

-- There is room where 18 does not apply.
pub record Fits (option : Option (List ℕ)) (kept : List ℕ) : Type 0 where
  pub octets : List ℕ
  pub spelled : option ≡ some octets
  pub room : length octets + length kept ≤ 40

pub room_fits : (o : Option (List ℕ)) (kept : List ℕ) → no_room o kept ≡ false → Fits o kept
room_fits none kept e = absurd (true≢false e)
room_fits (some s) kept e = record { octets = s; spelled = refl; room = ltb-false _ _ e }

-- A forwarding, once the option and then the rest are written.
module _ (s kept out : List ℕ) (fits : length s + length kept ≤ 40) (long : 40 ≤ length out) where
  front : List ℕ
  front = s ++ drop (length s) out

  front_length : length (s ++ drop (length s) out) ≡ length out
  front_length = simp (length-append, length-drop) (omega arith)

  beyond : drop 40 (s ++ drop (length s) out) ≡ drop 40 out
  beyond =
      let k : ℕ = 40 - length s in
      let e : 40 ≡ length s + k = omega arith in
      ap (λ (i : ℕ). drop i (s ++ drop (length s) out)) e
      ∙ sym (drop-drop k (length s) (s ++ drop (length s) out))
      ∙ ap (drop k) (drop_at s (drop (length s) out) (length s) refl)
      ∙ drop-drop k (length s) out
      ∙ ap (λ (i : ℕ). drop i out) (sym e)

  pub rest_is : rest_of (length s) (length kept) kept (s ++ drop (length s) out) ≡ leaving_of s kept out
  rest_is =
      rest_whole (length s) (length kept) kept refl (s ++ drop (length s) out)
      ∙ rw (front_length, le-leb 40 (length out) long, le-leb (length s + length kept) 40 fits, take-append_seam s (drop (length s) out), beyond)

  pub count_is : rest_count (length s) (length kept) kept (length (s ++ drop (length s) out)) ≡ round_up (length s + length kept)
  count_is =
      rest_counted (length s) (length kept) kept refl (length (s ++ drop (length s) out))
      ∙ rw (front_length, le-leb 40 (length out) long, le-leb (length s + length kept) 40 fits)

pub forward_done : (f : Forwarding) (s out : List ℕ) → first_of (forward_checks f) ≡ none → leaving_option (crossing f) ≡ some s
    → (forward_of f ≡ done (leaving_label (crossing f)) (round_up (length s + length (kept_of f.area)))) × (output_of f out ≡ leaving_of s (kept_of f.area) out)
unfolding forward_of output_of
forward_done f s out e g = (rw (e, g), rw (e, g))

-- What is known of a forwarding that passes every check.
pub record Passed (f : Forwarding) : Type 0 where
  pub area : bad_area f.area ≡ false
  pub room : 40 ≤ f.room
  pub sound : records_test f ≡ true
  pub reached : first_of (reach_checks f) ≡ none
  pub arrived : first_of (arrival_checks f.arriving f.area 9) ≡ none
  pub sent : leaving_basic_check f ≡ none
  pub crossed : first_of (crossing_checks (crossing f)) ≡ none
  pub fits : Fits (leaving_option (crossing f)) (kept_of f.area)

pub forward_passed : (f : Forwarding) → first_of (forward_checks f) ≡ none → Passed f
unfolding sizes records spelling_check
forward_passed f e =
    let n = first_none (forward_checks f) e in
    let a = or_none (bad_area f.area) (ltb f.room 40) (when_none _ (silent 1) n.0) in
    -- past 3 to 21 and 14
    let m = n.1.1.1.1.1.1.1.1.1.1 in
    let z = or_none (ltb 120 (length (leaving_runs (crossing f)))) (no_room (leaving_option (crossing f)) (kept_of f.area)) (when_none _ (barred 18 9) m.1.1.0) in
    let r : first_of (reach_checks f) ≡ none =
    none_first (reach_checks f)
    (n.1.1.0, (n.1.1.1.0, (n.1.1.1.1.0, (n.1.1.1.1.1.0, (n.1.1.1.1.1.1.0, (n.1.1.1.1.1.1.1.0, (n.1.1.1.1.1.1.1.1.0, (n.1.1.1.1.1.1.1.1.1.0, tt)))))))) in
    record {
      area = a.0;
      room = ltb-false _ _ a.1;
      sound = not_false_yes (records_test f) (when_none _ (silent 2) n.1.0);
      reached = r;
      arrived = reach_arrival f r;
      sent = n.1.1.1.1.1.1.1.1.0;
      crossed = none_first (crossing_checks (crossing f)) (m.0, (m.1.0, (rw z.0, tt)));
      fits = room_fits (leaving_option (crossing f)) (kept_of f.area) z.1;
    }

pub passed_formed : (f : Forwarding) → Passed f → well_formed (leaving_label (crossing f)) ≡ true
passed_formed f p =
    let a = and_left (port_sound f.arriving) _ p.sound in
    let r = and_right (port_sound f.arriving) _ p.sound in
    let h = arrival_held f.arriving f.area 9 a p.arrived in
    crossing_formed (crossing f) h.formed h.domain (and_left (port_sound f.leaving) _ r) (and_right (port_sound f.leaving) _ r) p.crossed

one : ◌≡◌ {A = ℕ} 1 0 → ⊥
one z = omega arith

two : ◌≡◌ {A = ℕ} 2 0 → ⊥
two z = omega arith

eighteen : ◌≡◌ {A = ℕ} 18 0 → ⊥
eighteen z = omega arith

-- Every refusal has a number.
pub forward_real : (f : Forwarding) → Real (first_of (forward_checks f))
unfolding sizes records
forward_real f =
    subst Real (sym (first_append (sizes f ∷ records f ∷ []) (reach_checks f ++ (number_check (crossing f) ∷ leaving_check (crossing f) ∷ spelling_check (crossing f) (kept_of f.area) ∷ []))))
    (real_else (first_of (sizes f ∷ records f ∷ [])) _
    (real_first (sizes f ∷ records f ∷ []) (real_when (bad_area f.area || ltb f.room 40) (silent 1) one, (real_when (not (records_test f)) (silent 2) two, tt)))
    (subst Real (sym (first_append (reach_checks f) (number_check (crossing f) ∷ leaving_check (crossing f) ∷ spelling_check (crossing f) (kept_of f.area) ∷ [])))
    (real_else (first_of (reach_checks f)) _ (late_real (first_of (reach_checks f)) (reach_late f))
    (subst Real (sym (crossing_last (crossing f) (kept_of f.area)))
    (real_else (first_of (crossing_checks (crossing f))) _ (crossing_real (crossing f)) (real_when (no_room (leaving_option (crossing f)) (kept_of f.area)) (barred 18 9) eighteen))))))

-- The option and then the rest are written: what is answered, and what the output holds.
pub forward_written : (f : Forwarding) (l : Label) (n kept count : ℕ) (out front back : List ℕ)
    → f.room ≡ length out
    → first_of (forward_checks f) ≡ none
    → l ≡ leaving_label (crossing f)
    → n ≡ length_of (leaving_option (crossing f))
    → front ≡ in_front (leaving_option (crossing f)) out
    → kept ≡ length (kept_of f.area)
    → count ≡ rest_count n kept (kept_of f.area) (length front)
    → back ≡ rest_of n kept (kept_of f.area) front
    → (done l count ≡ forward_of f) × (back ≡ output_of f out)
forward_written f l n kept count out front back er e el en ef ek ec eb =
    let p = forward_passed f e in
    let s = p.fits.octets in
    let long : 40 ≤ length out = omega (arith, p.room) in
    let n_is : n ≡ length s = en ∙ ap length_of p.fits.spelled in
    let front_is : front ≡ s ++ drop (length s) out = ef ∙ ap (λ (o : Option (List ℕ)). in_front o out) p.fits.spelled in
    let d = forward_done f s out e p.fits.spelled in
    let c : count ≡ round_up (length s + length (kept_of f.area)) =
    ec ∙ (λ i. rest_count (n_is i) (ek i) (kept_of f.area) (length (front_is i))) ∙ count_is s (kept_of f.area) out p.fits.room long in
    let b : back ≡ leaving_of s (kept_of f.area) out =
    eb ∙ (λ i. rest_of (n_is i) (ek i) (kept_of f.area) (front_is i)) ∙ rest_is s (kept_of f.area) out p.fits.room long in
    ((λ i. done (el i) (c i)) ∙ sym d.0, b ∙ sym d.1)
