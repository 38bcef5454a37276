-- The stages of a forwarding decide as its checks do.
use mathlib.Core.Path.{◌≡◌, refl, sym, ◌∙◌, ap}
use mathlib.Core.Bool.{Bool, true, false, cond, not, ◌&&◌, ◌||◌}
use mathlib.Core.List.{List, [], ◌∷◌, ◌++◌}
use mathlib.Core.Option.{Option, none, some}
use Prim.Native.Nat.{ℕ, ◌+◌, ◌≤◌, ◌<◌}
use native.Mathlib.Omega.{arith}
use lib.Dec.{leb, ltb, eqb}
use lib.ListN.{length, take}
use borrow.Author.Tests.{ne_eqb, eqb-true, eqb-false, le-leb, lt-leb, leb-true, leb-false, le-ltb, lt-ltb}
use Rattle.lists.specs.Lists.{copied}
use Rattle.label.specs.declared.Run.{Run}
use Rattle.label.specs.declared.Label.{Label}
use Rattle.label.specs.Label.{used, in_range}
use Rattle.label_keys.specs.Keys.{key_runs, label_from}
use Rattle.label_keys.specs.Range.{set_in_range}
use Rattle.option.specs.declared.Spellings.{Spellings}
use Rattle.option.specs.Spelling.{spelling_of}
use Rattle.option_form.specs.Spelled.{length_of}
use Rattle.option_form.specs.Keys.{keys_spelled}
use Rattle.option_write.specs.Keys.{in_front}
use Rattle.option_form.proofs.Lengths.{spelled_bounds}
use Rattle.option_form.proofs.Keys.{keys_spelled_lem}
use Rattle.option_write.proofs.Keys.{keys_put}
use Rattle.area_leaving.specs.Kept.{kept_of}
use Rattle.port.specs.Port.{port_sound, lowest_out, highest_out}
use Rattle.port.proofs.Laws.{sound}
use Rattle.table.specs.Table.{table_sound}
use Rattle.renumber_keys.specs.Carry.{CarryAnswer, image_of, carried_keys, carry_of}
use Rattle.decision.specs.declared.Refusal.{Refusal}
use Rattle.decision.specs.Decision.{silenced, done}
use Rattle.arrive.specs.Checks.{silent, barred, when, first_of, basic_in, arriving_basic, missing_basic_check, basic_passes, arriving_label, range_check, arrival_checks}
use Rattle.decision.specs.Verdict.{Verdict, passed_with, verdict_of, stopped, stopped_by, concluded}
use Rattle.arrive.specs.Verdict.{arrival_of, Arrives}
use Rattle.area.specs.Area.{bad_area, walk_of, octets_at}
use Rattle.basic.specs.Alone.{BasicRead}
use Rattle.basic.specs.declared.Way.{Way}
use Rattle.basic.specs.Settings.{passes_read}
use Rattle.arrive.specs.Stages.{held_between, before_range, basic_read}
use Rattle.arrive.proofs.First.{first_append, first_one, first_none, Late, Early, early_first, between}
use Rattle.arrive.proofs.Arrival.{Held, before_checks, arrival_early, arrival_held, arrival_late, off_none, on_some}
use Rattle.arrive.proofs.Verdicts.{held_in_set}
use Rattle.decision.proofs.Concluded.{concluded_refused, concluded_done}
use Rattle.forward_rules.specs.Crossing.{Forwarding, same_domain, leaving_basic_check, Crossing, crossing, has_numbers, leaving_level, leaving_runs, leaving_label, leaving_option, no_room}
use Rattle.forward_rules.specs.Forward.{forward_checks, forward_of, output_of}
use Rattle.forward_leave.specs.Departure.{recorded_by, sent_by, held_by_range}
use Rattle.forward_cross.specs.Crossed.{tabled_by, numbered_by, crossed_by, crossed_keys}
use Rattle.forward_cross.proofs.Laws.{crossed_same, crossed_refused, crossed_carried}
use Rattle.forward_write.specs.Sending.{has_room_for, fitted_by, put_count, put_front, kept_by, area_count, area_written}
use Rattle.forward_any.proofs.Over.{Over, leaving_passed, leaving_verdict, stays_verdict, stays_over, unsound_verdict, numberless_verdict, carried_verdict_lem, carried_over}
use Rattle.forward_rules.proofs.Forwards.{reach_checks, reach_arrival, reach_late, records_test, forward_area, forward_room, forward_record, forward_arrival, forward_number, forward_range, forward_spelling, forward_none, forward_refused, forward_written, kept_fits}

-- 21 of the leaving port, by what a second walk found
abbrev sending : Bool → Bool → Way → BasicRead → Option Refusal
sending from on way x = when (not (cond from (on && passes_read way x) (not on))) (barred 21 9)

abbrev barred_by : Bool → Way → Option (List ℕ) → Option Refusal
barred_by on way o = when (not (basic_passes on way o)) (barred 21 9)

sending_off : (from on : Bool) (way : Way) (x : BasicRead) (o : Option (List ℕ)) → from ≡ false → o ≡ none → sending from on way x ≡ barred_by on way o
sending_off from on way x o e g = ap (λ (t : Bool). sending t on way x) e ∙ sym (ap (barred_by on way) g)

sending_on : (from on : Bool) (way : Way) (b o : Option (List ℕ)) (x : List ℕ) → from ≡ true → b ≡ some x → o ≡ some x → sending from on way (basic_read b) ≡ barred_by on way o
sending_on from on way b o x e h g = (λ i. sending (e i) on way (basic_read (h i))) ∙ sym (ap (barred_by on way) g)

-- The test of 18, from the length that is measured.
pub room_is : (p : Spellings) (d v : ℕ) (rs : List Run) (kept : List ℕ) → has_room_for (length_of (spelling_of p d v rs)) (length kept) ≡ not (no_room (spelling_of p d v rs) kept)
room_is p d v rs kept = go (spelling_of p d v rs) refl
  where
    within : (n : ℕ) → leb n 40 ≡ not (ltb 40 n)
    within n = by (leb n 40) refl
      where
        by : (b : Bool) → leb n 40 ≡ b → b ≡ not (ltb 40 n)
        by true q = rw (le-ltb 40 n (leb-true n 40 q))
        by false q = rw (lt-ltb 40 n (leb-false n 40 q))

    go : (o : Option (List ℕ)) → spelling_of p d v rs ≡ o → has_room_for (length_of o) (length kept) ≡ not (no_room o kept)
    go none e = refl
    go (some s) e = rw (ne_eqb (length s) 0 (λ z. omega (arith, (spelled_bounds p d v rs s e).0))) (within (length s + length kept))

-- what each stage answered, of a forwarding
pub record Ran (f : Forwarding) (own own' far far' out out' : List ℕ) (a r u c h v : Verdict) (kept count : ℕ) : Type 0 where
  pub room : f.room ≡ length out
  pub own_room : 120 ≤ length own
  pub own_kept : 120 ≤ length own'
  pub far_room : 120 ≤ length far
  pub far_rows : table_sound f.table f.levels ≡ true → 120 + f.table.count ≤ length far
  pub arrives : Arrives f.arriving f.area 9 own own' a
  pub ready : r ≡ recorded_by a f.room (port_sound f.leaving)
  pub sent : u ≡ sent_by r f.arriving.basic.on f.leaving.basic.on f.leaving.basic.sending (basic_read (octets_at (basic_in (walk_of true f.area)) f.area))
  pub crosses : c ≡ crossed_by u f.arriving.domain f.leaving.domain f.table f.levels own' (length far)
  pub crossed : far' ≡ crossed_keys u f.arriving.domain f.leaving.domain f.table f.levels own' far
  pub held : h ≡ held_by_range c (lowest_out f.leaving) (highest_out f.leaving) far'
  pub keeps : kept ≡ kept_by h f.area
  pub fits : (d : ℕ) → v ≡ fitted_by f.leaving.unlabelled f.leaving.spellings d h kept far'
  pub counts : count ≡ area_count v f.leaving.unlabelled f.leaving.spellings f.leaving.domain kept f.area far' out
  pub writes : out' ≡ area_written v f.leaving.unlabelled f.leaving.spellings f.leaving.domain kept f.area far' out

module _ (f : Forwarding) (own own' far far' out out' : List ℕ) (a r u c h v : Verdict) (kept count : ℕ) (s : Ran f own own' far far' out out' a r u c h v kept count) where
  abbrev Answers : Type 0
  Answers = (concluded v f.leaving.domain (silenced f.facts) count far' ≡ forward_of f) × (out' ≡ output_of f out)

  abbrev x : Crossing
  x = crossing f

  abbrev label : Label
  label = arriving_label f.arriving f.area

  abbrev answer : Option Refusal → Verdict
  answer o = verdict_of o label.level label.count

  -- crossing, case by case
  same_is : f.arriving.domain ≡ f.leaving.domain → (c ≡ u) × (far' ≡ copied own' far)
  same_is e =
      let q = crossed_same f.arriving.domain f.leaving.domain f.table f.levels own' far u e in
      (s.crosses ∙ q.0, s.crossed ∙ q.1)

  tabled_is : (f.arriving.domain ≡ f.leaving.domain → ⊥) → (y : Refusal) → u ≡ answer (some y) → c ≡ tabled_by y f.table f.levels
  tabled_is n y e =
      s.crosses
      ∙ ap (λ (q : Verdict). crossed_by q f.arriving.domain f.leaving.domain f.table f.levels own' (length far)) e
      ∙ (crossed_refused f.arriving.domain f.leaving.domain f.table f.levels own' far y n).0

  -- a refusal goes through the later stages as it is
  fit_refused : (y : Refusal) → h ≡ answer (some y) → v ≡ answer (some y)
  unfolding fitted_by
  fit_refused y e = s.fits 0 ∙ ap (λ (q : Verdict). fitted_by f.leaving.unlabelled f.leaving.spellings 0 q kept far') e

  unwritten : (y : Refusal) → v ≡ answer (some y) → out' ≡ out
  unfolding area_written
  unwritten y e = s.writes ∙ ap (λ (q : Verdict). area_written q f.leaving.unlabelled f.leaving.spellings f.leaving.domain kept f.area far' out) e

  last : (y : Refusal) → v ≡ answer (some y) → first_of (forward_checks f) ≡ some y → Answers
  last y e g =
      let w = forward_refused f y out g in (
        ap (λ (t : Verdict). concluded t f.leaving.domain (silenced f.facts) count far') e
            ∙ concluded_refused y label.level label.count f.leaving.domain count (silenced f.facts) far'
            ∙ w.0,
        unwritten y e ∙ w.1,
      )

  hold_refused : (y : Refusal) → c ≡ answer (some y) → h ≡ answer (some y)
  unfolding held_by_range
  hold_refused y e = s.held ∙ ap (λ (q : Verdict). held_by_range q (lowest_out f.leaving) (highest_out f.leaving) far') e

  refused_over : (y : Refusal) → c ≡ answer (some y) → first_of (forward_checks f) ≡ some y → Answers
  refused_over y e g = last y (fit_refused y (hold_refused y e)) g

  -- 21 of the leaving port, by what the option means
  abbrev walked : Option (List ℕ)
  walked = octets_at (basic_in (walk_of true f.area)) f.area

  abbrev sent_check : Option Refusal
  sent_check = sending f.arriving.basic.on f.leaving.basic.on f.leaving.basic.sending (basic_read walked)

  sent_is : u ≡ before_range r sent_check
  unfolding sent_by
  sent_is = s.sent

  -- a refusal before 14 goes on as it is
  closed : (y : Refusal) → (y.number ≡ 14 → ⊥) → (o : Option Refusal) → before_range (answer (some y)) o ≡ answer (some y)
  closed y k o = rw (ne_eqb y.number 14 k)

  sent_closed : (y : Refusal) → r ≡ answer (some y) → (y.number ≡ 14 → ⊥) → u ≡ answer (some y)
  sent_closed y e k = sent_is ∙ ap (λ (w : Verdict). before_range w sent_check) e ∙ closed y k sent_check

  -- 1 and 2 before the table
  early : (y : Refusal) → r ≡ answer (some y) → y.number ≤ 2 → c ≡ answer (some y)
  unfolding tabled_by
  early y x t = go (eqb f.arriving.domain f.leaving.domain) refl
    where
      e : u ≡ answer (some y)
      e = sent_closed y x (λ k. omega arith)

      go : (b : Bool) → eqb f.arriving.domain f.leaving.domain ≡ b → c ≡ answer (some y)
      go true q = (same_is (eqb-true _ _ q)).0 ∙ e
      go false q = tabled_is (eqb-false _ _ q) y e ∙ rw (le-leb y.number 2 t)

  -- what is ready, of what arrived
  ready_of : (o : Option Refusal) → a ≡ answer o → r ≡ recorded_by (answer o) f.room (port_sound f.leaving)
  ready_of o e = s.ready ∙ ap (λ (w : Verdict). recorded_by w f.room (port_sound f.leaving)) e

  one_ready : recorded_by (answer (some (silent 1))) f.room (port_sound f.leaving) ≡ answer (some (silent 1))
  unfolding recorded_by
  one_ready = refl

  by_area : bad_area f.area ≡ true → Answers
  unfolding arrival_of
  by_area e =
      refused_over (silent 1) (early (silent 1) (ready_of (some (silent 1)) (s.arrives.answer ∙ rw e) ∙ one_ready) (omega arith)) (forward_area f e)

  module _ (sized : bad_area f.area ≡ false) where
    two_is : port_sound f.arriving ≡ false → a ≡ answer (some (silent 2))
    unfolding arrival_of
    two_is p = s.arrives.answer ∙ rw (sized, le-ltb (length own) 120 s.own_room, p)

    past_is : port_sound f.arriving ≡ true → a ≡ answer (first_of (arrival_checks f.arriving f.area 9))
    unfolding arrival_of
    past_is p = s.arrives.answer ∙ rw (sized, le-ltb (length own) 120 s.own_room, p)

    -- what arrived has not the number 1
    not_one : stopped_by 1 a ≡ false
    not_one = go (port_sound f.arriving) refl
      where
        late : (o : Option Refusal) → Late o → stopped_by 1 (answer o) ≡ false
        late none t = refl
        late (some y) t = ne_eqb y.number 1 (λ z. omega arith)

        go : (b : Bool) → port_sound f.arriving ≡ b → stopped_by 1 a ≡ false
        go true p = ap (stopped_by 1) (past_is p) ∙ late (first_of (arrival_checks f.arriving f.area 9)) (arrival_late f.arriving f.area 9)
        go false p = ap (stopped_by 1) (two_is p)

    by_room : f.room < 40 → Answers
    unfolding recorded_by
    by_room t =
        refused_over (silent 1) (early (silent 1) (s.ready ∙ rw (not_one, lt-ltb f.room 40 t)) (omega arith)) (forward_room f sized t)

    module _ (long : 40 ≤ f.room) where
      by_two : r ≡ stopped 2 0 0 0 → records_test f ≡ false → Answers
      by_two e t = refused_over (silent 2) (early (silent 2) e (omega arith)) (forward_record f sized long t)

      ready_is : (b : Bool) → port_sound f.leaving ≡ b → r ≡ cond b a (stopped 2 0 0 0)
      unfolding recorded_by
      ready_is b e = s.ready ∙ rw (not_one, le-ltb f.room 40 long, e)

      by_arriving : port_sound f.arriving ≡ false → Answers
      by_arriving p = by_two (go (port_sound f.leaving) refl) (rw p)
        where
          go : (b : Bool) → port_sound f.leaving ≡ b → r ≡ stopped 2 0 0 0
          go true e = ready_is true e ∙ two_is p
          go false e = ready_is false e

      by_leaving : port_sound f.arriving ≡ true → port_sound f.leaving ≡ false → Answers
      by_leaving p q = by_two (ready_is false q) (rw (p, q))

      module _ (p : port_sound f.arriving ≡ true) (q : port_sound f.leaving ≡ true) where
        ready_past : r ≡ answer (first_of (arrival_checks f.arriving f.area 9))
        ready_past = ready_is true q ∙ past_is p

        -- with 21 of the leaving port among them
        abbrev before : List (Option Refusal)
        before = before_checks f.arriving f.area 9

        reached_of : sent_check ≡ leaving_basic_check f → u ≡ answer (first_of (reach_checks f))
        unfolding range_check
        reached_of e =
            sent_is
            ∙ (λ i. before_range (ready_past i) ((e ∙ sym (first_one (leaving_basic_check f))) i))
            ∙ between before (leaving_basic_check f ∷ []) (not (in_range f.arriving.lowest f.arriving.highest label)) 9 label.level label.count (early_first before (arrival_early f.arriving f.area 9))

        -- where an option 130 is missing, a check before 21 applies
        stopped_before : (y : Refusal) → first_of before ≡ some y → Early (some y) → u ≡ answer (first_of (reach_checks f))
        stopped_before y e g =
            let range = range_check f.arriving f.area 9 ∷ [] in
            let x : first_of (before ++ range) ≡ some y = first_append before range ∙ rw e in
            let z : first_of (before ++ (leaving_basic_check f ∷ range)) ≡ some y = first_append before (leaving_basic_check f ∷ range) ∙ rw e in
            sent_closed y (ready_past ∙ ap answer x) g ∙ sym (ap answer z)

        missed : f.arriving.basic.on ≡ true → arriving_basic f.arriving f.area ≡ none → u ≡ answer (first_of (reach_checks f))
        unfolding missing_basic_check
        missed on e = go (first_of before) refl (early_first before (arrival_early f.arriving f.area 9))
          where
            applies : missing_basic_check f.arriving f.area ≡ none → ⊥
            applies n = let k : when true _ ≡ none = rw (e, on) at n in let z : ◌≡◌ {A = ℕ} 0 1 = cc in omega arith

            go : (o : Option Refusal) → first_of before ≡ o → Early o → u ≡ answer (first_of (reach_checks f))
            go none g h = absurd (applies (first_none before g).1.1.1.1.0)
            go (some y) g h = stopped_before y g h

        by_basic : (on : Bool) (o : Option (List ℕ)) → f.arriving.basic.on ≡ on → arriving_basic f.arriving f.area ≡ o → u ≡ answer (first_of (reach_checks f))
        unfolding leaving_basic_check
        by_basic false o e g = reached_of (sending_off f.arriving.basic.on f.leaving.basic.on f.leaving.basic.sending (basic_read walked) (arriving_basic f.arriving f.area) e (off_none f.arriving f.area e))
        by_basic true none e g = missed e g
        by_basic true (some y) e g = reached_of (sending_on f.arriving.basic.on f.leaving.basic.on f.leaving.basic.sending walked (arriving_basic f.arriving f.area) y e (on_some f.arriving f.area y e g) g)

        reached_past : u ≡ answer (first_of (reach_checks f))
        reached_past = by_basic f.arriving.basic.on (arriving_basic f.arriving f.area) refl refl

        -- 3 to 21 and 14, where the records are sound
        by_arrival : (y : Refusal) → records_test f ≡ true → first_of (reach_checks f) ≡ some y → c ≡ answer (some y) → Answers
        by_arrival y t e g = refused_over y g (forward_arrival f sized long t y e)

        same_refused : (y : Refusal) → same_domain f ≡ true → first_of (reach_checks f) ≡ some y → Answers
        same_refused y d e = by_arrival y (rw (p, q, d)) e ((same_is (eqb-true _ _ d)).0 ∙ reached_past ∙ ap answer e)

        other_refused : (y : Refusal) → same_domain f ≡ false → first_of (reach_checks f) ≡ some y → 3 ≤ y.number → Answers
        unfolding tabled_by
        other_refused y d e n = go (table_sound f.table f.levels) refl
          where
            ready_some : u ≡ answer (some y)
            ready_some = reached_past ∙ ap answer e

            tabled : (b : Bool) → table_sound f.table f.levels ≡ b → c ≡ cond b (answer (some y)) (stopped 2 0 0 0)
            tabled b t = tabled_is (eqb-false _ _ d) y ready_some ∙ rw (lt-leb y.number 2 (omega arith), t)

            go : (b : Bool) → table_sound f.table f.levels ≡ b → Answers
            go true t = by_arrival y (rw (p, q, d, t)) e (tabled true t)
            go false t = refused_over (silent 2) (tabled false t) (forward_record f sized long (rw (p, q, d, t)))

        -- past 16
        module _ (t : records_test f ≡ true) (e : first_of (reach_checks f) ≡ none) (over : Over x far') (crossed : c ≡ leaving_verdict x) where
          abbrev runs : List Run
          runs = leaving_runs x

          held_is : held_between (lowest_out f.leaving) (highest_out f.leaving) (leaving_passed x) far' ≡ set_in_range (lowest_out f.leaving) (highest_out f.leaving) (leaving_level x) runs
          held_is =
              let g = (sound f.leaving q).out in
              held_in_set (lowest_out f.leaving) (highest_out f.leaving) (leaving_passed x) far' g.low_formed g.high_formed (rw over.stands over.gaps)
              ∙ ap (set_in_range (lowest_out f.leaving) (highest_out f.leaving) (leaving_level x)) over.stands

          held_of : (b : Bool) → set_in_range (lowest_out f.leaving) (highest_out f.leaving) (leaving_level x) runs ≡ b → h ≡ cond b (leaving_verdict x) (stopped 17 3 9 0)
          unfolding held_by_range
          held_of b g =
              s.held
              ∙ ap (λ (w : Verdict). held_by_range w (lowest_out f.leaving) (highest_out f.leaving) far') crossed
              ∙ rw (held_is ∙ g)

          by_range : set_in_range (lowest_out f.leaving) (highest_out f.leaving) (leaving_level x) runs ≡ false → Answers
          by_range g =
              last (barred 17 9) (fit_refused (barred 17 9) (held_of false g)) (forward_range f sized long t e over.numbers g)

          module _ (g : set_in_range (lowest_out f.leaving) (highest_out f.leaving) (leaving_level x) runs ≡ true) where
            h_is : h ≡ leaving_verdict x
            h_is = held_of true g

            kept_is : kept ≡ length (kept_of f.area)
            unfolding kept_by
            kept_is = s.keeps ∙ ap (λ (w : Verdict). kept_by w f.area) h_is

            v_is : v ≡ cond (leb (length runs) 120 && (f.leaving.unlabelled || has_room_for (length_of (keys_spelled f.leaving.spellings f.leaving.domain (leaving_level x) (take (length runs) far'))) (length (kept_of f.area)))) (leaving_verdict x) (stopped 18 3 9 0)
            unfolding fitted_by
            v_is = s.fits f.leaving.domain ∙ (λ i. fitted_by f.leaving.unlabelled f.leaving.spellings f.leaving.domain (h_is i) (kept_is i) far')

            by_many : leb (length runs) 120 ≡ false → Answers
            by_many m =
                last (barred 18 9) (v_is ∙ rw m) (forward_spelling f sized long t e over.numbers g (rw (lt-ltb 120 (length runs) (leb-false _ _ m))))

            module _ (few : length runs ≤ 120) where
              abbrev spelling : Option (List ℕ)
              spelling = spelling_of f.leaving.spellings f.leaving.domain (leaving_level x) runs

              spelled : keys_spelled f.leaving.spellings f.leaving.domain (leaving_level x) (take (length runs) far') ≡ spelling
              spelled = keys_spelled_lem f.leaving.spellings f.leaving.domain (leaving_level x) (take (length runs) far') runs over.stands few

              -- there is room, by what is spelled; toward unlabelled hosts there always is
              room_by : (b : Bool) → (b || has_room_for (length_of spelling) (length (kept_of f.area))) ≡ not (no_room (cond b (some []) spelling) (kept_of f.area))
              room_by true = sym (rw (le-ltb 40 (0 + length (kept_of f.area)) (omega (arith, kept_fits f.area sized))))
              room_by false = room_is f.leaving.spellings f.leaving.domain (leaving_level x) runs (kept_of f.area)

              -- the option at the front of the output
              put_by : (b : Bool)
                  → (put_count b f.leaving.spellings f.leaving.domain (leaving_level x) (take (length runs) far') (length out) ≡ length_of (cond b (some []) spelling))
                  × (put_front b f.leaving.spellings f.leaving.domain (leaving_level x) (take (length runs) far') out ≡ in_front (cond b (some []) spelling) out)
              put_by true = (refl, refl)
              put_by false = keys_put f.leaving.spellings f.leaving.domain (leaving_level x) (take (length runs) far') runs out over.stands few (omega (arith, s.room))

              v_of : v ≡ cond (not (no_room (leaving_option x) (kept_of f.area))) (leaving_verdict x) (stopped 18 3 9 0)
              v_of = v_is ∙ rw (le-leb (length runs) 120 few, spelled, room_by f.leaving.unlabelled)

              by_spelling : no_room (leaving_option x) (kept_of f.area) ≡ true → Answers
              by_spelling n =
                  last (barred 18 9) (v_of ∙ rw n) (forward_spelling f sized long t e over.numbers g (rw (le-ltb 120 (length runs) few, n)))

              by_done : no_room (leaving_option x) (kept_of f.area) ≡ false → Answers
              unfolding label_from area_count area_written
              by_done n =
                  let e_v : v ≡ leaving_verdict x = v_of ∙ rw n in
                  let l : label_from f.leaving.domain (leaving_level x) (key_runs (take (length runs) far')) ≡ leaving_label x = label_is in
                  let u = put_by f.leaving.unlabelled in
                  let w =
                  forward_written f (leaving_label x) _ kept count out _ out' s.room (forward_none f sized long t e over.numbers g (rw (le-ltb 120 (length runs) few, n))) refl u.0 u.1 kept_is
                  (s.counts ∙ ap (λ (b : Verdict). area_count b f.leaving.unlabelled f.leaving.spellings f.leaving.domain kept f.area far' out) e_v)
                  (s.writes ∙ ap (λ (b : Verdict). area_written b f.leaving.unlabelled f.leaving.spellings f.leaving.domain kept f.area far' out) e_v) in (
                    ap (λ (b : Verdict). concluded b f.leaving.domain (silenced f.facts) count far') e_v
                        ∙ concluded_done (leaving_level x) (length runs) f.leaving.domain count (silenced f.facts) far'
                        ∙ ap (λ (b : Label). done b count) l
                        ∙ w.0,
                    w.1,
                  )
                where
                  label_is : label_from f.leaving.domain (leaving_level x) (key_runs (take (length runs) far')) ≡ leaving_label x
                  label_is = rw (over.stands, le-leb (length runs) 120 few)

              by_room_left : (b : Bool) → no_room (leaving_option x) (kept_of f.area) ≡ b → Answers
              by_room_left true n = by_spelling n
              by_room_left false n = by_done n

            by_runs : (b : Bool) → leb (length runs) 120 ≡ b → Answers
            by_runs true m = by_room_left (leb-true _ _ m) (no_room (leaving_option x) (kept_of f.area)) refl
            by_runs false m = by_many m

          by_set : (b : Bool) → set_in_range (lowest_out f.leaving) (highest_out f.leaving) (leaving_level x) runs ≡ b → Answers
          by_set true g = by_runs g (leb (length runs) 120) refl
          by_set false g = by_range g

          passed_over : Answers
          passed_over = by_set (set_in_range (lowest_out f.leaving) (highest_out f.leaving) (leaving_level x) runs) refl

        -- what arrived, past 14
        module _ (e : first_of (reach_checks f) ≡ none) where
          arrived_held : Held f.arriving label
          arrived_held = arrival_held f.arriving f.area 9 p (reach_arrival f e)

          ready_none : u ≡ answer none
          ready_none = reached_past ∙ ap answer e

          own_stands : key_runs (take label.count own') ≡ used label
          own_stands =
              let a_is : a ≡ answer none = past_is p ∙ ap answer (reach_arrival f e) in
              rw a_is at s.arrives.stands

          far_long : 120 ≤ length far
          far_long = omega (arith, s.far_room)

          same_passed : same_domain f ≡ true → Answers
          same_passed d =
              let k = same_is (eqb-true _ _ d) in
              passed_over (rw (p, q, d)) e
              (stays_over x arrived_held.formed (eqb-true _ _ d) own' far far' s.own_kept own_stands far_long k.1)
              (k.0 ∙ ready_none ∙ stays_verdict x arrived_held.formed (eqb-true _ _ d) own' far far' s.own_kept own_stands far_long k.1)

          module _ (d : same_domain f ≡ false) where
            carried : (g : CarryAnswer) × (g ≡ carry_of (used label) label.level f.table f.levels (length far)) × (c ≡ numbered_by g (eqb f.table.from f.arriving.domain) (eqb f.table.to f.leaving.domain)) × (far' ≡ carried_keys g (image_of f.table (used label)) far)
            carried =
                let k = crossed_carried f.arriving.domain f.leaving.domain f.table f.levels own' far (passed_with label.level label.count) (eqb-false _ _ d) in (
                  carry_of (used label) label.level f.table f.levels (length far),
                  refl,
                  s.crosses
                      ∙ ap (λ (w : Verdict). crossed_by w f.arriving.domain f.leaving.domain f.table f.levels own' (length far)) ready_none
                      ∙ k.0
                      ∙ ap (λ (rs : List Run). numbered_by (carry_of rs label.level f.table f.levels (length far)) (eqb f.table.from f.arriving.domain) (eqb f.table.to f.leaving.domain)) own_stands,
                  s.crossed
                      ∙ ap (λ (w : Verdict). crossed_keys w f.arriving.domain f.leaving.domain f.table f.levels own' far) ready_none
                      ∙ k.1
                      ∙ ap (λ (rs : List Run). carried_keys (carry_of rs label.level f.table f.levels (length far)) (image_of f.table rs) far) own_stands,
                )

            by_table : (b : Bool) → table_sound f.table f.levels ≡ b → Answers
            by_table false t =
                refused_over (silent 2) (carried.2 ∙ unsound_verdict x d arrived_held.formed far far' s.far_rows carried.0 carried.1 t)
                (forward_record f sized long (rw (p, q, d, t)))
            by_table true t = by_numbers (has_numbers x) refl
              where
                by_numbers : (b : Bool) → has_numbers x ≡ b → Answers
                by_numbers false n =
                    refused_over (barred 16 9) (carried.2 ∙ numberless_verdict x d arrived_held.formed far far' s.far_rows carried.0 carried.1 t n)
                    (forward_number f sized long (rw (p, q, d, t)) e (rw (d, n)))
                by_numbers true n =
                    passed_over (rw (p, q, d, t)) e
                    (carried_over x d arrived_held.formed far far' s.far_rows carried.0 carried.1 t n carried.3)
                    (carried.2 ∙ carried_verdict_lem x d arrived_held.formed far far' s.far_rows carried.0 carried.1 t n)

          by_domain : (b : Bool) → same_domain f ≡ b → Answers
          by_domain true d = same_passed d
          by_domain false d = by_table d (table_sound f.table f.levels) refl

        by_first : (o : Option Refusal) → first_of (reach_checks f) ≡ o → Late o → Answers
        by_first none e n = by_domain e (same_domain f) refl
        by_first (some y) e n = go (same_domain f) refl
          where
            go : (b : Bool) → same_domain f ≡ b → Answers
            go true d = same_refused y d e
            go false d = other_refused y d e n

      by_ports : (b d : Bool) → port_sound f.arriving ≡ b → port_sound f.leaving ≡ d → Answers
      by_ports false d p q = by_arriving p
      by_ports true false p q = by_leaving p q
      by_ports true true p q = by_first p q (first_of (reach_checks f)) refl (reach_late f)

    by_length : (b : Bool) → leb 40 f.room ≡ b → Answers
    by_length true e = by_ports (leb-true _ _ e) (port_sound f.arriving) (port_sound f.leaving) refl refl
    by_length false e = by_room (leb-false _ _ e)

  by_size : (b : Bool) → bad_area f.area ≡ b → Answers
  by_size true e = by_area e
  by_size false e = by_length e (leb 40 f.room) refl

  pub forwarded : (concluded v f.leaving.domain (silenced f.facts) count far' ≡ forward_of f) × (out' ≡ output_of f out)
  forwarded = by_size (bad_area f.area) refl
