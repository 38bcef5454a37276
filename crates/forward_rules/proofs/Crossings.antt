-- Laws of checks 16 and 17, and of 18 on the runs.
use mathlib.Core.Path.{◌≡◌, refl, sym, ◌∙◌, ap, subst}
use mathlib.Core.Bool.{Bool, true, false, cond, not, ◌&&◌, ◌||◌}
use mathlib.Core.List.{List, [], ◌∷◌}
use mathlib.Core.Option.{Option, none, some}
use Prim.Native.Nat.{ℕ, ◌≤◌}
use native.Mathlib.Omega.{arith}
use lib.Dec.{leb, ltb, eqb}
use lib.ListN.{length}
use borrow.Author.Tests.{eq-eqb, ne_eqb, eqb-true, eqb-false, leb-true, leb-false, le-ltb, lt-ltb}
use Rattle.std.specs.Prelude.{None, Some, Result, Ok, Err}
use Rattle.std.specs.Option.{ok_or}
use Rattle.label.specs.declared.Run.{Run}
use Rattle.label.specs.declared.Label.{Label}
use Rattle.label.specs.Runs.{spaced, subset}
use Rattle.label.specs.Label.{used, label_of, well_formed, in_range}
use Rattle.label_keys.specs.Range.{set_in_range}
use Rattle.label.proofs.Bools.{and_left, and_right}
use Rattle.label.proofs.Runs.{subset_sub, one_form}
use Rattle.label.proofs.Labels.{formed, used_length, of_used}
use Rattle.port.specs.Port.{port_sound, lowest_out, highest_out}
use Rattle.port.proofs.Laws.{Range, sound}
use Rattle.table.specs.Table.{used_rows, table_sound}
use Rattle.table_levels.specs.Levels.{Partner, known, level_or0}
use Rattle.table.specs.Numbers.{numbered}
use Rattle.renumber.specs.Renumber.{renumbered_as, image_runs, fitted, when_numbered, carried_of}
use Rattle.renumber.specs.Theorems as far
use Rattle.renumber_keys.proofs.Carrying.{image_spaced}
use Rattle.renumber.proofs.Theorems.{held_label, carrying}
use Rattle.decision.specs.declared.Refusal.{Refusal}
use Rattle.arrive.specs.Checks.{barred, when, first_of}
use Rattle.arrive.proofs.First.{Real, real_first, real_when, first_none, when_none, not_false_yes}
use Rattle.forward_rules.specs.Crossing.{Crossing, stays, partner, has_numbers, number_check, leaving_level, leaving_runs, leaving_check, leaving_label, crossing_checks}

sixteen : ◌≡◌ {A = ℕ} 16 0 → ⊥
sixteen z = omega arith

seventeen : ◌≡◌ {A = ℕ} 17 0 → ⊥
seventeen z = omega arith

eighteen : ◌≡◌ {A = ℕ} 18 0 → ⊥
eighteen z = omega arith

-- With equal domains the label stays.
module _ (x : Crossing) (w : well_formed x.label ≡ true) (d : x.label.domain ≡ x.domain) (p : port_sound x.leaving ≡ true) (same : x.domain ≡ x.leaving.domain) where
  test : stays x ≡ true
  test = eq-eqb _ _ same

  level_stays : leaving_level x ≡ x.label.level
  unfolding leaving_level
  level_stays = rw test

  runs_stay : leaving_runs x ≡ used x.label
  unfolding leaving_runs
  runs_stay = rw test

  number_stays : number_check x ≡ none
  unfolding number_check
  number_stays = rw test

  range_stays : set_in_range (lowest_out x.leaving) (highest_out x.leaving) (leaving_level x) (leaving_runs x) ≡ in_range (lowest_out x.leaving) (highest_out x.leaving) x.label
  range_stays =
      let s = (sound x.leaving p).out in
      rw (level_stays, runs_stay)
      (held_label (lowest_out x.leaving) (highest_out x.leaving) x.label s.low_formed s.high_formed w
      (s.low_domain ∙ sym (d ∙ same)) ((d ∙ same) ∙ sym s.high_domain))

  few : ltb 120 (length (leaving_runs x)) ≡ false
  few = let f = formed x.label w in rw runs_stay (le-ltb 120 (length (used x.label)) (omega (arith, used_length x.label f, f.held)))

  pub stays_outside : in_range (lowest_out x.leaving) (highest_out x.leaving) x.label ≡ false → first_of (crossing_checks x) ≡ some (barred 17 9)
  unfolding leaving_check
  stays_outside e = rw (number_stays, range_stays ∙ e)

  pub label_stays : leaving_label x ≡ x.label
  label_stays = (λ i. label_of (sym (d ∙ same) i) (level_stays i) (runs_stay i)) ∙ sym (of_used x.label (formed x.label w))

  pub stays_inside : in_range (lowest_out x.leaving) (highest_out x.leaving) x.label ≡ true → first_of (crossing_checks x) ≡ none
  unfolding leaving_check
  stays_inside e = rw (number_stays, range_stays ∙ e, few)

-- With other domains the label is carried over.
module _ (lo hi : Label) (d : ℕ) (img : List Run) where
  abbrev answer_by : Partner → Bool → Result Label ℕ
  answer_by q n = when_numbered 16 q n (λ v. cond (set_in_range lo hi v img) (fitted 18 d v img) (Err 17))

  abbrev checks_by : Partner → Bool → List (Option Refusal)
  checks_by q n =
      when (not (known q && n)) (barred 16 9)
      ∷ when (not (set_in_range lo hi (level_or0 q) img)) (barred 17 9)
      ∷ when (ltb 120 (length img)) (barred 18 9)
      ∷ []

  -- the answer says what the checks say
  abbrev Alike : Partner → Bool → Result Label ℕ → Type 0
  Alike q n (Ok m) = (first_of (checks_by q n) ≡ none) × (m ≡ label_of d (level_or0 q) img)
  Alike q n (Err k) = first_of (checks_by q n) ≡ some (barred k 9)

  fits : (v : ℕ) (b : Bool) → leb (length img) 120 ≡ b → set_in_range lo hi v img ≡ true → Alike (Some v) true (ok_or (cond b (Some (label_of d v img)) None) 18)
  fits v true e i = (rw (i, le-ltb 120 (length img) (leb-true _ _ e)), refl)
  fits v false e i = rw (i, lt-ltb 120 (length img) (leb-false _ _ e))

  ranged : (v : ℕ) (b : Bool) → set_in_range lo hi v img ≡ b → Alike (Some v) true (cond b (fitted 18 d v img) (Err 17))
  ranged v true e = fits v (leb (length img) 120) refl e
  ranged v false e = rw e

  pub alike : (q : Partner) (n : Bool) → Alike q n (answer_by q n)
  alike None n = refl
  alike (Some v) false = refl
  alike (Some v) true = ranged v (set_in_range lo hi v img) refl

module _ (x : Crossing) (apart : x.domain ≡ x.leaving.domain → ⊥) where
  differ : stays x ≡ false
  differ = ne_eqb _ _ apart

  module _ (from : x.table.from ≡ x.domain) (to : x.table.to ≡ x.leaving.domain) where
    abbrev img : List Run
    img = image_runs x.label x.table

    abbrev all : Bool
    all = numbered (used_rows x.table) (used x.label)

    checks_are : first_of (crossing_checks x) ≡ first_of (checks_by (lowest_out x.leaving) (highest_out x.leaving) x.leaving.domain img (partner x) all)
    unfolding number_check leaving_check leaving_level leaving_runs
    checks_are = rw (differ, eq-eqb _ _ from, eq-eqb _ _ to)

    label_is : leaving_label x ≡ label_of x.leaving.domain (level_or0 (partner x)) img
    unfolding leaving_level leaving_runs
    label_is = rw differ

    module _ (r : Result Label ℕ) (is : r ≡ carried_of x.label x.table x.levels (lowest_out x.leaving) (highest_out x.leaving)) where
      both : Alike (lowest_out x.leaving) (highest_out x.leaving) x.table.to img (partner x) all r
      unfolding carried_of
      both = rw is (alike (lowest_out x.leaving) (highest_out x.leaving) x.table.to img (partner x) all)

    pub crosses_refused : (n : ℕ) → Err n ≡ carried_of x.label x.table x.levels (lowest_out x.leaving) (highest_out x.leaving) → first_of (crossing_checks x) ≡ some (barred n 9)
    crosses_refused n is = checks_are ∙ both (Err n) is

    pub crosses_passed : (m : Label) → Ok m ≡ carried_of x.label x.table x.levels (lowest_out x.leaving) (highest_out x.leaving) → (first_of (crossing_checks x) ≡ none) × (m ≡ leaving_label x)
    crosses_passed m is =
        let q = both (Ok m) is in
        (checks_are ∙ q.0, q.1 ∙ ap (λ (n : ℕ). label_of n (level_or0 (partner x)) img) to ∙ sym label_is)

-- what carrying the label over answers
abbrev carried_by : Crossing → Result Label ℕ
carried_by x = carried_of x.label x.table x.levels (lowest_out x.leaving) (highest_out x.leaving)

pub numbers : (x : Crossing) → stays x ≡ false → number_check x ≡ none → has_numbers x ≡ true
unfolding number_check
numbers x s e = not_false_yes (has_numbers x) (rw s at (when_none (not (stays x || has_numbers x)) (barred 16 9) e))

-- of a label that has passed to another domain
pub record Crossed (x : Crossing) : Type 0 where
  pub from : x.table.from ≡ x.domain
  pub to : x.table.to ≡ x.leaving.domain
  pub carried : carried_by x ≡ renumbered_as (leaving_label x)

pub crossed : (x : Crossing) → stays x ≡ false → first_of (crossing_checks x) ≡ none → Crossed x
crossed x s e = go (carried_by x) refl
  where
    h : has_numbers x ≡ true
    h = numbers x s (first_none (crossing_checks x) e).0

    f : x.table.from ≡ x.domain
    f = eqb-true _ _ (and_left (eqb x.table.from x.domain) _ h)

    t : x.table.to ≡ x.leaving.domain
    t = eqb-true _ _ (and_left (eqb x.table.to x.leaving.domain) _ (and_right (eqb x.table.from x.domain) _ h))

    go : (r : Result Label ℕ) → r ≡ carried_by x → Crossed x
    go (Ok m) z = record { from = f; to = t; carried = sym z ∙ ap Ok (crosses_passed x (eqb-false _ _ s) f t m z).1 }
    go (Err n) z =
        let q = crosses_refused x (eqb-false _ _ s) f t n z in
        let y : ◌≡◌ {A = ℕ} 0 1 = cc in
        absurd (omega arith)

-- it is the label in the far domain, and in the range
pub crossed_carried : (x : Crossing) → well_formed x.label ≡ true → x.label.domain ≡ x.domain → port_sound x.leaving ≡ true → table_sound x.table x.levels ≡ true
    → Crossed x → far.Carried x.label x.table x.levels (lowest_out x.leaving) (highest_out x.leaving) (leaving_label x)
crossed_carried x w d p ts c =
    let g = (sound x.leaving p).out in
    carrying x.label x.table x.levels (lowest_out x.leaving) (highest_out x.leaving) (leaving_label x) w ts (d ∙ sym c.from) g.low_formed g.high_formed
    (g.low_domain ∙ sym c.to) (g.high_domain ∙ sym c.to) c.carried

-- What leaves is in one form.
pub runs_spaced : (x : Crossing) → well_formed x.label ≡ true → spaced 0 (leaving_runs x) ≡ true
unfolding leaving_runs
runs_spaced x w = go (stays x)
  where
    go : (b : Bool) → spaced 0 (cond b (used x.label) (image_runs x.label x.table)) ≡ true
    go true = (formed x.label w).runs
    go false = image_spaced x.table (used x.label)

-- Toward unlabelled hosts what is in range is the default label, and so has at most 120 runs.
pub record Default (x : Crossing) : Type 0 where
  pub label : leaving_label x ≡ x.leaving.default
  pub few : length (leaving_runs x) ≤ 120

pub default_is : (x : Crossing) → well_formed x.label ≡ true → port_sound x.leaving ≡ true → x.leaving.unlabelled ≡ true
    → set_in_range (lowest_out x.leaving) (highest_out x.leaving) (leaving_level x) (leaving_runs x) ≡ true → Default x
unfolding set_in_range
default_is x w p o e =
    let d : Label = x.leaving.default in
    let r : Range d d x.leaving.domain = subst (λ (u : Bool). Range (cond u d x.leaving.lowest) (cond u d x.leaving.highest) x.leaving.domain) o (sound x.leaving p).out in
    let e0 : (leb d.level (leaving_level x) && (leb (leaving_level x) d.level && (subset (used d) (leaving_runs x) && subset (leaving_runs x) (used d)))) ≡ true =
    subst (λ (u : Bool). set_in_range (cond u d x.leaving.lowest) (cond u d x.leaving.highest) (leaving_level x) (leaving_runs x) ≡ true) o e in
    let e1 = and_right (leb d.level (leaving_level x)) _ e0 in
    let e2 = and_right (leb (leaving_level x) d.level) _ e1 in
    let f = formed d r.low_formed in
    let v : leaving_level x ≡ d.level =
    omega (arith, leb-true d.level (leaving_level x) (and_left (leb d.level (leaving_level x)) _ e0), leb-true (leaving_level x) d.level (and_left (leb (leaving_level x) d.level) _ e1)) in
    let same : leaving_runs x ≡ used d =
    one_form 0 0 (leaving_runs x) (used d) (runs_spaced x w) f.runs (subset_sub (leaving_runs x) (used d) (and_right (subset (used d) (leaving_runs x)) _ e2)) (subset_sub (used d) (leaving_runs x) (and_left (subset (used d) (leaving_runs x)) _ e2)) in
    record {
      label = (λ i. label_of (sym r.low_domain i) (v i) (same i)) ∙ sym (of_used d f);
      few = omega (arith, ap length same, used_length d f, f.held);
    }

pub crossing_formed : (x : Crossing) → well_formed x.label ≡ true → x.label.domain ≡ x.domain → port_sound x.leaving ≡ true
    → (stays x || table_sound x.table x.levels) ≡ true → first_of (crossing_checks x) ≡ none → well_formed (leaving_label x) ≡ true
crossing_formed x w d p t e = by (stays x) refl t
  where
    by : (b : Bool) → stays x ≡ b → (b || table_sound x.table x.levels) ≡ true → well_formed (leaving_label x) ≡ true
    by true s q = ap well_formed (label_stays x w d p (eqb-true _ _ s)) ∙ w
    by false s q = (crossed_carried x w d p q (crossed x s e)).far.formed

-- Every refusal has a number.
pub crossing_real : (x : Crossing) → Real (first_of (crossing_checks x))
unfolding number_check leaving_check
crossing_real x =
    real_first (crossing_checks x) (
      real_when (not (stays x || has_numbers x)) (barred 16 9) sixteen,
      (
        real_when (not (set_in_range (lowest_out x.leaving) (highest_out x.leaving) (leaving_level x) (leaving_runs x))) (barred 17 9) seventeen,
        (real_when (ltb 120 (length (leaving_runs x))) (barred 18 9) eighteen, tt),
      ),
    )
