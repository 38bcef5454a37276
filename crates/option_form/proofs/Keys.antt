-- Laws of keys in place of runs: the choice by the first and the last key, the form of a list of keys, and its spelling.
use Prim.Native.Nat.{ℕ, zero, suc, ◌+◌, ◌-◌, ◌*◌, ◌/◌, ◌%◌, ◌≤◌, ◌<◌}
use mathlib.Core.Path.{◌≡◌, refl, ap, sym, ◌∙◌}
use mathlib.Core.Bool.{cond}
use mathlib.Core.List.{List, [], ◌∷◌}
use mathlib.Core.Option.{none, some}
use lib.ListN.{length, get_or, take, drop, length-map, drop_of_length-le}
use lib.Dec.{eqb}
use native.Mathlib.Omega.{arith}
use native.Mathlib.Numerals.{add-one}
use native.Mathlib.Decide.{dec_le}
use borrow.Author.Tests.{le-leb, lt-leb}
use Rattle.label.specs.declared.Run.{Run}
use Rattle.label.specs.Runs.{count_of}
use Rattle.label.specs.Label.{no_run}
use Rattle.label_keys.specs.Keys.{key_run, key_runs}
use Rattle.label_keys.proofs.Keys.{key_at}
use Rattle.label.proofs.Steps.{next}
use Rattle.option.specs.declared.Form.{Form}
use Rattle.option.specs.declared.Spellings.{Spellings}
use Rattle.option.specs.Spelling.{least_form, form_for, spelled_by, spelling_of}
use Rattle.option.proofs.Choice.{form}
use Rattle.option.proofs.Theorems.{spelled_none, spelled_some}
use Rattle.option_form.specs.Keys.{keys_form, keys_spelled}
use Rattle.option_form.specs.Stages.{capped}
use Rattle.option_form.proofs.Sizes.{choice_some}

-- One key more, as a loop meets it.
pub next_key : (ks : List ℕ) (i : ℕ) → i < length ks → drop i (key_runs ks) ≡ key_run (get_or ks i 0) ∷ drop (i + 1) (key_runs ks)
next_key ks i h = next no_run (key_runs ks) i (omega (arith, length-map ks key_run)) ∙ ap (λ (r : Run). r ∷ drop (i + 1) (key_runs ks)) (key_at ks i)

pub keys_up : (ks : List ℕ) (i : ℕ) → length ks ≤ i → drop i (key_runs ks) ≡ []
keys_up ks i h = drop_of_length-le (key_runs ks) {i = i} (omega (arith, length-map ks key_run))

-- the categories of the first keys, of one more, and of the others
pub count_more : (ks : List ℕ) (i : ℕ) → i < length ks
    → count_of (key_runs (take (i + 1) ks)) ≡ count_of (key_runs (take i ks)) + (get_or ks i 0 % 65536 + 1 - get_or ks i 0 / 65536)
count_more [] i h = absurd (omega arith)
count_more (k ∷ ks) zero h = omega arith
count_more (k ∷ ks) (suc i) h = let more = rw add-one at (count_more ks i (omega arith)) in rw add-one (omega (arith, more))

pub count_split : (n : ℕ) (ks : List ℕ) → count_of (key_runs (take n ks)) + count_of (key_runs (drop n ks)) ≡ count_of (key_runs ks)
count_split zero ks = omega arith
count_split (suc n) [] = refl
count_split (suc n) (k ∷ ks) = omega (arith, count_split n ks)

-- the choice by the first and the last key
pub choice_keys : (p : Spellings) (ks : List ℕ) (n : ℕ) → n ≡ length ks → 0 < n
    → least_form p ((get_or ks (n - 1) 0 % 65536 + 1 + 7) / 8) (2 * capped (count_of (key_runs ks))) (4 * n - cond (eqb (get_or ks 0 0 / 65536) 0) 2 0) ≡ form_for p (key_runs ks)
choice_keys p ks n e h =
    let top : get_or ks (n - 1) 0 % 65536 ≡ (get_or (key_runs ks) (n - 1) no_run).high = ap (λ (r : Run). r.high) (sym (key_at ks (n - 1))) in
    let low : get_or ks 0 0 / 65536 ≡ (get_or (key_runs ks) 0 no_run).low = ap (λ (r : Run). r.low) (sym (key_at ks 0)) in
    (λ i. least_form p ((top i + 1 + 7) / 8) (2 * capped (count_of (key_runs ks))) (4 * n - cond (eqb (low i) 0) 2 0))
    ∙ choice_some p (key_runs ks) n (e ∙ sym (length-map ks key_run)) h

-- Over 120 keys have no form and no spelling; up to 120 have those of their runs.
module _ (p : Spellings) (ks : List ℕ) where
  pub form_over : 120 < length ks → form 0 31 ≡ keys_form p ks
  unfolding keys_form
  form_over h = rw (lt-leb (length ks) 120 h)

  pub form_within : length ks ≤ 120 → form_for p (key_runs ks) ≡ keys_form p ks
  unfolding keys_form
  form_within h = rw (le-leb (length ks) 120 h)

  -- a form that was chosen
  pub form_chosen : (f : Form) → f ≡ keys_form p ks → 0 < f.tag → (length ks ≤ 120) × (f ≡ form_for p (key_runs ks))
  form_chosen f e h = elim (dec_le (length ks) 120) [
    | yes u ↦ (u, e ∙ sym (form_within u))
    | no u ↦ (let z : f.tag ≡ 0 = ap (λ (g : Form). g.tag) (e ∙ sym (form_over (omega arith))) in absurd (omega arith))
  ]

module _ (p : Spellings) (d v : ℕ) (ks : List ℕ) where
  pub keys_over : 120 < length ks → keys_spelled p d v ks ≡ none
  unfolding keys_spelled
  keys_over h = rw (lt-leb (length ks) 120 h)

  pub keys_within : length ks ≤ 120 → keys_spelled p d v ks ≡ spelling_of p d v (key_runs ks)
  unfolding keys_spelled
  keys_within h = rw (le-leb (length ks) 120 h)

  -- no spelling where there is no form, and else the form's
  pub chosen_none : (f : Form) → f ≡ keys_form p ks → f.tag ≡ 0 → keys_spelled p d v ks ≡ none
  chosen_none f e z = elim (dec_le (length ks) 120) [
    | yes u ↦ keys_within u ∙ spelled_none p d v (key_runs ks) (ap (λ (g : Form). g.tag) (form_within p ks u ∙ sym e) ∙ z)
    | no u ↦ keys_over (omega arith)
  ]

  pub chosen_some : (f : Form) → f ≡ keys_form p ks → 0 < f.tag → keys_spelled p d v ks ≡ some (spelled_by f d v (key_runs ks))
  chosen_some f e h =
      let q = form_chosen p ks f e h in
      keys_within q.0 ∙ spelled_some p d v (key_runs ks) (rw q.1 at h) ∙ ap (λ (g : Form). some (spelled_by g d v (key_runs ks))) (sym q.1)

-- keys of at most 120 given runs
pub keys_spelled_lem : (p : Spellings) (d v : ℕ) (ks : List ℕ) (rs : List Run) → key_runs ks ≡ rs → length rs ≤ 120 → keys_spelled p d v ks ≡ spelling_of p d v rs
keys_spelled_lem p d v ks rs e h = keys_within p d v ks (omega (arith, length-map ks key_run, ap length e)) ∙ ap (spelling_of p d v) e
