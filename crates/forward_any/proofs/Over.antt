-- Past check 16: what the keys of the far domain stand for.
use mathlib.Core.Path.{◌≡◌, refl, sym, ◌∙◌, ap}
use mathlib.Core.Bool.{Bool, true, false, cond, ◌&&◌}
use mathlib.Core.List.{List}
use mathlib.Core.Option.{none}
use Prim.Native.Nat.{ℕ, ◌+◌, ◌≤◌, min}
use native.Mathlib.Omega.{arith}
use lib.Dec.{eqb}
use lib.ListN.{length, take, drop, length-take}
use lib.Seq.{take-append-le, take-take}
use borrow.Author.Tests.{eq-eqb}
use Rattle.std.specs.Prelude.{Ok, Err}
use Rattle.lists.specs.Lists.{copied}
use Rattle.label.specs.declared.Run.{Run}
use Rattle.label.specs.Runs.{spaced}
use Rattle.label.specs.Label.{used, well_formed}
use Rattle.label_keys.specs.Keys.{key_runs}
use Rattle.label.proofs.Bools.{and_right}
use Rattle.label.proofs.Labels.{formed, used_length}
use Rattle.table.specs.Table.{used_rows, table_sound}
use Rattle.table_levels.specs.Levels.{Partner, known, level_or0}
use Rattle.table.specs.Numbers.{numbered}
use Rattle.renumber_keys.specs.declared.CarryError.TheVariants.{NoNumber}
use Rattle.renumber.specs.Renumber.{image_runs}
use Rattle.renumber_keys.specs.Carry.{CarryAnswer, carried_as, carried_to, carried_keys, carry_of}
use Rattle.renumber_keys.proofs.Carrying.{label_runs_lem, carry_checked, carry_unsound, carried_yes, carried_runs, image_spaced}
use Rattle.forward_rules.specs.Crossing.{Crossing, stays, partner, has_numbers, number_check, leaving_level, leaving_runs}
use Rattle.decision.specs.declared.Passed.{Passed}
use Rattle.decision.specs.Verdict.{Verdict, passed_with, stopped, going}
use Rattle.forward_cross.specs.Crossed.{numbered_by}

-- Past check 16: the keys stand for the whole set with which the datagram leaves.
pub record Over (x : Crossing) (keys : List ℕ) : Type 0 where
  pub numbers : number_check x ≡ none
  pub stands : key_runs (take (length (leaving_runs x)) keys) ≡ leaving_runs x
  pub gaps : spaced 0 (leaving_runs x) ≡ true

-- what passes then
abbrev pub leaving_passed : Crossing → Passed
leaving_passed x = passed_with (leaving_level x) (length (leaving_runs x))

abbrev pub leaving_verdict : Crossing → Verdict
leaving_verdict x = Ok (leaving_passed x)

-- With equal domains the keys that arrived are those that leave.
module _ (x : Crossing) (w : well_formed x.label ≡ true) (same : x.domain ≡ x.leaving.domain) (own far keys : List ℕ)
    (room : 120 ≤ length own) (held : key_runs (take x.label.count own) ≡ used x.label) (space : 120 ≤ length far) (is : keys ≡ copied own far) where
  runs_are : leaving_runs x ≡ used x.label
  unfolding leaving_runs
  runs_are = rw (eq-eqb x.domain x.leaving.domain same)

  many : length (leaving_runs x) ≡ x.label.count
  many = ap length runs_are ∙ used_length x.label (formed x.label w)

  first_keys : take x.label.count keys ≡ take x.label.count own
  first_keys =
      let f = (formed x.label w).held in
      let n : length (take (length far) own) ≡ min (length far) (length own) = length-take (length far) own in
      ap (take x.label.count) is
      ∙ take-append-le x.label.count (take (length far) own) (drop (length own) far) (omega arith)
      ∙ take-take x.label.count (length far) own (omega arith)

  pub stays_verdict : going x.label.level x.label.count ≡ leaving_verdict x
  unfolding leaving_level
  stays_verdict = rw (eq-eqb x.domain x.leaving.domain same) (ap (going x.label.level) (sym many))

  pub stays_over : Over x keys
  unfolding number_check
  stays_over =
      record {
        numbers = rw (eq-eqb x.domain x.leaving.domain same);
        stands = ap (λ (n : ℕ). key_runs (take n keys)) many ∙ ap key_runs first_keys ∙ held ∙ sym runs_are;
        gaps = rw runs_are (formed x.label w).runs;
      }

-- What is said of what was carried.
numbered_to : (a b : Bool) (p : Partner) (whole : Bool) (image : List Run)
    → numbered_by (carried_to p whole image) a b ≡ cond (a && (b && (known p && whole))) (going (level_or0 p) (length image)) (stopped 16 3 9 0)
unfolding numbered_by carried_to
numbered_to a b p whole image = go (known p && whole) a b
  where
    go : (w a b : Bool) → numbered_by (cond w (carried_as (level_or0 p) (length image)) (Err NoNumber)) a b ≡ cond (a && (b && w)) (going (level_or0 p) (length image)) (stopped 16 3 9 0)
    go true true true = refl
    go true true false = refl
    go true false b = refl
    go false true true = refl
    go false true false = refl
    go false false b = refl

-- With other domains a sound table carries them.
module _ (x : Crossing) (apart : stays x ≡ false) (w : well_formed x.label ≡ true) (far keys : List ℕ) (room : table_sound x.table x.levels ≡ true → 120 + x.table.count ≤ length far) (c : CarryAnswer)
    (is : c ≡ carry_of (used x.label) x.label.level x.table x.levels (length far)) where
  abbrev image : List Run
  image = image_runs x.label x.table

  abbrev whole : Bool
  whole = numbered (used_rows x.table) (used x.label)

  abbrev said : Verdict
  said = numbered_by c (eqb x.table.from x.domain) (eqb x.table.to x.leaving.domain)

  pub unsound_verdict : table_sound x.table x.levels ≡ false → said ≡ stopped 2 0 0 0
  unfolding numbered_by
  unsound_verdict t =
      ap (λ (d : CarryAnswer). numbered_by d (eqb x.table.from x.domain) (eqb x.table.to x.leaving.domain)) (is ∙ carry_unsound (used x.label) x.label.level x.table x.levels (length far) t)

  module _ (t : table_sound x.table x.levels ≡ true) where
    checked : c ≡ carried_to (partner x) whole image
    checked = is ∙ carry_checked (used x.label) x.label.level x.table x.levels (length far) t (label_runs_lem x.label w) (room t)

    said_is : said ≡ cond (has_numbers x) (going (level_or0 (partner x)) (length image)) (stopped 16 3 9 0)
    said_is =
        ap (λ (d : CarryAnswer). numbered_by d (eqb x.table.from x.domain) (eqb x.table.to x.leaving.domain)) checked
        ∙ numbered_to (eqb x.table.from x.domain) (eqb x.table.to x.leaving.domain) (partner x) whole image

    pub numberless_verdict : has_numbers x ≡ false → said ≡ stopped 16 3 9 0
    numberless_verdict h = said_is ∙ rw h

    module _ (h : has_numbers x ≡ true) where
      all_numbered : (known (partner x) && whole) ≡ true
      all_numbered = and_right (eqb x.table.to x.leaving.domain) _ (and_right (eqb x.table.from x.domain) _ h)

      carried_is : c ≡ carried_as (level_or0 (partner x)) (length image)
      carried_is = checked ∙ carried_yes (partner x) whole image all_numbered

      runs_far : leaving_runs x ≡ image
      unfolding leaving_runs
      runs_far = rw apart

      pub carried_verdict_lem : said ≡ leaving_verdict x
      unfolding leaving_level leaving_runs
      carried_verdict_lem = said_is ∙ rw (h, apart)

      pub carried_over : keys ≡ carried_keys c image far → Over x keys
      unfolding number_check
      carried_over e =
          record {
            numbers = rw (apart, h);
            stands = ap (λ (rs : List Run). key_runs (take (length rs) keys)) runs_far
                ∙ ap (λ (ks : List ℕ). key_runs (take (length image) ks)) e
                ∙ carried_runs image far c _ carried_is (image_spaced x.table (used x.label))
                ∙ sym runs_far;
            gaps = rw runs_far (image_spaced x.table (used x.label));
          }
