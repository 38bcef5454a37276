-- Laws of reading into keys: what each return of the readers leaves.
use Prim.Native.Nat.{ℕ, ◌%◌, ◌≤◌, ◌<◌}
use mathlib.Core.Path.{◌≡◌, refl, ap, sym, ◌∙◌}
use mathlib.Core.List.{List}
use mathlib.Core.Bool.{Bool, true, false, not, cond, ◌&&◌}
use mathlib.Core.Logic.{⊎_elim}
use lib.ListN.{length, take, drop, length-map}
use lib.Seq.{take_at}
use lib.Dec.{eqb}
use native.Mathlib.Omega.{arith}
use borrow.Author.Tests.{lt-ltb, le-ltb, ne_eqb, eqb-true, not-false}
use Rattle.label.specs.declared.Run.{Run}
use Rattle.label.specs.declared.Label.{Label}
use Rattle.label.proofs.Bools.{less_or, never}
use Rattle.label.specs.Runs.{joined}
use Rattle.label.specs.Label.{label_of}
use Rattle.label_keys.specs.Keys.{key_runs, run_key, label_from}
use Rattle.label_keys.proofs.Keys.{label_fits}
use Rattle.option.specs.Option.{domain_of, tag_of, level_of}
use Rattle.option.specs.Reading.{pieces}
use Rattle.std.specs.Prelude.{Result, Ok, Err}
use Rattle.option_read.specs.declared.Fault.{Fault}
use Rattle.option_read.specs.declared.KeysRead.{KeysRead}
use Rattle.option_read_numbers.specs.Numbers.{at_front}
use Rattle.option_read.specs.Reading.{Reading, fault, told, found, not_read, checked_reading, categories_in, tag_checks, label_in, framed, reading_by, reading_of}
use Rattle.option_read.specs.Keys.{KeyReading, row_of, Refused, runs_in, keys_in, keyed, with_label, labelled, early, keys_with, key_reading_for, keys_after, ReadsKeys}
use Rattle.option_read.specs.Stages.{PassOver, ReadsTag, foreign_to, reading_both, ReadsRows, ReadsChecked}
use Rattle.option_read.proofs.Checks.{parts_framed, stops3, alone, for_port}
use Rattle.option_read.proofs.Loops.{runs_joined, good_of}

-- a refusal has the all-zero label, whatever the keys are
pub refused_label : (d : ℕ) (keys : List ℕ) (n p : ℕ) → (n ≡ 0 → ⊥) → labelled d (keyed (not_read n p)) keys ≡ not_read n p
refused_label d keys n p z = rw (ne_eqb n 0 z)

module _ (o keys keys' : List ℕ) (n p : ℕ) (z : n ≡ 0 → ⊥) (f : checked_reading (tag_checks o) (label_in o) ≡ not_read n p) (r : Result KeysRead Fault) (q : r ≡ Err (fault n p)) where
  pub refused_tag : keys' ≡ at_front (keys_with (not_read n p) o) keys → ReadsTag o keys keys' r
  refused_tag e =
      rw q
      (record {
        refused = z;
        answer = ap keyed (sym f);
        left = e ∙ ap (λ (x : Reading). at_front (keys_with x o) keys) (sym f);
        held = omega arith;
        reading = refused_label (domain_of o) keys' n p z ∙ sym f;
      })

-- The categories are read: the keys stand for the runs of the label.
module _ (o keys keys' : List ℕ) (count : ℕ) (p : PassOver (tag_of o) (categories_in o) keys keys' (Ok count)) (even : (tag_of o ≡ 1 → ⊥) → length (categories_in o) % 2 ≡ 0)
    (f : checked_reading (tag_checks o) (label_in o) ≡ found (label_in o)) where
  whole : runs_in (tag_of o) (categories_in o) ≡ joined (pieces (tag_of o) (categories_in o))
  whole = runs_joined (tag_of o) (categories_in o) even (good_of count p).1

  taken : key_runs (take count keys') ≡ joined (pieces (tag_of o) (categories_in o))
  taken =
      let n : length (keys_in (tag_of o) (categories_in o)) ≡ count = length-map (runs_in (tag_of o) (categories_in o)) run_key ∙ sym (good_of count p).0 in
      ap (λ (z : List ℕ). key_runs (take count z)) p.left
      ∙ ap key_runs (take_at (keys_in (tag_of o) (categories_in o)) (drop (length (keys_in (tag_of o) (categories_in o))) keys) count n)
      ∙ p.stands
      ∙ whole

  pub found_tag : ReadsTag o keys keys' (Ok (record { level = level_of o; count = count }))
  unfolding label_in
  found_tag =
      let n : count ≡ length (joined (pieces (tag_of o) (categories_in o))) = (good_of count p).0 ∙ ap length whole in
      let ks : List ℕ = keys_in (tag_of o) (categories_in o) in
      let a : ◌≡◌ {A = KeyReading} (record { number = 0; pointer = 0; level = level_of o; count = count }) (keyed (found (label_in o))) = λ i. record { number = 0; pointer = 0; level = level_of o; count = n i } in
      record {
        refused = tt;
        answer = a ∙ ap keyed (sym f);
        left = p.left ∙ ap (λ (x : Reading). at_front (keys_with x o) keys) (sym f);
        held = p.held;
        reading = ap (λ (rs : List Run). found (label_of (domain_of o) (level_of o) rs)) taken ∙ sym f;
      }

-- Past row 3 an option alone is read as for a port.
pub past_three : (alone : Bool) (d : ℕ) (o : List ℕ) → (alone && not (framed o)) ≡ false → reading_both alone d o ≡ reading_by (foreign_to alone d (domain_of o)) o
past_three true d o e = alone o (go (framed o) e)
  where
    go : (t : Bool) → not t ≡ false → t ≡ true
    go true e = refl
    go false e = sym e
past_three false d o e = for_port d o

pub stops_three : (alone : Bool) (d : ℕ) (o : List ℕ) → (alone && not (framed o)) ≡ true → (reading_both alone d o ≡ not_read 3 0) × (alone ≡ false → early 3 ≡ true)
stops_three true d o e = (stops3 o (λ f. never (sym (rw (parts_framed o f) at e))), λ a. absurd (never a))
stops_three false d o e = absurd (never (sym e))

-- A domain that is not foreign to a port is the port's.
pub foreign_none : (alone : Bool) (d f : ℕ) → foreign_to alone d f ≡ false → alone ≡ false → f ≡ d
foreign_none true d f e a = absurd (never a)
foreign_none false d f e a = eqb-true f d (not-false _ e)

-- Each refusal.
pub stopped : (alone : Bool) (d : ℕ) (o keys : List ℕ) (n p : ℕ) → (n ≡ 0 → ⊥) → reading_both alone d o ≡ not_read n p → (alone ≡ false → early n ≡ true)
    → (r : Result KeysRead Fault) → r ≡ Err (fault n p) → ReadsRows alone d o keys keys r
stopped alone d o keys n p z f e r q =
    rw q
    (record {
      refused = z;
      answer = ap keyed (sym f);
      left = λ a. rw (f, e a);
      held = omega arith;
      long = λ b. absurd (z b);
      own = λ a b. absurd (z b);
      reading = refused_label (domain_of o) keys n p z ∙ sym f;
    })

-- Past rows 7 and 8.
pub tag_checked : (alone : Bool) (d : ℕ) {o keys keys' : List ℕ} {r : Result KeysRead Fault} → ReadsTag o keys keys' r → reading_both alone d o ≡ checked_reading (tag_checks o) (label_in o)
    → 10 ≤ length o → (alone ≡ false → domain_of o ≡ d) → ReadsRows alone d o keys keys' r
tag_checked alone d {o} {keys} {keys'} {r} t f h e =
    record {
      refused = t.refused;
      answer = t.answer ∙ ap keyed (sym f);
      left = λ a. t.left ∙ ap (λ (x : Reading). at_front (keys_with x o) keys) (sym f);
      held = t.held;
      long = λ b. h;
      own = λ a b. e a;
      reading = t.reading ∙ sym f;
    }

-- Alone: the label is made of the keys.
pub refused_alone : (o : List ℕ) (d : ℕ) {keys keys' : List ℕ} (f : Fault) → ReadsRows true d o keys keys' (Err f) → Err f ≡ told (reading_of o)
refused_alone o d {keys} {keys'} f t = rw (← t.reading, ne_eqb f.number 0 t.refused) refl

pub checked_alone : (o : List ℕ) (d : ℕ) {keys keys' : List ℕ} (k : KeysRead) → ReadsRows true d o keys keys' (Ok k) → k.count ≤ length keys'
    → (l : Label) → l ≡ label_from (domain_of o) k.level (key_runs (take k.count keys')) → Ok l ≡ told (reading_of o)
checked_alone o d {keys} {keys'} k t h l e =
    rw (← t.reading) (ap (λ (x : Label). Ok x) (e ∙ sym (label_fits (domain_of o) k.level keys' k.count k.count (omega arith) t.held)))

-- For a port.
module _ (d : ℕ) (o keys : List ℕ) where
  no_room : (keys' : List ℕ) (r : Result KeysRead Fault) → (r ≡ Err (fault 1 0)) × (keys' ≡ keys) → length keys < 120 → ReadsKeys d o keys keys' (row_of r) × Refused r
  unfolding key_reading_for keys_after
  no_room keys' r q h =
      rw (q.0, q.1) (
        record {
          answer = rw (lt-ltb (length keys) 120 h);
          left = rw (lt-ltb (length keys) 120 h);
          held = omega arith;
          reading = λ k. absurd (omega arith);
        },
        λ z. absurd (omega arith),
      )

  roomy : (keys' : List ℕ) (r : Result KeysRead Fault) → ReadsRows false d o keys keys' r → 120 ≤ length keys → ReadsKeys d o keys keys' (row_of r) × Refused r
  unfolding key_reading_for keys_after
  roomy keys' r t h = (
    record {
      answer = rw (le-ltb (length keys) 120 h) t.answer;
      left = rw (le-ltb (length keys) 120 h) (t.left refl);
      held = t.held;
      reading = λ k. ap (λ (x : ℕ). with_label x (row_of r) keys') (go (eqb (row_of r).number 0) refl) ∙ t.reading;
    },
    t.refused,
  )
    where
      go : (b : Bool) → eqb (row_of r).number 0 ≡ b → cond b d 0 ≡ cond b (domain_of o) 0
      go true e = sym (t.own refl (eqb-true _ _ e))
      go false e = refl

  pub checked_for : (keys' : List ℕ) (r : Result KeysRead Fault) → ReadsChecked false d o keys keys' r → ReadsKeys d o keys keys' (row_of r) × Refused r
  checked_for keys' r t = ⊎_elim (λ h. no_room keys' r (t.short h) h) (λ h. roomy keys' r (t.read h) h) (less_or (length keys) 120)
