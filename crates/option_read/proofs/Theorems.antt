-- The theorems of `specs/Theorems.antt`.
use Prim.Native.Nat.{ℕ, ◌≤◌, ◌<◌}
use mathlib.Core.Path.{◌≡◌, refl, ap, sym, ◌∙◌}
use mathlib.Core.List.{List}
use mathlib.Core.Bool.{Bool, true, false, not}
use mathlib.Core.Logic.{⊎_elim}
use lib.ListN.{length}
use lib.Dec.{eqb}
use native.Mathlib.Omega.{arith}
use borrow.Author.Tests.{eq-eqb, ne_eqb, eqb-true, eqb-false, not-false}
use Rattle.label.specs.declared.Label.{Label}
use Rattle.label.specs.Label.{label_of}
use Rattle.label.proofs.Bools.{less_or}
use Rattle.label.proofs.Labels.{formed}
use Rattle.option.specs.Option.{Octets, domain_of, level_of, valid, Means}
use Rattle.option.specs.Reading.{pieces, option_runs}
use Rattle.option.proofs.Meaning.{parts}
use Rattle.option_read.specs.Reading.{Reading}
use Rattle.option_read.specs.Reading.{found, not_read, tag_checks, label_in, reading_by, framed, reading_of, reading_for}
use Rattle.option_read.specs.Theorems.{ReadsAlone, ReadsFor, Reads}
use Rattle.option_read.specs.Examples.{examples, Holds}
use Rattle.option_read.proofs.Checks.{parts_framed, stops3, alone, for_port, stops7, stops8, goes_on}
use Rattle.option_read.proofs.Told.{row_back}
use Rattle.option_read.proofs.Valid.{zero_passed, passed_valid, valid_passes, read_means, means_read}

-- Rows 7 to 13, whichever domain is foreign.
module _ (foreign : Bool) (o : List ℕ) (oct : Octets o) where
  pub reads_valid : framed o ≡ true → (reading_by foreign o).number ≡ 0 → (valid o ≡ true) × (foreign ≡ false)
  reads_valid f e = ⊎_elim short long (less_or (length o) 10)
    where
      number : {r : Reading} → reading_by foreign o ≡ r → r.number ≡ 0
      number p = ap (λ (r : Reading). r.number) (sym p) ∙ e

      short : length o < 10 → (valid o ≡ true) × (foreign ≡ false)
      short h = absurd (let z : ◌≡◌ {A = ℕ} 7 0 = number (stops7 o foreign h) in omega arith)

      long : 10 ≤ length o → (valid o ≡ true) × (foreign ≡ false)
      long h = go foreign refl
        where
          go : (b : Bool) → foreign ≡ b → (valid o ≡ true) × (foreign ≡ false)
          go true p = absurd (let z : ◌≡◌ {A = ℕ} 8 0 = number (stops8 o foreign p h) in omega arith)
          go false p = (passed_valid o oct f h (zero_passed o (number (goes_on o foreign p h))), p)

  pub valid_reads : valid o ≡ true → foreign ≡ false → reading_by foreign o ≡ found (label_of (domain_of o) (level_of o) (option_runs o))
  valid_reads v p = goes_on o foreign p (parts o v).long ∙ valid_passes o oct v

valid_framed : (o : List ℕ) → valid o ≡ true → framed o ≡ true
valid_framed o v =
    let p = parts o v in
    parts_framed o (record { long = omega (arith, p.long); kind = p.kind; size = p.size })

owned : (o : List ℕ) (l : Label) → Means o l → domain_of o ≡ 0 → ⊥
owned o l m e = (formed l m.label).owned (sym m.domain ∙ e)

-- Read alone.
module _ (o : List ℕ) where
  framed_zero : (reading_of o).number ≡ 0 → framed o ≡ true
  framed_zero e = go (framed o) refl
    where
      go : (b : Bool) → framed o ≡ b → b ≡ true
      go true p = refl
      go false p =
          absurd
          (let z : ◌≡◌ {A = ℕ} 3 0 = ap (λ (r : Reading). r.number) (sym (stops3 o (λ f. mathlib.Core.Bool.true≢false (sym (parts_framed o f) ∙ p)))) ∙ e in
          omega arith)

  pub alone_reads : Octets o → valid o ≡ true → (domain_of o ≡ 0 → ⊥) → reading_of o ≡ found (label_of (domain_of o) (level_of o) (option_runs o))
  alone_reads oct v n = alone o (valid_framed o v) ∙ valid_reads (eqb (domain_of o) 0) o oct v (ne_eqb (domain_of o) 0 n)

  pub alone_valid : Octets o → (reading_of o).number ≡ 0 → (valid o ≡ true) × (domain_of o ≡ 0 → ⊥)
  alone_valid oct e =
      let f = framed_zero e in
      let r = reads_valid (eqb (domain_of o) 0) o oct f (ap (λ (x : Reading). x.number) (sym (alone o f)) ∙ e) in
      (r.0, eqb-false _ _ r.1)

pub reads_alone : ReadsAlone
reads_alone =
    record {
      exactly = λ o oct. (alone_valid o oct, λ p. ap (λ (x : Reading). x.number) (alone_reads o oct p.0 p.1));
      means = λ o oct e.
          let p = alone_valid o oct e in
          rw (alone_reads o oct p.0 p.1) (read_means o oct p.0 p.1);
      back = λ o l m. alone_reads o m.octets m.good (owned o l m) ∙ ap found (means_read o l m);
      row = row_back;
    }

-- Read for a port.
module _ (d : ℕ) (o : List ℕ) where
  pub port_reads : Octets o → valid o ≡ true → domain_of o ≡ d → reading_for d o ≡ found (label_of (domain_of o) (level_of o) (option_runs o))
  port_reads oct v e = for_port d o ∙ valid_reads (not (eqb (domain_of o) d)) o oct v (ap not (eq-eqb (domain_of o) d e))

  pub port_valid : Octets o → framed o ≡ true → (reading_for d o).number ≡ 0 → (valid o ≡ true) × (domain_of o ≡ d)
  port_valid oct f e =
      let r = reads_valid (not (eqb (domain_of o) d)) o oct f (ap (λ (x : Reading). x.number) (sym (for_port d o)) ∙ e) in
      (r.0, eqb-true _ _ (not-false _ r.1))

pub reads_for : (d : ℕ) → ReadsFor d
reads_for d =
    record {
      exactly = λ o oct f. (port_valid d o oct f, λ p. ap (λ (x : Reading). x.number) (port_reads d o oct p.0 p.1));
      means = λ o oct f n e.
          let p = port_valid d o oct f e in
          rw (port_reads d o oct p.0 p.1) (read_means o oct p.0 (λ z. n (sym p.1 ∙ z)));
      back = λ o l m e. port_reads d o m.octets m.good (m.domain ∙ e) ∙ ap found (means_read o l m);
    }

-- an option of another domain is refused as such
pub port_foreign : (d : ℕ) (o : List ℕ) → valid o ≡ true → (domain_of o ≡ d → ⊥) → reading_for d o ≡ not_read 8 2
port_foreign d o v n = for_port d o ∙ stops8 o (not (eqb (domain_of o) d)) (ap not (ne_eqb (domain_of o) d n)) (parts o v).long

pub reads : Reads
reads = record { alone = reads_alone; for = reads_for }

pub examples_hold : Holds examples
unfolding reading_of reading_by tag_checks label_in pieces
examples_hold = (refl, (refl, (refl, (refl, (refl, (refl, (refl, (refl, (refl, (refl, (refl, (refl, (refl, (refl, (refl, (refl, (refl, (refl, (refl, (refl, (refl, (refl, (refl, (refl, (refl, (refl, (refl, tt)))))))))))))))))))))))))))
