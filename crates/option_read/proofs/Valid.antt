-- An option passes every check exactly where it is valid; and what is then read is the label that it means.
use Prim.Native.Nat.{ℕ, ◌+◌, ◌-◌, ◌*◌, ◌/◌, ◌%◌, ◌≤◌, ◌<◌}
use mathlib.Core.Path.{◌≡◌, refl, ap, sym, ◌∙◌}
use mathlib.Core.List.{List, [], ◌∷◌}
use mathlib.Core.Bool.{Bool, true, false, cond}
use mathlib.Core.Logic.{⊎_elim}
use lib.ListN.{length, drop, length-drop}
use lib.Seq.{take_all}
use native.Mathlib.Omega.{arith}
use borrow.Author.Tests.{le-leb, ltb-false, eqb-true, eq-eqb, not-false}
use Rattle.label.specs.declared.Label.{Label}
use Rattle.label.specs.Runs.{joined}
use Rattle.label.specs.Label.{label_of, used, well_formed}
use Rattle.label.proofs.Canon.{canon_spaced}
use Rattle.label.proofs.Labels.{formed, well_formed_lem, used_of, formed_of, of_used}
use Rattle.option.specs.Option.{Octets, domain_of, tag_of, tag_length_of, level_of, body_of, good_body, valid, Means}
use Rattle.option.specs.Reading.{pieces, option_runs}
use Rattle.option.specs.Index.{first_true, bad_number, bad_pair, pairs_of}
use Rattle.option.proofs.Forms.{means_runs, runs_means, formed_runs}
use Rattle.option.proofs.Meaning.{parts, parts_valid, Tagged, one, two, five, tagged, reads_canon, reads_covers, reads_fit, reads_back}
use Rattle.option.proofs.Bad.{good_numbers, good_pairs}
use Rattle.option.proofs.Octets.{octet_at_lem, octets_drop}
use Rattle.option_read.specs.Reading.{Check, found, not_read, checked_reading, known_tag, categories_in, bad_place, tag_checks, label_in, framed}
use Rattle.option_read.proofs.Loops.{first_most}
use Rattle.option_read.proofs.Checks.{known_cases, Lengths, lengths, good_lengths, Past, framed_parts, passes}

-- What the checks say of a tag's categories.
pub record Kept (t : ℕ) (b : List ℕ) : Type 0 where
  pub known : known_tag t ≡ true
  pub sized : Lengths t (length b + 4) (length b + 10)
  pub fine : length b ≤ bad_place t b

-- No number or pair is bad: each tag's body is good.
module _ (b : List ℕ) (oct : Octets b) where
  good_one : length b ≤ 30 → good_body 1 b ≡ true
  unfolding good_body
  good_one h = rw (le-leb (length b) 30 h)

  good_two : length b ≤ 30 → length b % 2 ≡ 0 → length b ≤ 2 * first_true (bad_number b) (length b / 2) → good_body 2 b ≡ true
  unfolding good_body
  good_two h even f =
      let all : first_true (bad_number b) (length b / 2) ≡ length b / 2 = omega (arith, first_most (bad_number b) (length b / 2)) in
      rw (eq-eqb (length b % 2) 0 even, le-leb (length b) 30 h, (good_numbers b even oct).0 all)

  good_five : length b ≤ 28 → length b % 2 ≡ 0 → length b ≤ 4 * first_true (bad_pair b) (pairs_of b) → good_body 5 b ≡ true
  unfolding good_body
  good_five h even f =
      let all : first_true (bad_pair b) (pairs_of b) ≡ pairs_of b = omega (arith, first_most (bad_pair b) (pairs_of b)) in
      rw (eq-eqb (length b % 2) 0 even, le-leb (length b) 28 h, (good_pairs b even oct).0 all)

  pub kept_good : (t : ℕ) → Kept t b → good_body t b ≡ true
  kept_good t k = ⊎_elim one' (⊎_elim two' five') (known_cases t k.known)
    where
      one' : t ≡ 1 → good_body t b ≡ true
      one' e = ap (λ (z : ℕ). good_body z b) e ∙ good_one (omega (arith, k.sized.most))

      two' : t ≡ 2 → good_body t b ≡ true
      two' e =
          let f : length b ≤ 2 * first_true (bad_number b) (length b / 2) = rw e at k.fine in
          ap (λ (z : ℕ). good_body z b) e ∙ good_two (omega (arith, k.sized.most)) (omega (arith, k.sized.even (λ z. omega arith))) f

      five' : t ≡ 5 → good_body t b ≡ true
      five' e =
          let f : length b ≤ 4 * first_true (bad_pair b) (pairs_of b) = rw e at k.fine in
          ap (λ (z : ℕ). good_body z b) e ∙ good_five (omega (arith, k.sized.five e)) (omega (arith, k.sized.even (λ z. omega arith))) f

  -- and a good body passes
  pub good_kept : (t : ℕ) → Tagged b t → Kept t b
  good_kept t (one h) =
      record {
        known = refl;
        sized = record { least = omega arith; most = omega arith; even = λ n. absurd (n refl); five = λ e. absurd (omega arith); inside = omega arith };
        fine = omega arith;
      }
  good_kept t (two e h r) =
      record {
        known = refl;
        sized = record { least = omega arith; most = omega arith; even = λ n. omega arith; five = λ z. absurd (omega arith); inside = omega arith };
        fine = omega (arith, (good_numbers b e oct).1 r);
      }
  good_kept t (five e h r) =
      record {
        known = refl;
        sized = record { least = omega arith; most = omega arith; even = λ n. omega arith; five = λ z. omega arith; inside = omega arith };
        fine = omega (arith, (good_pairs b e oct).1 r);
      }

-- Every check is passed.
pub record Passed (o : List ℕ) : Type 0 where
  pub past : Past o
  pub fine : length (categories_in o) ≤ bad_place (tag_of o) (categories_in o)
  pub ends : length o ≤ tag_length_of o + 6

abbrev Numbered : List Check → Type 0
Numbered [] = Unit {0}
Numbered (c ∷ cs) = (0 < c.number) × Numbered cs

abbrev NoneApplies : List Check → Type 0
NoneApplies [] = Unit {0}
NoneApplies (c ∷ cs) = (c.applies ≡ false) × NoneApplies cs

zero_none : (cs : List Check) (l : Label) → Numbered cs → (checked_reading cs l).number ≡ 0 → NoneApplies cs
zero_none [] l h e = tt
zero_none (c ∷ cs) l h e = go c.applies refl (zero_none cs l h.1) e
  where
    go : (b : Bool) → c.applies ≡ b → ((checked_reading cs l).number ≡ 0 → NoneApplies cs) → (cond b (not_read c.number c.pointer) (checked_reading cs l)).number ≡ 0 → NoneApplies (c ∷ cs)
    go true p rest q = absurd (omega arith)
    go false p rest q = (p, rest q)

module _ (o : List ℕ) where
  pub zero_passed : (checked_reading (tag_checks o) (label_in o)).number ≡ 0 → Passed o
  unfolding tag_checks
  zero_passed e =
      let n = zero_none (tag_checks o) (label_in o) (omega arith, (omega arith, (omega arith, (omega arith, (omega arith, tt))))) e in
      record {
        past =
            record {
              known = not-false _ n.0;
              sized = not-false _ n.1.0;
              aligned = eqb-true _ _ (not-false _ n.1.1.0);
            };
        fine = ltb-false _ _ n.1.1.1.0;
        ends = ltb-false _ _ n.1.1.1.1.0;
      }

  -- an option that ends with its tag has its categories after the level
  pub body_is : tag_length_of o + 6 ≡ length o → categories_in o ≡ body_of o
  body_is e = take_all (tag_length_of o - 4) (drop 10 o) (omega (arith, length-drop 10 o))

  -- and what is read is the label of its runs
  pub label_of_lem : tag_length_of o + 6 ≡ length o → label_in o ≡ label_of (domain_of o) (level_of o) (option_runs o)
  unfolding label_in option_runs
  label_of_lem e = ap (λ (b : List ℕ). label_of (domain_of o) (level_of o) (joined (pieces (tag_of o) b))) (body_is e)

  module _ (oct : Octets o) where
    pub passed_valid : framed o ≡ true → 10 ≤ length o → Passed o → valid o ≡ true
    passed_valid f h p =
        let l = lengths (tag_of o) (tag_length_of o) (length o) p.past.sized in
        let e : tag_length_of o + 6 ≡ length o = omega (arith, l.inside, p.ends) in
        let n : length (body_of o) + 4 ≡ tag_length_of o = omega (arith, length-drop 10 o) in
        let m : length (body_of o) + 10 ≡ length o = omega (arith, length-drop 10 o) in
        parts_valid o
        (record {
          long = h;
          kind = (framed_parts o f).kind;
          size = (framed_parts o f).size;
          tag_size = e;
          aligned = p.past.aligned;
          body =
              kept_good (body_of o) (octets_drop 10 o oct) (tag_of o)
              (record { known = p.past.known; sized = rw (n, m) l; fine = rw (body_is e) at p.fine });
        })

    pub valid_passed : valid o ≡ true → Passed o
    valid_passed v =
        let p = parts o v in
        let e : tag_length_of o + 6 ≡ length o = p.tag_size in
        let n : length (body_of o) + 4 ≡ tag_length_of o = omega (arith, length-drop 10 o, p.long) in
        let m : length (body_of o) + 10 ≡ length o = omega (arith, length-drop 10 o, p.long) in
        let k = good_kept (body_of o) (octets_drop 10 o oct) (tag_of o) (tagged (tag_of o) (body_of o) p.body) in
        record {
          past = record { known = k.known; sized = good_lengths (tag_of o) (tag_length_of o) (length o) (rw (n, m) at k.sized); aligned = p.aligned };
          fine = rw (body_is e) k.fine;
          ends = omega arith;
        }

    pub valid_passes : valid o ≡ true → checked_reading (tag_checks o) (label_in o) ≡ found (label_of (domain_of o) (level_of o) (option_runs o))
    valid_passes v =
        let q = valid_passed v in
        passes o q.past q.fine q.ends ∙ ap found (label_of_lem (parts o v).tag_size)

    -- what is read of a valid option is the label that it means
    pub read_means : valid o ≡ true → (domain_of o ≡ 0 → ⊥) → Means o (label_of (domain_of o) (level_of o) (option_runs o))
    read_means v n =
        let l : Label = label_of (domain_of o) (level_of o) (option_runs o) in
        let g = reads_canon o v in
        let w : well_formed l ≡ true =
        well_formed_lem l
        (formed_of (domain_of o) (level_of o) (option_runs o) (omega arith)
        (omega (arith, octet_at_lem o 2 oct, octet_at_lem o 3 oct, octet_at_lem o 4 oct, octet_at_lem o 5 oct))
        (omega (arith, octet_at_lem o 9 oct))
        (reads_fit o v)
        (canon_spaced 0 (option_runs o) g.0 g.1)) in
        runs_means o l w
        (rw (used_of (domain_of o) (level_of o) (option_runs o))
        (record {
          octets = oct;
          good = v;
          owned = omega arith;
          domain = refl;
          level = refl;
          members = λ c. sym (reads_covers o v c);
        }))

-- an option that means a label is read to it
pub means_read : (o : List ℕ) (l : Label) → Means o l → label_of (domain_of o) (level_of o) (option_runs o) ≡ l
means_read o l m =
    let r = means_runs o l m in
    let w = formed_runs l m.label in
    let e : label_of (domain_of o) (level_of o) (option_runs o) ≡ label_of l.domain l.level (used l) =
    λ i. label_of (m.domain i) (m.level i) (reads_back o l.domain l.level (used l) r w.canon i) in
    e ∙ sym (of_used l (formed l m.label))
