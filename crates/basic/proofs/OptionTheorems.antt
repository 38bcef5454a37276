-- The theorems of `specs/Theorems.antt`.
use Prim.Native.Nat.{ℕ, ◌+◌, ◌*◌, ◌/◌, ◌%◌, ◌≤◌, ◌<◌}
use mathlib.Core.Path.{◌≡◌, refl, sym, ap, subst⁻¹, ◌∙◌}
use mathlib.Core.Bool.{Bool, true, false}
use mathlib.Core.List.{List, [], ◌∷◌, ◌++◌}
use mathlib.Core.Logic.{◌↔◌}
use native.Mathlib.Omega.{arith}
use native.Mathlib.Decide.{dec_le}
use lib.ListN.{length, take, drop, length-append, length-drop}
use lib.Seq.{take_at, drop_at}
use borrow.Author.Tests.{leb-true}
use Rattle.label.proofs.Bools.{never, and_left, and_right, not_yes}
use Rattle.std.specs.Prelude.{is_some, Some, None, Result, Ok, Err}
use Rattle.option.specs.Option.{Octets}
use Rattle.basic.specs.declared.BasicReading.{BasicReading}
use Rattle.basic.specs.declared.BasicError.{BasicError}
use Rattle.basic.specs.declared.BasicError.TheVariants.{Short, Bad}
use Rattle.basic.specs.Levels.{is_level}
use Rattle.basic.specs.Option.{basic_level, basic_flags, basic_valid, BasicMeans}
use Rattle.basic.specs.Alone.{BasicRead, reading_row, basic_found, basic_reading, basic_option, writable, number_of, writing_row, basic_writing, basic_out}
use Rattle.basic.specs.OptionTheorems.{ReadsBasic, OneMeaning, ShortestBasic, WritesBasic}
use Rattle.basic.proofs.Levels.{level_octet}
use Rattle.basic.proofs.Form.{Form, bare, one, two, form, bare_valid, one_valid, two_valid}
use Rattle.basic.proofs.Writing.{FlagsFor, no_flags_lem, first_only, both_octets, flags_for, option_none, option_one, option_two, writes_short, writes_bad, writes_done, can_write, refused_by, done_by}

-- Reading.

reading_found : (o : List ℕ) → basic_valid o ≡ true → basic_reading o ≡ basic_found (basic_level o) (basic_flags o)
unfolding basic_reading
reading_found o e = rw e

reading_none : (o : List ℕ) → basic_valid o ≡ false → basic_reading o ≡ None
unfolding basic_reading
reading_none o e = rw e

reading_valid : (o : List ℕ) → is_some (basic_reading o) ≡ true → basic_valid o ≡ true
reading_valid o e = go (basic_valid o) refl
  where
    go : (t : Bool) → basic_valid o ≡ t → basic_valid o ≡ true
    go true p = p
    go false p = absurd (never (sym e ∙ ap is_some (reading_none o p)))

means_own : (o : List ℕ) → Octets o → basic_valid o ≡ true → BasicMeans o (basic_level o) (basic_flags o)
means_own o h e = record { octets = h; good = e; level = refl; flags = refl }

reading_back : (o : List ℕ) (v f : ℕ) → BasicMeans o v f → basic_reading o ≡ basic_found v f
reading_back o v f m = reading_found o m.good ∙ (λ i. basic_found (m.level i) (m.flags i))

reading_means : (o : List ℕ) (r : BasicReading) → Octets o → basic_reading o ≡ Some r → BasicMeans o r.level r.flags
reading_means o r h e =
    let g = reading_valid o (ap is_some e) in
    let k : Some r ≡ basic_found (basic_level o) (basic_flags o) = sym e ∙ reading_found o g in
    let q : r ≡ record { level = basic_level o; flags = basic_flags o } = cc in
    rw q (means_own o h g)

row_valid : (o : List ℕ) → (reading_row (basic_reading o)).number ≡ 0 → basic_valid o ≡ true
row_valid o e = go (basic_valid o) refl
  where
    go : (t : Bool) → basic_valid o ≡ t → basic_valid o ≡ true
    go true p = p
    go false p = absurd (let z : ◌≡◌ {A = ℕ} 19 0 = ap (λ (r : BasicRead). (reading_row r).number) (sym (reading_none o p)) ∙ e in omega arith)

row_means : (o : List ℕ) → Octets o → (reading_row (basic_reading o)).number ≡ 0 → BasicMeans o (reading_row (basic_reading o)).level (reading_row (basic_reading o)).flags
row_means o h e =
    let g = row_valid o e in
    rw (reading_found o g) (means_own o h g)

pub reads_basic_lem : ReadsBasic
reads_basic_lem =
    record {
      exactly = λ o. (reading_valid o, λ e. ap is_some (reading_found o e));
      numbered = λ o. (row_valid o, λ e. ap (λ (r : BasicRead). (reading_row r).number) (reading_found o e));
      means = reading_means;
      row_means = row_means;
      back = reading_back;
      row_back = λ o v f m. ap reading_row (reading_back o v f m);
    }

-- Two options.

moves : (o p : List ℕ) → Octets p → basic_valid p ≡ true → basic_level o ≡ basic_level p → basic_flags o ≡ basic_flags p → (v f : ℕ) → BasicMeans o v f → BasicMeans p v f
moves o p h e l g v f m = record { octets = h; good = e; level = sym l ∙ m.level; flags = sym g ∙ m.flags }

pub one_meaning : OneMeaning
one_meaning o p ho hp eo ep = (
  λ h. let m = (h (basic_level o) (basic_flags o)).0 (means_own o ho eo) in (sym m.level, sym m.flags),
  λ q v f. (moves o p hp ep q.0 q.1 v f, moves p o ho eo (sym q.0) (sym q.1) v f),
)

-- Writing.

may_level : (v f : ℕ) → writable v f ≡ true → is_level v ≡ true
may_level v f e = and_left (is_level v) _ e

may_flags : (v f : ℕ) → writable v f ≡ true → f ≤ 16383
may_flags v f e = leb-true f 16383 (and_right (is_level v) _ e)

-- what is written means what was asked
written : (v f : ℕ) → writable v f ≡ true → BasicMeans (basic_option v f) v f
written v f w = go (flags_for f)
  where
    l : is_level v ≡ true
    l = may_level v f w

    small : v < 256
    small = level_octet v (may_level v f w)

    go : FlagsFor f → BasicMeans (basic_option v f) v f
    go (no_flags_lem e) =
        subst⁻¹ (λ (s : List ℕ). BasicMeans s v f) (option_none v f e)
        (record { octets = (omega arith, (omega arith, (small, tt))); good = bare_valid v l; level = refl; flags = sym e })
    go (first_only d e) =
        let h = may_flags v f w in
        subst⁻¹ (λ (s : List ℕ). BasicMeans s v f) (option_one v f d e)
        (record {
          octets = (omega arith, (omega arith, (small, (omega arith, tt))));
          good = one_valid v (f / 128 * 2) l (omega arith);
          level = refl;
          flags = omega arith;
        })
    go (both_octets d) =
        let h = may_flags v f w in
        subst⁻¹ (λ (s : List ℕ). BasicMeans s v f) (option_two v f d)
        (record {
          octets = (omega arith, (omega arith, (small, (omega arith, (omega arith, tt)))));
          good = two_valid v (f / 128 * 2 + 1) (f % 128 * 2) l (omega arith) (omega arith);
          level = refl;
          flags = omega arith;
        })

-- what some option means can be written
meant : (v f : ℕ) (o : List ℕ) → Form o → BasicMeans o v f → writable v f ≡ true
meant v f o (bare l) m = can_write v f (rw m.level at l) (omega (arith, m.flags))
meant v f o (one {x = x} l e) m =
    let h : x < 256 = m.octets.1.1.1.0 in
    can_write v f (rw m.level at l) (omega (arith, m.flags))
meant v f o (two {x = x} {y = y} l e g) m =
    let h : x < 256 = m.octets.1.1.1.0 in
    let k : y < 256 = m.octets.1.1.1.1.0 in
    can_write v f (rw m.level at l) (omega (arith, m.flags))

-- every option that means it has its form, or one octet more
at_least : (v f : ℕ) (o : List ℕ) → Form o → BasicMeans o v f → FlagsFor f → length (basic_option v f) ≤ length o
at_least v f o (bare l) m k = omega (arith, ap length (option_none v f (sym m.flags)))
at_least v f o (one {x = x} l e) m (no_flags_lem z) = omega (arith, ap length (option_none v f z))
at_least v f o (one {x = x} l e) m (first_only d z) = omega (arith, ap length (option_one v f d z))
at_least v f o (one {x = x} l e) m (both_octets d) = absurd (d (omega (arith, m.flags)))
at_least v f o (two l e g) m (no_flags_lem z) = omega (arith, ap length (option_none v f z))
at_least v f o (two l e g) m (first_only d z) = omega (arith, ap length (option_one v f d z))
at_least v f o (two l e g) m (both_octets d) = omega (arith, ap length (option_two v f d))

no_other : (v f : ℕ) (o : List ℕ) → Form o → BasicMeans o v f → FlagsFor f → length o ≤ length (basic_option v f) → o ≡ basic_option v f
no_other v f o (bare {v = w} l) m k h =
    ap (λ (x : ℕ). 130 ∷ 3 ∷ x ∷ []) m.level ∙ sym (option_none v f (sym m.flags))
no_other v f o (one l e) m (no_flags_lem z) h = absurd (omega (arith, ap length (option_none v f z)))
no_other v f o (one {x = x} l e) m (first_only d z) h =
    let q : x ≡ f / 128 * 2 = omega (arith, m.flags, m.octets.1.1.1.0) in
    (λ i. 130 ∷ 4 ∷ m.level i ∷ q i ∷ []) ∙ sym (option_one v f d z)
no_other v f o (one l e) m (both_octets d) h = absurd (d (omega (arith, m.flags)))
no_other v f o (two l e g) m (no_flags_lem z) h = absurd (omega (arith, ap length (option_none v f z)))
no_other v f o (two l e g) m (first_only d z) h = absurd (omega (arith, ap length (option_one v f d z)))
no_other v f o (two {x = x} {y = y} l e g) m (both_octets d) h =
    let k : y < 256 = m.octets.1.1.1.1.0 in
    let q : x ≡ f / 128 * 2 + 1 = omega (arith, m.flags) in
    let r : y ≡ f % 128 * 2 = omega (arith, m.flags) in
    (λ i. 130 ∷ 5 ∷ m.level i ∷ q i ∷ r i ∷ []) ∙ sym (option_two v f d)

one_shortest : (v f : ℕ) → writable v f ≡ true → ShortestBasic (basic_option v f) v f
one_shortest v f w =
    record {
      means = written v f w;
      shortest = λ o m. at_least v f o (form o m.good) m (flags_for f);
      only = λ o m h. no_other v f o (form o m.good) m (flags_for f) h;
    }

cannot : (v f : ℕ) → (writable v f ≡ false) ↔ ((o : List ℕ) → BasicMeans o v f → ⊥)
cannot v f = (
  λ e o m. never (sym (meant v f o (form o m.good) m) ∙ e),
  λ h. not_yes (writable v f) (λ e. h (basic_option v f) (written v f e)),
)

-- The ways that writing into n octets goes.
data Ways (v f n : ℕ) : Type 0 where
  refusal : (e : BasicError) → (e ≡ Short → n < 5) → basic_writing v f n ≡ Err e → Ways v f n
  option : 5 ≤ n → basic_writing v f n ≡ Ok (length (basic_option v f)) → Ways v f n

ways : (v f n : ℕ) → Ways v f n
ways v f n = go (dec_le 5 n) (writable v f) refl
  where
    go : Dec (5 ≤ n) → (t : Bool) → writable v f ≡ t → Ways v f n
    go (no h) t e = refusal Short (λ z. omega arith) (writes_short v f n (omega arith))
    go (yes h) false e = refusal Bad (λ z. absurd (omega (arith, ap number_of z))) (writes_bad v f n h e)
    go (yes h) true e = option h (writes_done v f n h e)

short_one : (v f n : ℕ) → basic_writing v f n ≡ Err Short → n < 5
short_one v f n q = go (ways v f n)
  where
    go : Ways v f n → n < 5
    go (refusal e h p) = let w : ◌≡◌ {A = Result ℕ BasicError} (Err e) (Err Short) = sym p ∙ q in let k : e ≡ Short = cc in h k
    go (option h p) = absurd (let w : ◌≡◌ {A = Result ℕ BasicError} (Ok (length (basic_option v f))) (Err Short) = sym p ∙ q in let z : ◌≡◌ {A = ℕ} 0 1 = cc in omega arith)

row_short : (v f n : ℕ) → (writing_row (basic_writing v f n)).number ≡ 1 → n < 5
row_short v f n q = go (ways v f n)
  where
    number : {r : Result ℕ BasicError} → basic_writing v f n ≡ r → (writing_row r).number ≡ 1
    number p = ap (λ (r : Result ℕ BasicError). (writing_row r).number) (sym p) ∙ q

    go : Ways v f n → n < 5
    go (refusal Short h p) = h refl
    go (refusal Bad h p) = absurd (let z : ◌≡◌ {A = ℕ} 19 1 = number p in omega arith)
    go (option h p) = absurd (let z : ◌≡◌ {A = ℕ} 0 1 = number p in omega arith)

row_refused : (v f : ℕ) (out : List ℕ) → ((writing_row (basic_writing v f (length out))).number ≡ 0 → ⊥)
    → ((writing_row (basic_writing v f (length out))).count ≡ 0) × (basic_out v f out ≡ out)
row_refused v f out z = go (ways v f (length out))
  where
    go : Ways v f (length out) → ((writing_row (basic_writing v f (length out))).count ≡ 0) × (basic_out v f out ≡ out)
    go (refusal e h p) = (rw p refl, sym (refused_by v f out e p).1)
    go (option h p) = absurd (z (rw p refl))

module _ (v f : ℕ) (out : List ℕ) (w : writable v f ≡ true) (long : 5 ≤ length out) where
  out_is : (basic_option v f ++ drop (length (basic_option v f)) out) ≡ basic_out v f out
  out_is = (done_by v f out (writes_done v f (length out) long w)).1

  all_done : (basic_writing v f (length out) ≡ Ok (length (basic_option v f)))
      × (take (length (basic_option v f)) (basic_out v f out) ≡ basic_option v f)
      × (drop (length (basic_option v f)) (basic_out v f out) ≡ drop (length (basic_option v f)) out)
  all_done = (
    writes_done v f (length out) long w,
    rw (sym out_is) (take_at (basic_option v f) (drop (length (basic_option v f)) out) (length (basic_option v f)) refl),
    rw (sym out_is) (drop_at (basic_option v f) (drop (length (basic_option v f)) out) (length (basic_option v f)) refl),
  )

-- an option has at most five octets
at_most_five : (v f : ℕ) → FlagsFor f → length (basic_option v f) ≤ 5
at_most_five v f (no_flags_lem z) = omega (arith, ap length (option_none v f z))
at_most_five v f (first_only d z) = omega (arith, ap length (option_one v f d z))
at_most_five v f (both_octets d) = omega (arith, ap length (option_two v f d))

same_size : (v f : ℕ) (out : List ℕ) → length (basic_out v f out) ≡ length out
same_size v f out = go (ways v f (length out))
  where
    go : Ways v f (length out) → length (basic_out v f out) ≡ length out
    go (refusal e h p) = sym (ap length (refused_by v f out e p).1)
    go (option h p) =
        let s = basic_option v f in
        sym (ap length (done_by v f out p).1)
        ∙ omega (arith, length-append s (drop (length s) out), length-drop (length s) out, at_most_five v f (flags_for f))

pub writes_basic : WritesBasic
writes_basic =
    record {
      exactly = cannot;
      shortest = one_shortest;
      back = λ v f w. reading_back (basic_option v f) v f (written v f w);
      row_back = λ v f w. ap reading_row (reading_back (basic_option v f) v f (written v f w));
      done = all_done;
      done_row = λ v f out w h. rw (writes_done v f (length out) h w) (refl, refl);
      short = λ v f n. (short_one v f n, writes_short v f n);
      numbered = λ v f n. (row_short v f n, λ h. ap (λ (r : Result ℕ BasicError). (writing_row r).number) (writes_short v f n h));
      refused = λ v f out e w. sym (refused_by v f out e w).1;
      refused_row = row_refused;
      sized = same_size;
    }
