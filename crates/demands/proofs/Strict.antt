-- The statements of `specs/Strict.antt`: each of the four forms is one option for each label.
use Prim.Native.Nat.{ℕ, ◌+◌, ◌-◌, ◌*◌, ◌/◌, ◌%◌, ◌≤◌, ◌<◌}
use mathlib.Core.Bool.{Bool, true, false, cond, not, ◌||◌, or-false}
use mathlib.Core.List.{List, [], ◌∷◌}
use mathlib.Core.Logic.{⊎_elim}
use mathlib.Core.Path.{◌≡◌, refl, sym, ap, ◌∙◌}
use native.Mathlib.Omega.{arith}
use lib.Dec.{ltb, eqb}
use lib.ListN.{length, get_or}
use borrow.Author.Tests.{eqb-true, eqb-false, eq-eqb, ne_eqb, ltb-true, le-leb, lt-leb, not-true}
use Rattle.label.specs.declared.Run.{Run}
use Rattle.label.specs.declared.Label.{Label}
use Rattle.label.specs.Runs.{run, covers, push_run, joined, top_of}
use Rattle.label.specs.Label.{used}
use Rattle.label.proofs.Bools.{never, and_left, and_right, or_cases, less_or}
use Rattle.label.proofs.Canon.{Canon, unique}
use Rattle.option.specs.declared.Spellings.{Spellings}
use Rattle.option.specs.Bitmap.{bit_at, weight}
use Rattle.option.specs.Option.{Octets, tag_of, body_of, numbers_in, pairs_in, singles, ascending, falling, body_has, has, Means}
use Rattle.option.specs.Permitted.{trimmed, tight, is_shortest, is_ten, is_numbers, is_pairs, permits}
use Rattle.option.specs.Spelling.{from_zero, size5}
use Rattle.option.specs.Table.{only_shortest, only_ten}
use Rattle.option.proofs.Forms.{means_runs, formed_runs}
use Rattle.option.proofs.Bridge.{pairs_count}
use Rattle.option.proofs.Octets.{octet_at_lem, octets_drop}
use Rattle.option.proofs.Top.{bit_past}
use Rattle.option.proofs.Pieces.{falling_true, joined_good, joined_covers, joined_top}
use Rattle.option.proofs.Meaning.{Tagged, one, two, five, tagged, parts, numbers_length, Bounds, by1, by2, by5, bounds, body_length}
use Rattle.option.proofs.Only.{octet_same, same_numbers}
use Rattle.option_slack.specs.Slack.{slack}
use Rattle.option_slack.proofs.Theorems.{slackness}
use Rattle.std.specs.Prelude.{Ok, Some, None}
use Rattle.area.proofs.KindLaws.{same_places}
use Rattle.area.specs.Kinds.{Place, places}
use Rattle.port.specs.declared.Port.{Port}
use Rattle.arrive.specs.Checks.{walk_at, option_at}
use Rattle.demands.specs.Demands.{LabelOf, own, assigned}
use Rattle.demands.specs.Strict.{Writable, StrictAccepts}

-- Sets of one form.
only_numbers : Spellings
only_numbers = record { shortest = false; ten = false; numbers = true; pairs = false }

only_pairs : Spellings
only_pairs = record { shortest = false; ten = false; numbers = false; pairs = true }

permits_shortest : (o : List ℕ) → permits only_shortest o ≡ is_shortest o
unfolding permits
permits_shortest o = or-false (is_shortest o)

permits_ten : (o : List ℕ) → permits only_ten o ≡ is_ten o
unfolding permits
permits_ten o = or-false (is_ten o)

permits_numbers : (o : List ℕ) → permits only_numbers o ≡ is_numbers o
unfolding permits only_numbers
permits_numbers o = or-false (is_numbers o)

permits_pairs : (o : List ℕ) → permits only_pairs o ≡ is_pairs o
unfolding permits only_pairs
permits_pairs o = refl

-- Tag 1 in its shortest form: the last octet has a category, so no shorter bitmap has all.
module _ (b b' : List ℕ) (oct : Octets b) (same : (c : ℕ) → bit_at b c ≡ bit_at b' c) where
  bit_of : (i k : ℕ) → k < 8 → eqb (get_or b i 0 / weight k % 2) 1 ≡ bit_at b (8 * i + k)
  bit_of i k h =
      let x : (8 * i + k) / 8 ≡ i = omega arith in
      let y : (8 * i + k) % 8 ≡ k = omega arith in
      sym (rw (x, y))

  pub trimmed_short : trimmed b ≡ true → length b ≤ length b'
  trimmed_short t = ⊎_elim longer (λ h. h) (less_or (length b') (length b))
    where
      longer : length b' < length b → length b ≤ length b'
      longer h =
          let last : ℕ = get_or b (length b - 1) 0 in
          let z : get_or b (length b - 1) 0 ≡ 0 =
          octet_same (get_or b (length b - 1) 0) 0 (octet_at_lem b (length b - 1) oct) (omega arith)
          (λ k q. bit_of (length b - 1) k q ∙ same (8 * (length b - 1) + k) ∙ bit_past b' (8 * (length b - 1) + k) (omega arith) ∙ sym (none k q)) in
          absurd (never (sym t ∙ ap (λ (x : Bool). x || not (eqb (get_or b (length b - 1) 0) 0)) (ne_eqb (length b) 0 (λ e. omega arith)) ∙ ap not (eq-eqb (get_or b (length b - 1) 0) 0 z)))
        where
          none : (k : ℕ) → k < 8 → eqb (0 / weight k % 2) 1 ≡ false
          none k q = let y : k % 8 ≡ k = omega arith in rw y at (bit_past [] k (omega arith))

-- Tag 5 in its shortest form: as many pairs as the label has runs, and the last bottom left out exactly where the lowest run starts at 0.
push_apart : (l h : ℕ) (rs : List Run) → (0 < length rs → top_of rs < l) → length (push_run rs l h) ≡ length rs + 1
push_apart l h [] a = refl
push_apart l h (r ∷ []) a = rw (ne_eqb (r.high + 1) l (λ e. let t : r.high + 1 < l = a (omega arith) in omega arith))
push_apart l h (r ∷ s ∷ rs) a = omega (arith, push_apart l h (s ∷ rs) (λ q. a (omega arith)))

top_is : (u : ℕ) (xs : List ℕ) → top_of (joined (pairs_in (u ∷ xs))) ≡ u + 1
top_is u [] = joined_top (run 0 u) []
top_is u (c ∷ xs) = joined_top (run c u) (pairs_in xs)

tight_exact : (ns : List ℕ) → tight ns ≡ true → length (joined (pairs_in ns)) ≡ length (pairs_in ns)
tight_exact [] e = refl
tight_exact (t ∷ []) e = refl
tight_exact (t ∷ b ∷ []) e = refl
tight_exact (t ∷ b ∷ u ∷ xs) e =
    let a : u + 1 < b = ltb-true _ _ (and_left (ltb (u + 1) b) _ e) in
    let i = tight_exact (u ∷ xs) (and_right (ltb (u + 1) b) _ e) in
    push_apart b t (joined (pairs_in (u ∷ xs))) (λ q. omega (arith, top_is u xs)) ∙ omega (arith, i)

tight_low : (ns : List ℕ) → tight ns ≡ true → length ns % 2 ≡ 0 → covers (pairs_in ns) 0 ≡ false
tight_low [] e h = refl
tight_low (t ∷ []) e h = absurd (omega arith)
tight_low (t ∷ b ∷ []) e h =
    let z : b ≡ 0 → ⊥ = eqb-false b 0 (not-true (eqb b 0) e) in
    rw (lt-leb b 0 (omega (arith, z)))
tight_low (t ∷ b ∷ u ∷ xs) e h =
    let a : u + 1 < b = ltb-true _ _ (and_left (ltb (u + 1) b) _ e) in
    rw (lt-leb b 0 (omega arith)) (tight_low (u ∷ xs) (and_right (ltb (u + 1) b) _ e) (omega arith))

zero_covered : (rs : List Run) → from_zero rs ≡ true → covers rs 0 ≡ true
zero_covered [] e = e
zero_covered (r ∷ rs) e = let z : r.low ≡ 0 = eqb-true _ _ e in rw (z, le-leb 0 r.high (omega arith))

pub tight_size : (rs : List Run) (b : List ℕ) → Canon 0 rs → length b % 2 ≡ 0 → falling 65535 (pairs_in (numbers_in b)) ≡ true
    → ((c : ℕ) → covers (pairs_in (numbers_in b)) c ≡ covers rs c) → tight (numbers_in b) ≡ true → length b ≤ size5 rs
tight_size rs b k even f same t = go (from_zero rs) refl
  where
    ps : List Run
    ps = pairs_in (numbers_in b)

    form : joined (pairs_in (numbers_in b)) ≡ rs
    form =
        let g = falling_true 65535 (pairs_in (numbers_in b)) f in
        unique 0 0 (joined (pairs_in (numbers_in b))) rs (joined_good 65535 (pairs_in (numbers_in b)) g).0 k (λ c. joined_covers 65535 (pairs_in (numbers_in b)) c g ∙ same c)

    count : (length (numbers_in b) + 1) / 2 ≡ length rs
    count = sym (pairs_count (numbers_in b)) ∙ sym (tight_exact (numbers_in b) t) ∙ ap length form

    go : (z : Bool) → from_zero rs ≡ z → length b ≤ 4 * length rs - cond z 2 0
    go false e = omega (arith, count, numbers_length b)
    go true e =
        let odd : length (numbers_in b) % 2 ≡ 0 → ⊥ = λ h. never (sym (zero_covered rs e) ∙ sym (same 0) ∙ tight_low (numbers_in b) t h) in
        omega (arith, count, numbers_length b, odd)

-- An option of each form that means the label is the shortest of its form.
module _ (o : List ℕ) (l : Label) (m : Means o l) where
  goes : (o' : List ℕ) → Means o' l → length (body_of o) ≤ length (body_of o') → length o ≤ length o'
  goes o' m' h = omega (arith, body_length o m.good, body_length o' m'.good)

  has_one : (o : List ℕ) (c : ℕ) → tag_of o ≡ 1 → has o c ≡ bit_at (body_of o) c
  unfolding body_has
  has_one o c e = rw e (or-false (bit_at (body_of o) c || false) ∙ or-false (bit_at (body_of o) c))

  shortest_spells : is_shortest o ≡ true → Writable o l
  shortest_spells q =
      let t : tag_of o ≡ 1 = eqb-true _ _ (and_left (eqb (tag_of o) 1) _ q) in (
        only_shortest,
        record {
          permitted = record { means = m; permitted = permits_shortest o ∙ q };
          shortest = λ o' p.
              let q' = sym (permits_shortest o') ∙ p.permitted in
              let t' : tag_of o' ≡ 1 = eqb-true _ _ (and_left (eqb (tag_of o') 1) _ q') in
              goes o' p.means
              (trimmed_short (body_of o) (body_of o') (octets_drop 10 o m.octets)
              (λ c. sym (has_one o c t) ∙ m.members c ∙ sym (p.means.members c) ∙ has_one o' c t')
              (and_right (eqb (tag_of o) 1) _ q));
          first = λ o' p e.
              let q' = sym (permits_shortest o') ∙ p.permitted in
              let t' : tag_of o' ≡ 1 = eqb-true _ _ (and_left (eqb (tag_of o') 1) _ q') in
              omega arith;
        },
      )

  ten_spells : is_ten o ≡ true → Writable o l
  ten_spells q =
      let t : tag_of o ≡ 1 = eqb-true _ _ (and_left (eqb (tag_of o) 1) _ q) in
      let n : length (body_of o) ≡ 10 = eqb-true _ _ (and_right (eqb (tag_of o) 1) _ q) in (
        only_ten,
        record {
          permitted = record { means = m; permitted = permits_ten o ∙ q };
          shortest = λ o' p.
              let q' = sym (permits_ten o') ∙ p.permitted in
              let n' : length (body_of o') ≡ 10 = eqb-true _ _ (and_right (eqb (tag_of o') 1) _ q') in
              goes o' p.means (omega arith);
          first = λ o' p e.
              let q' = sym (permits_ten o') ∙ p.permitted in
              let t' : tag_of o' ≡ 1 = eqb-true _ _ (and_left (eqb (tag_of o') 1) _ q') in
              omega arith;
        },
      )

  -- tag 2: the numbers are the categories
  numbers_of : (o : List ℕ) (t : ℕ) → tag_of o ≡ t → Tagged (body_of o) t → t ≡ 2
      → (length (body_of o) % 2 ≡ 0) × (ascending 0 (numbers_in (body_of o)) ≡ true)
  numbers_of o t e (one h) z = absurd (omega arith)
  numbers_of o t e (two d h r) z = (d, r)
  numbers_of o t e (five d h r) z = absurd (omega arith)

  has_two : (o : List ℕ) (c : ℕ) → tag_of o ≡ 2 → has o c ≡ covers (singles (numbers_in (body_of o))) c
  unfolding body_has
  has_two o c e = rw e (or-false (covers (singles (numbers_in (body_of o))) c))

  numbers_spells : is_numbers o ≡ true → Writable o l
  numbers_spells q =
      let t : tag_of o ≡ 2 = eqb-true _ _ q in
      let a = numbers_of o (tag_of o) refl (tagged (tag_of o) (body_of o) (parts o m.good).body) t in (
        only_numbers,
        record {
          permitted = record { means = m; permitted = permits_numbers o ∙ q };
          shortest = λ o' p.
              let t' : tag_of o' ≡ 2 = eqb-true _ _ (sym (permits_numbers o') ∙ p.permitted) in
              let a' = numbers_of o' (tag_of o') refl (tagged (tag_of o') (body_of o') (parts o' p.means.good).body) t' in
              let ns : numbers_in (body_of o) ≡ numbers_in (body_of o') =
              same_numbers 0 0 (numbers_in (body_of o)) (numbers_in (body_of o')) a.1 a'.1
              (λ c. sym (has_two o c t) ∙ m.members c ∙ sym (p.means.members c) ∙ has_two o' c t') in
              goes o' p.means (omega (arith, ap (length {A = ℕ}) ns, numbers_length (body_of o), numbers_length (body_of o'), a.0, a'.0));
          first = λ o' p e. let t' : tag_of o' ≡ 2 = eqb-true _ _ (sym (permits_numbers o') ∙ p.permitted) in omega arith;
        },
      )

  pairs_of : (o : List ℕ) (t : ℕ) → tag_of o ≡ t → Tagged (body_of o) t → t ≡ 5
      → (length (body_of o) % 2 ≡ 0) × (falling 65535 (pairs_in (numbers_in (body_of o))) ≡ true)
  pairs_of o t e (one h) z = absurd (omega arith)
  pairs_of o t e (two d h r) z = absurd (omega arith)
  pairs_of o t e (five d h r) z = (d, r)

  has_five : (o : List ℕ) (c : ℕ) → tag_of o ≡ 5 → has o c ≡ covers (pairs_in (numbers_in (body_of o))) c
  unfolding body_has
  has_five o c e = rw e

  at_least : (o : List ℕ) (t : ℕ) → Bounds (used l) (length (body_of o)) t → t ≡ 5 → size5 (used l) ≤ length (body_of o)
  at_least o t (by1 h i) z = absurd (omega arith)
  at_least o t (by2 h i) z = absurd (omega arith)
  at_least o t (by5 h i) z = h

  pairs_spells : is_pairs o ≡ true → Writable o l
  pairs_spells q =
      let t : tag_of o ≡ 5 = eqb-true _ _ (and_left (eqb (tag_of o) 5) _ q) in
      let a = pairs_of o (tag_of o) refl (tagged (tag_of o) (body_of o) (parts o m.good).body) t in
      let w = formed_runs l m.label in
      let r = means_runs o l m in
      let most : length (body_of o) ≤ size5 (used l) =
      tight_size (used l) (body_of o) w.canon a.0 a.1 (λ c. sym (has_five o c t) ∙ r.members c) (and_right (eqb (tag_of o) 5) _ q) in (
        only_pairs,
        record {
          permitted = record { means = m; permitted = permits_pairs o ∙ q };
          shortest = λ o' p.
              let q' = sym (permits_pairs o') ∙ p.permitted in
              let t' : tag_of o' ≡ 5 = eqb-true _ _ (and_left (eqb (tag_of o') 5) _ q') in
              let least = at_least o' (tag_of o') (bounds o' l.domain l.level (used l) (means_runs o' l p.means) w.canon) t' in
              goes o' p.means (omega (arith, most, least));
          first = λ o' p e.
              let q' = sym (permits_pairs o') ∙ p.permitted in
              let t' : tag_of o' ≡ 5 = eqb-true _ _ (and_left (eqb (tag_of o') 5) _ q') in
              omega arith;
        },
      )

  writable : slack o ≡ false → Writable o l
  unfolding permits
  writable s =
      let q = ((slackness.means o l m).0 s).permitted in
      ⊎_elim shortest_spells (λ r. ⊎_elim ten_spells (λ r. ⊎_elim numbers_spells pairs_spells (or_cases (is_numbers o) (is_pairs o) r)) (or_cases (is_ten o) _ r))
      (or_cases (is_shortest o) _ q)

-- the option of an area is the one that its walk meets
same_place : (p : Port) (area : List ℕ) (at i : ℕ) (a b : Place) → walk_at p area ≡ Ok (places (Some at) a) → walk_at p area ≡ Ok (places (Some i) b) → at ≡ i
same_place p area at i a b e f = let z : Some at ≡ Some i = (same_places (Some at) a (Some i) b (sym e ∙ f)).0 in cc

pub strict_accepts : StrictAccepts
strict_accepts =
    record {
      passes = writable;
      stops = λ o l m s w. never (sym s ∙ slackness.permitted w.0 o l w.1.permitted);
      accepted = accepted_of;
    }
  where
    accepted_of : (p : Port) (area : List ℕ) (l : Label) (at : ℕ) (basic : Place) → p.strict ≡ true → walk_at p area ≡ Ok (places (Some at) basic) → LabelOf p area l → Writable (option_at at area) l
    accepted_of p area l at basic s w (own i b v m d t) = rw (same_place p area at i basic b w v) (writable (option_at i area) l m (t s))
    accepted_of p area l at basic s w (assigned b v r e) = let q : Some at ≡ None = (same_places (Some at) basic None b (sym w ∙ v)).0 in absurd cc
