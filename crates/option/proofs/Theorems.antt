-- One label, one spelling under a set of permitted ones; with tags 1, 2 and 5 permitted the shortest of all valid options.
use Prim.Native.Nat.{ℕ, ◌+◌, ◌-◌, ◌≤◌, ◌<◌}
use mathlib.Core.Path.{◌≡◌, refl, ap, sym, ◌∙◌}
use mathlib.Core.List.{List}
use mathlib.Core.Bool.{Bool, true, false, ◌&&◌}
use mathlib.Core.Option.{Option, none, some}
use mathlib.Core.Logic.{⊎_elim, ◌↔◌}
use lib.ListN.{length, get_or, take, replicate, get_or-append}
use lib.Seq.{take-append_seam}
use lib.Dec.{eqb}
use native.Mathlib.Omega.{arith}
use native.Mathlib.Nat.{le_refl}
use native.Mathlib.Decide.{dec_le}
use borrow.Author.Tests.{eqb-true, eq-eqb, ne_eqb}
use Rattle.label.specs.declared.Run.{Run}
use Rattle.label.proofs.Bools.{and_left, and_right, or_cases, or_true_right}
use Rattle.option.specs.declared.Spellings.{Spellings}
use Rattle.option.specs.declared.Form.{Form}
use Rattle.option.specs.Option.{domain_of, level_of, tag_of, body_of, valid}
use Rattle.option.specs.Permitted.{usual, is_shortest, is_ten, is_numbers, is_pairs, permits}
use Rattle.option.specs.Reading.{option_runs}
use Rattle.option.specs.Spelling.{size1, size2, size5, form_for, body_for, spelled_by, spelling_of, padded}
use Rattle.option.proofs.Forms.{MeansRuns, PermittedRuns, FormedRuns, SpellsRuns}
use Rattle.option.proofs.Choice.{Taken, take0, take1, take_ten, take2, take5, Best, choice}
use Rattle.option.proofs.Meaning.{Bounds, by1, by2, by5, bounds, body_length, parts, reads_back}
use Rattle.option.proofs.Spelled.{form_size, octets1, good1, has1, octets2, good2, has2, octets5, good5, has5, trimmed1, tight5, option_means}

-- the padding is told from the option by the option's length octet
pub unpad : (s : List ℕ) → valid s ≡ true → take (get_or (padded s) 1 0) (padded s) ≡ s
unpad s e =
    let p = parts s e in
    let l : get_or (padded s) 1 0 ≡ length s = get_or-append s (replicate (40 - length s) 0) 0 1 (omega (arith, p.long)) ∙ p.size in
    ap (λ (n : ℕ). take n (padded s)) l ∙ take-append_seam s (replicate (40 - length s) 0)

-- What a spelling is: the option of the form that is chosen.
pub spelled_is : (p : Spellings) (d v : ℕ) (rs : List Run) (s : List ℕ) → spelling_of p d v rs ≡ some s → (s ≡ spelled_by (form_for p rs) d v rs) × (0 < (form_for p rs).tag)
unfolding spelling_of
spelled_is p d v rs s e = go (eqb (form_for p rs).tag 0) refl e
  where
    go : (z : Bool) → eqb (form_for p rs).tag 0 ≡ z → elim z as (λ _. Option (List ℕ)) [ true ↦ none | false ↦ some (spelled_by (form_for p rs) d v rs) ] ≡ some s → (s ≡ spelled_by (form_for p rs) d v rs) × (0 < (form_for p rs).tag)
    go true r q = let z : ◌≡◌ {A = ℕ} 0 1 = cc in absurd (omega arith)
    go false r q = (cc, (let n = borrow.Author.Tests.eqb-false (form_for p rs).tag 0 r in omega arith))

pub spelled_none : (p : Spellings) (d v : ℕ) (rs : List Run) → (form_for p rs).tag ≡ 0 → spelling_of p d v rs ≡ none
unfolding spelling_of
spelled_none p d v rs e = rw (eq-eqb (form_for p rs).tag 0 e, spelling_of)

pub spelled_some : (p : Spellings) (d v : ℕ) (rs : List Run) → 0 < (form_for p rs).tag → spelling_of p d v rs ≡ some (spelled_by (form_for p rs) d v rs)
unfolding spelling_of
spelled_some p d v rs h = rw (ne_eqb (form_for p rs).tag 0 (omega arith), spelling_of)

-- A permitted form holds the runs in n octets of tag t or fewer.
pub data Held (p : Spellings) (rs : List Run) (n : ℕ) : ℕ → Type 0 where
  held1 : p.shortest ≡ true → size1 rs ≤ n → n ≤ 30 → Held p rs n 1
  held_ten : p.ten ≡ true → size1 rs ≤ 10 → n ≡ 10 → Held p rs n 1
  held2 : p.numbers ≡ true → size2 rs ≤ n → n ≤ 30 → Held p rs n 2
  held5 : p.pairs ≡ true → size5 rs ≤ n → n ≤ 28 → Held p rs n 5

-- with tags 1, 2 and 5 permitted, every valid option that means the runs says so
pub usual_held : (rs : List Run) (n t : ℕ) → Bounds rs n t → Held usual rs n t
usual_held rs n t (by1 h i) = held1 refl h i
usual_held rs n t (by2 h i) = held2 refl h i
usual_held rs n t (by5 h i) = held5 refl h i

-- and with any set every permitted one
pub permitted_held : (p : Spellings) (rs : List Run) (o : List ℕ) → Bounds rs (length (body_of o)) (tag_of o) → permits p o ≡ true → Held p rs (length (body_of o)) (tag_of o)
unfolding permits
permitted_held p rs o b e =
    ⊎_elim
    (λ q. shortest_held (tag_of o) b (and_left p.shortest _ q) (eqb-true _ _ (and_left (eqb (tag_of o) 1) _ (and_right p.shortest _ q))))
    (λ r. ⊎_elim
    (λ q. ten_held (tag_of o) b (and_left p.ten _ q) (eqb-true _ _ (and_left (eqb (tag_of o) 1) _ (and_right p.ten _ q))) (eqb-true _ _ (and_right (eqb (tag_of o) 1) _ (and_right p.ten _ q))))
    (λ r. ⊎_elim
    (λ q. numbers_held (tag_of o) b (and_left p.numbers _ q) (eqb-true _ _ (and_right p.numbers _ q)))
    (λ q. pairs_held (tag_of o) b (and_left p.pairs _ q) (eqb-true _ _ (and_left (eqb (tag_of o) 5) _ (and_right p.pairs _ q))))
    (or_cases (p.numbers && is_numbers o) _ r))
    (or_cases (p.ten && is_ten o) _ r))
    (or_cases (p.shortest && is_shortest o) _ e)
  where
    n : ℕ
    n = length (body_of o)

    shortest_held : (t : ℕ) → Bounds rs n t → p.shortest ≡ true → t ≡ 1 → Held p rs n t
    shortest_held t (by1 h i) q z = held1 q h i
    shortest_held t (by2 h i) q z = absurd (omega arith)
    shortest_held t (by5 h i) q z = absurd (omega arith)

    ten_held : (t : ℕ) → Bounds rs n t → p.ten ≡ true → t ≡ 1 → n ≡ 10 → Held p rs n t
    ten_held t (by1 h i) q z l = held_ten q (omega arith) l
    ten_held t (by2 h i) q z l = absurd (omega arith)
    ten_held t (by5 h i) q z l = absurd (omega arith)

    numbers_held : (t : ℕ) → Bounds rs n t → p.numbers ≡ true → t ≡ 2 → Held p rs n t
    numbers_held t (by1 h i) q z = absurd (omega arith)
    numbers_held t (by2 h i) q z = held2 q h i
    numbers_held t (by5 h i) q z = absurd (omega arith)

    pairs_held : (t : ℕ) → Bounds rs n t → p.pairs ≡ true → t ≡ 5 → Held p rs n t
    pairs_held t (by1 h i) q z = absurd (omega arith)
    pairs_held t (by2 h i) q z = absurd (omega arith)
    pairs_held t (by5 h i) q z = held5 q h i

-- what is chosen is before it
pub held_before : (p : Spellings) (rs : List Run) (f : Form) → Best p (size1 rs) (size2 rs) (size5 rs) f → (n t : ℕ) → Held p rs n t → (f.size ≤ n) × (n ≤ 30) × (n ≡ f.size → f.tag ≤ t)
held_before p rs f b n t (held1 e h i) = let q = b.before1 e (omega arith) in (omega (arith, q.0), i, λ l. q.1 (omega (arith, q.0)))
held_before p rs f b n t (held_ten e h i) = let q = b.before_ten e h in (omega (arith, q.0), omega arith, λ l. q.1 (omega (arith, q.0)))
held_before p rs f b n t (held2 e h i) = let q = b.before2 e (omega arith) in (omega (arith, q.0), i, λ l. q.1 (omega (arith, q.0)))
held_before p rs f b n t (held5 e h i) = let q = b.before5 e (omega arith) in (omega (arith, q.0), omega arith, λ l. q.1 (omega (arith, q.0)))

-- the option of a form that is taken is of the permitted ones
permits1 : (p : Spellings) (o : List ℕ) → p.shortest ≡ true → is_shortest o ≡ true → permits p o ≡ true
unfolding permits
permits1 p o e q = rw (e, q)

permits_ten : (p : Spellings) (o : List ℕ) → p.ten ≡ true → is_ten o ≡ true → permits p o ≡ true
unfolding permits
permits_ten p o e q = or_true_right (p.shortest && is_shortest o) (rw (e, q))

permits2 : (p : Spellings) (o : List ℕ) → p.numbers ≡ true → is_numbers o ≡ true → permits p o ≡ true
unfolding permits
permits2 p o e q = or_true_right (p.shortest && is_shortest o) (or_true_right (p.ten && is_ten o) (rw (e, q)))

permits5 : (p : Spellings) (o : List ℕ) → p.pairs ≡ true → is_pairs o ≡ true → permits p o ≡ true
unfolding permits
permits5 p o e q = or_true_right (p.shortest && is_shortest o) (or_true_right (p.ten && is_ten o) (or_true_right (p.numbers && is_numbers o) (rw (e, q))))

module _ (p : Spellings) (d v : ℕ) (rs : List Run) (w : FormedRuns d v rs) where
  by_form : (f : Form) → Taken p (size1 rs) (size2 rs) (size5 rs) f → 0 < f.tag → PermittedRuns p (spelled_by f d v rs) d v rs
  unfolding spelled_by
  by_form f (take1 e h) q =
      record {
        means = option_means d v 1 (body_for 1 (size1 rs) rs) rs w (omega arith) (octets1 rs w.canon w.below (size1 rs)) (good1 rs w.canon w.below (size1 rs) h) (has1 rs w.canon w.below (size1 rs) (le_refl (size1 rs)));
        permitted = permits1 p (spelled_by f d v rs) e (trimmed1 rs w.canon w.below);
      }
  by_form f (take_ten e h) q =
      record {
        means = option_means d v 1 (body_for 1 10 rs) rs w (omega arith) (octets1 rs w.canon w.below 10) (good1 rs w.canon w.below 10 (omega arith)) (has1 rs w.canon w.below 10 h);
        permitted = permits_ten p (spelled_by f d v rs) e (eq-eqb _ _ (form_size p rs f (take_ten e h) q));
      }
  by_form f (take2 e h) q =
      record {
        means = option_means d v 2 (body_for 2 (size2 rs) rs) rs w (omega arith) (octets2 rs w.canon w.below (size2 rs)) (good2 rs w.canon w.below (size2 rs) h) (has2 rs w.canon w.below (size2 rs));
        permitted = permits2 p (spelled_by f d v rs) e refl;
      }
  by_form f (take5 e h) q =
      record {
        means = option_means d v 5 (body_for 5 (size5 rs) rs) rs w (omega arith) (octets5 rs w.canon w.below (size5 rs)) (good5 rs w.canon w.below (size5 rs) h) (has5 rs w.canon w.below (size5 rs));
        permitted = permits5 p (spelled_by f d v rs) e (tight5 rs w.canon w.below (size5 rs));
      }
  by_form f take0 q = absurd (omega arith)

  -- (a) the spelling is permitted, valid and means the label
  pub spelling_permitted : (s : List ℕ) → spelling_of p d v rs ≡ some s → PermittedRuns p s d v rs
  spelling_permitted s e = let q = spelled_is p d v rs s e in rw q.0 (by_form (form_for p rs) (choice p rs).taken q.1)

  pub spelling_means : (s : List ℕ) → spelling_of p d v rs ≡ some s → MeansRuns s d v rs
  spelling_means s e = (spelling_permitted s e).means

  -- (b), (d) every option that means the label in a permitted form's octets is at least as long, and one as long has no earlier tag
  module _ (s : List ℕ) (e : spelling_of p d v rs ≡ some s) (o : List ℕ) (m : MeansRuns o d v rs) (h : Held p rs (length (body_of o)) (tag_of o)) where
    before : ((form_for p rs).size ≤ length (body_of o)) × (length (body_of o) ≤ 30) × (length (body_of o) ≡ (form_for p rs).size → (form_for p rs).tag ≤ tag_of o)
    before = held_before p rs (form_for p rs) (choice p rs) (length (body_of o)) (tag_of o) h

    long : length s ≡ 10 + (form_for p rs).size
    unfolding spelled_by
    long = let q = spelled_is p d v rs s e in ap length q.0 ∙ omega (arith, form_size p rs (form_for p rs) (choice p rs).taken q.1)

    tag : tag_of s ≡ (form_for p rs).tag
    unfolding spelled_by
    tag = ap tag_of (spelled_is p d v rs s e).0

    pub held_shortest : length s ≤ length o
    held_shortest = omega (arith, long, body_length o m.good, before.0)

    pub held_first : length o ≡ length s → tag_of s ≤ tag_of o
    held_first l = omega (arith, tag, before.2 (omega (arith, long, body_length o m.good)))

  pub held_of : (o : List ℕ) → PermittedRuns p o d v rs → Held p rs (length (body_of o)) (tag_of o)
  held_of o m = permitted_held p rs o (bounds o d v rs m.means w.canon) m.permitted

  -- (a), (b) and (d) as one
  pub spelling_spells : (s : List ℕ) → spelling_of p d v rs ≡ some s → SpellsRuns p s d v rs
  spelling_spells s e =
      record {
        permitted = spelling_permitted s e;
        shortest = λ o m. held_shortest s e o m.means (held_of o m);
        first = λ o m. held_first s e o m.means (held_of o m);
      }

  none_tag : spelling_of p d v rs ≡ none → (form_for p rs).tag ≡ 0
  none_tag e = elim (dec_le 1 (form_for p rs).tag) [ yes u ↦ (let q = spelled_some p d v rs u in let z : ◌≡◌ {A = ℕ} 0 1 = cc in absurd (omega arith)) | no u ↦ omega arith ]

  -- (c) where there is none no permitted form holds the runs
  pub none_held : spelling_of p d v rs ≡ none → (n t : ℕ) → Held p rs n t → ⊥
  none_held e n t h = go (form_for p rs) (choice p rs).taken (none_tag e) (held_before p rs (form_for p rs) (choice p rs) n t h)
    where
      go : (f : Form) → Taken p (size1 rs) (size2 rs) (size5 rs) f → f.tag ≡ 0 → (f.size ≤ n) × (n ≤ 30) × (n ≡ f.size → f.tag ≤ t) → ⊥
      go f (take1 x y) z b = omega arith
      go f (take_ten x y) z b = omega arith
      go f (take2 x y) z b = omega arith
      go f (take5 x y) z b = omega arith
      go f take0 z b = omega (arith, b.0, b.1)

  -- and there is none exactly where no permitted option means the label
  pub none_permitted : spelling_of p d v rs ≡ none ↔ ((o : List ℕ) → PermittedRuns p o d v rs → ⊥)
  none_permitted = (λ e o m. none_held e (length (body_of o)) (tag_of o) (held_of o m), back)
    where
      back : ((o : List ℕ) → PermittedRuns p o d v rs → ⊥) → spelling_of p d v rs ≡ none
      back h = elim (dec_le 1 (form_for p rs).tag) [ yes u ↦ absurd (h (spelled_by (form_for p rs) d v rs) (by_form (form_for p rs) (choice p rs).taken u)) | no u ↦ spelled_none p d v rs (omega arith) ]

  -- every valid option that means the label is read to it, the spelling too
  pub read_back : (o : List ℕ) → MeansRuns o d v rs → (domain_of o ≡ d) × (level_of o ≡ v) × (option_runs o ≡ rs)
  read_back o m = (m.domain, m.level, reads_back o d v rs m w.canon)

-- (e) equal spellings under one set exactly for equal labels
module _ (p : Spellings) (d v : ℕ) (rs : List Run) (w : FormedRuns d v rs) (d' v' : ℕ) (rs' : List Run) (w' : FormedRuns d' v' rs') (s s' : List ℕ) (e : spelling_of p d v rs ≡ some s) (e' : spelling_of p d' v' rs' ≡ some s') where
  pub same_spelling : s ≡ s' ↔ ((d ≡ d') × (v ≡ v') × (rs ≡ rs'))
  same_spelling = (there, λ l. (let x = ap₃ l.0 l.1 l.2 in cc))
    where
      m : (domain_of s ≡ d) × (level_of s ≡ v) × (option_runs s ≡ rs)
      m = read_back p d v rs w s (spelling_means p d v rs w s e)

      m' : (domain_of s' ≡ d') × (level_of s' ≡ v') × (option_runs s' ≡ rs')
      m' = read_back p d' v' rs' w' s' (spelling_means p d' v' rs' w' s' e')

      there : s ≡ s' → (d ≡ d') × (v ≡ v') × (rs ≡ rs')
      there q = (sym m.0 ∙ ap domain_of q ∙ m'.0, sym m.1 ∙ ap level_of q ∙ m'.1, sym m.2 ∙ ap option_runs q ∙ m'.2)

      ap₃ : d ≡ d' → v ≡ v' → rs ≡ rs' → spelling_of p d v rs ≡ spelling_of p d' v' rs'
      ap₃ x y z = λ i. spelling_of p (x i) (y i) (z i)

  -- and so are the first 40 octets of output
  pub same_output : padded s ≡ padded s' ↔ ((d ≡ d') × (v ≡ v') × (rs ≡ rs'))
  same_output = (λ q. same_spelling.0 (sym (unpad s (spelling_means p d v rs w s e).good) ∙ ap (λ (z : List ℕ). take (get_or z 1 0) z) q ∙ unpad s' (spelling_means p d' v' rs' w' s' e').good), λ l. ap padded (same_spelling.1 l))
