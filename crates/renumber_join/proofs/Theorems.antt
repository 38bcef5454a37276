-- The theorems of `specs/Theorems.antt`.
use mathlib.Core.Path.{◌≡◌, sym, ◌∙◌, ap}
use mathlib.Core.Bool.{Bool, true, ◌||◌}
use mathlib.Core.List.{List}
use mathlib.Core.Logic.{⊎_elim}
use Prim.Native.Nat.{ℕ, ◌≤◌, ◌<◌, max}
use native.Mathlib.Omega.{arith}
use lib.Dec.{ltb}
use lib.ListN.{length, take}
use borrow.Author.Tests.{lt-ltb}
use Rattle.std.specs.Prelude.{Some}
use Rattle.label.specs.declared.Run.{Run}
use Rattle.label.specs.declared.Label.{Label}
use Rattle.label.specs.Runs.{covers}
use Rattle.label.specs.Label.{used, label_of, well_formed, member, leq}
use Rattle.label.proofs.Bools.{and_right, or_cases, or_true_right, same_yes, less_or}
use Rattle.label.proofs.Runs.{covers_top}
use Rattle.label.proofs.Labels.{formed, well_formed_lem, formed_of, used_of, used_length, of_used, member_is, leq_says, leq_said}
use Rattle.label.proofs.Theorems as label_theorems
use Rattle.table.specs.Table.{Lent}
use Rattle.table_levels.specs.Levels.{levels_rise, partner_of}
use Rattle.table.proofs.Sound.{sound}
use Rattle.table_levels.proofs.Partners.{partners_order}
use Rattle.renumber.specs.Renumber as far
use Rattle.renumber.specs.Theorems.{Join}
use Rattle.renumber_keys.proofs.Sets.{set_covers, set_spaced, the_runs}
use Rattle.renumber.proofs.Theorems as renumber_theorems
use Rattle.renumber_join.specs.declared.JoinError.TheVariants.{TooMany}
use Rattle.renumber_join.specs.Join.{joined_as, either, either_runs, joined_of}
use Rattle.renumber_join.specs.Theorems.{Joining, LeastAbove, Keeping}
use Rattle.renumber_join.proofs.Answers.{led, joined_fitted}

or_true_left : (x y : Bool) → x ≡ true → (x || y) ≡ true
or_true_left x y e = rw e

-- Joining.

-- the runs of either label cover what either covers
either_covers : (a b : Label) → well_formed a ≡ true → well_formed b ≡ true → (c : ℕ) → covers (either_runs a b) c ≡ either a b c
either_covers a b wa wb c =
    same_yes _ _
    (λ h. and_right (ltb c 65535) _ (sym (set_covers (either a b) c) ∙ h))
    (λ h. set_covers (either a b) c ∙ rw (lt-ltb c 65535 (top h), h))
  where
    top : either a b c ≡ true → c < 65535
    top h =
        ⊎_elim
        (λ u. omega (arith, covers_top 0 (used a) c (formed a wa).runs u))
        (λ u. omega (arith, covers_top 0 (used b) c (formed b wb).runs u))
        (or_cases (covers (used a) c) (covers (used b) c) h)

right : (a b j : Label) → joined_of a b ≡ joined_as j → Join a b j
right a b j e =
    let k = led a b j e in
    let fa = formed a k.first in
    let fb = formed b k.second in
    let positive : (a.domain ≡ 0 → ⊥) = fa.owned in
    let v : max a.level b.level ≤ 255 = omega (arith, fa.level, fb.level) in
    let f = well_formed_lem _ (formed_of a.domain (max a.level b.level) (either_runs a b) (omega arith) fa.domain v k.fits (set_spaced (either a b))) in
    let wj : well_formed j ≡ true = ap well_formed k.label ∙ f in
    let u : used j ≡ either_runs a b = ap used k.label ∙ used_of a.domain (max a.level b.level) (either_runs a b) in
    record {
      formed = wj;
      domain = ap (λ (z : Label). z.domain) k.label;
      same = sym k.domain;
      level = ap (λ (z : Label). z.level) k.label;
      categories = λ c.
          member_is j wj c
          ∙ ap (λ (z : List Run). covers z c) u
          ∙ either_covers a b k.first k.second c
          ∙ (λ i. sym (member_is a k.first c) i || sym (member_is b k.second c) i);
    }

only : (a b j k : Label) → Join a b j → Join a b k → j ≡ k
only a b j k f g =
    label_theorems.one_form j k f.formed g.formed (f.domain ∙ sym g.domain) (f.level ∙ sym g.level) (λ c. f.categories c ∙ sym (g.categories c))

found : (a b j : Label) → well_formed a ≡ true → well_formed b ≡ true → Join a b j → joined_of a b ≡ joined_as j
found a b j wa wb f =
    let g = formed j f.formed in
    let u : used j ≡ either_runs a b =
    the_runs (either a b) (used j) g.runs
    (λ c. sym (member_is j f.formed c) ∙ f.categories c ∙ (λ i. member_is a wa c i || member_is b wb c i)) in
    let n : length (either_runs a b) ≤ 120 = omega (arith, ap length (sym u), used_length j g, g.held) in
    let same : label_of a.domain (max a.level b.level) (either_runs a b) ≡ j =
    (λ i. label_of (sym f.domain i) (sym f.level i) (sym u i)) ∙ sym (of_used j g) in
    sym (joined_fitted a b wa wb (sym f.same)) ∙ renumber_theorems.fitted_is TooMany a.domain (max a.level b.level) (either_runs a b) j n (sym same)

pub joining : Joining
joining = record { right = right; only = only; found = found }

-- The least label above both.

above_first : (a b j : Label) → joined_of a b ≡ joined_as j → leq a j ≡ true
above_first a b j e =
    let f = right a b j e in
    leq_said a j
    (record {
      first = (led a b j e).first;
      second = f.formed;
      domain = sym f.domain;
      level = omega (arith, f.level);
      categories = λ c m. f.categories c ∙ or_true_left (member a c) (member b c) m;
    })

above_second : (a b j : Label) → joined_of a b ≡ joined_as j → leq b j ≡ true
above_second a b j e =
    let f = right a b j e in
    leq_said b j
    (record {
      first = (led a b j e).second;
      second = f.formed;
      domain = f.same ∙ sym f.domain;
      level = omega (arith, f.level);
      categories = λ c m. f.categories c ∙ or_true_right (member a c) m;
    })

least : (a b j k : Label) → joined_of a b ≡ joined_as j → leq a k ≡ true → leq b k ≡ true → leq j k ≡ true
least a b j k e h l =
    let f = right a b j e in
    let x = leq_says a k h in
    let y = leq_says b k l in
    leq_said j k
    (record {
      first = f.formed;
      second = x.second;
      domain = f.domain ∙ x.domain;
      level = omega (arith, f.level, x.level, y.level);
      categories = λ c m. ⊎_elim (x.categories c) (y.categories c) (or_cases (member a c) (member b c) (sym (f.categories c) ∙ m));
    })

pub least_above : LeastAbove
least_above = record { first = above_first; second = above_second; least = least }

-- Renumbering keeps joins.

joined_first_lem : (a b j : Label) (t : Lent) (ls : List (List ℕ)) (m n k : Label)
    → far.renumbered_of a t ls ≡ far.renumbered_as m
    → far.renumbered_of b t ls ≡ far.renumbered_as n
    → joined_of a b ≡ joined_as j
    → far.renumbered_of j t ls ≡ far.renumbered_as k
    → joined_of m n ≡ joined_as k
joined_first_lem a b j t ls m n k ea eb ej ek =
    found m n k
    ((renumber_theorems.renumbering).right a t ls m ea).formed
    ((renumber_theorems.renumbering).right b t ls n eb).formed
    (renumber_theorems.keeps_joins a b j t ls m n k (right a b j ej) ea eb ek)

-- the partner of the higher of two levels is the higher of their partners
higher_partner : (ps : List (List ℕ)) (u v p q : ℕ) → levels_rise 0 0 ps ≡ true → partner_of ps u ≡ Some p → partner_of ps v ≡ Some q → partner_of ps (max u v) ≡ Some (max p q)
higher_partner ps u v p q e h k =
    ⊎_elim
    (λ w.
    let o = (partners_order 0 0 ps u p v q e h k).to (omega arith) in
    let x : max u v ≡ v = omega arith in
    let y : max p q ≡ q = omega (arith, o) in
    rw (x, y) k)
    (λ w.
    let o = (partners_order 0 0 ps v q u p e k h).to w in
    let x : max u v ≡ u = omega arith in
    let y : max p q ≡ p = omega (arith, o) in
    rw (x, y) h)
    (less_or u v)

renumbered_first_lem : (a b j : Label) (t : Lent) (ls : List (List ℕ)) (m n k : Label)
    → far.renumbered_of a t ls ≡ far.renumbered_as m
    → far.renumbered_of b t ls ≡ far.renumbered_as n
    → joined_of a b ≡ joined_as j
    → joined_of m n ≡ joined_as k
    → far.renumbered_of j t ls ≡ far.renumbered_as k
renumbered_first_lem a b j t ls m n k ea eb ej ek =
    let la = renumber_theorems.led a t ls m ea in
    let lb = renumber_theorems.led b t ls n eb in
    let fa = (renumber_theorems.renumbering).right a t ls m ea in
    let fb = (renumber_theorems.renumbering).right b t ls n eb in
    let f = right a b j ej in
    let g = right m n k ek in
    let ps : List (List ℕ) = take t.pairs ls in
    (renumber_theorems.renumbering).found j t ls k la.sound f.formed (f.domain ∙ la.domain)
    (record {
      formed = g.formed;
      domain = g.domain ∙ fa.domain;
      level =
          ap (partner_of ps) f.level
          ∙ higher_partner ps a.level b.level m.level n.level (sound t ls la.sound).levels la.level lb.level
          ∙ ap Some (sym g.level);
      whole = λ c h. ⊎_elim (fa.whole c) (fb.whole c) (or_cases (member a c) (member b c) (sym (f.categories c) ∙ h));
      to = λ c d h s.
          ⊎_elim
          (λ z. g.categories d ∙ or_true_left (member m d) (member n d) (fa.to c d z s))
          (λ z. g.categories d ∙ or_true_right (member m d) (fb.to c d z s))
          (or_cases (member a c) (member b c) (sym (f.categories c) ∙ h));
      from = λ d h.
          ⊎_elim
          (λ z. let c = fa.from d z in (c.0, f.categories c.0 ∙ or_true_left (member a c.0) (member b c.0) c.1, c.2))
          (λ z. let c = fb.from d z in (c.0, f.categories c.0 ∙ or_true_right (member a c.0) c.1, c.2))
          (or_cases (member m d) (member n d) (sym (g.categories d) ∙ h));
    })

pub keeping : Keeping
keeping = record { order = renumber_theorems.keeps_order; joined_first = joined_first_lem; renumbered_first = renumbered_first_lem }
