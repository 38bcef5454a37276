-- The theorems of `specs/Theorems.antt`.
use mathlib.Core.Path.{◌≡◌, refl, sym, ◌∙◌, ap}
use mathlib.Core.Bool.{Bool, true, false, cond, ◌&&◌, ◌||◌, true≢false}
use mathlib.Core.List.{List}
use mathlib.Core.Logic.{⊎_elim}
use Prim.Native.Nat.{ℕ, ◌≤◌, max}
use native.Mathlib.Omega.{arith}
use lib.Dec.{leb, ltb, eqb}
use lib.ListN.{length, take}
use borrow.Author.Tests.{leb-true, le-leb, eqb-true, eq-eqb, lt-ltb}
use Rattle.std.specs.Prelude.{None, Some, Result, Ok, Err}
use Rattle.std.specs.Option.{ok_or}
use Rattle.std.specs.Result.{is_err}
use Rattle.label.specs.declared.Run.{Run}
use Rattle.label.specs.declared.Label.{Label}
use Rattle.label.specs.Runs.{covers, subset}
use Rattle.label.specs.Label.{used, label_of, well_formed, member, at_most, in_range}
use Rattle.label_keys.specs.Range.{set_in_range}
use Rattle.label.proofs.Bools.{and_right, or_cases, or_true_right, same_yes, less_or}
use Rattle.label.proofs.Labels.{formed, well_formed_lem, formed_of, used_of, used_length, of_used, member_is, leq_says, leq_said, leq_at_most}
use Rattle.label.proofs.Theorems as label_theorems
use Rattle.table.specs.Table.{Lent, used_rows, table_sound}
use Rattle.table_levels.specs.Levels.{Partner, partner_of}
use Rattle.table.specs.Numbers.{sends, numbered, in_image}
use Rattle.table.proofs.Sound.{sound, Rows, sound_rows}
use Rattle.table.proofs.Numbers.{one_category, one_number, has_number_lem, number_has}
use Rattle.table_levels.proofs.Partners.{partners_order, partner_level, Ordered}
use Rattle.renumber.specs.declared.RenumberError.TheVariants.{Unsound, NoNumber, TooMany}
use Rattle.renumber.specs.Renumber.{Renumbered, renumbered_as, image_runs, fitted, when_numbered, renumbered_of, carried_of}
use Rattle.renumber.specs.Theorems.{Far, Renumbering, Agrees, Carried, Carrying, KeepsOrder, KeepsJoins}
use Rattle.renumber_keys.proofs.Sets.{set_covers, set_spaced, the_runs}
use Rattle.renumber_keys.proofs.Pass.{numbered_yes, numbered_all, image_hits, sends_hits, hits_sends}
use Rattle.renumber.proofs.Answers.{renumbered_fitted, carried_outside, carried_fitted}

-- What led to an answer that is no refusal.
pub record Led (l : Label) (t : Lent) (ls : List (List ℕ)) (m : Label) : Type 0 where
  pub sound : table_sound t ls ≡ true
  pub formed : well_formed l ≡ true
  pub domain : l.domain ≡ t.from
  pub level : partner_of (take t.pairs ls) l.level ≡ Some m.level
  pub whole : numbered (used_rows t) (used l) ≡ true
  pub fits : length (image_runs l t) ≤ 120
  pub label : m ≡ label_of t.to m.level (image_runs l t)

not_done : {E : Type 0} {e : E} {m : Label} → ◌≡◌ {A = Result Label E} (Err e) (Ok m) → ⊥
not_done k = true≢false (ap is_err k)

done_same : {E : Type 0} {l m : Label} → ◌≡◌ {A = Result Label E} (Ok l) (Ok m) → l ≡ m
done_same k = cc

fitted_led : {E : Type 0} (e : E) (d v : ℕ) (rs : List Run) (m : Label) → fitted e d v rs ≡ renumbered_as m → (length rs ≤ 120) × (m ≡ label_of d v rs)
fitted_led {E} e d v rs m h = go (leb (length rs) 120) refl h
  where
    go : (b : Bool) → leb (length rs) 120 ≡ b → ◌≡◌ {A = Result Label E} (ok_or (cond b (Some (label_of d v rs)) None) e) (Ok m) → (length rs ≤ 120) × (m ≡ label_of d v rs)
    go true q k = (leb-true _ _ q, sym (done_same k))
    go false q k = absurd (not_done k)

pub fitted_is : {E : Type 0} (e : E) (d v : ℕ) (rs : List Run) (m : Label) → length rs ≤ 120 → m ≡ label_of d v rs → fitted e d v rs ≡ renumbered_as m
fitted_is {E} e d v rs m n q = ap (λ (b : Bool). ok_or (cond b (Some (label_of d v rs)) None) e) (le-leb (length rs) 120 n) ∙ ap Ok (sym q)

when_led : {E : Type 0} (e : E) (p : Partner) (b : Bool) (f : ℕ → Result Label E) (m : Label) → when_numbered e p b f ≡ renumbered_as m → (v : ℕ) × (p ≡ Some v) × (b ≡ true) × (f v ≡ renumbered_as m)
when_led e None b f m k = absurd (not_done k)
when_led e (Some v) true f m k = (v, refl, refl, k)
when_led e (Some v) false f m k = absurd (not_done k)

pub led : (l : Label) (t : Lent) (ls : List (List ℕ)) (m : Label) → renumbered_of l t ls ≡ renumbered_as m → Led l t ls m
unfolding renumbered_of
led l t ls m e = go (table_sound t ls) (well_formed l) (eqb l.domain t.from) refl refl refl e
  where
    rest : Renumbered
    rest = when_numbered NoNumber (partner_of (take t.pairs ls) l.level) (numbered (used_rows t) (used l)) (λ v. fitted TooMany t.to v (image_runs l t))

    go : (a b c : Bool) → table_sound t ls ≡ a → well_formed l ≡ b → eqb l.domain t.from ≡ c → cond (a && b) (cond c rest (Err NoNumber)) (Err Unsound) ≡ renumbered_as m → Led l t ls m
    go true true true p q r k =
        let w = when_led NoNumber (partner_of (take t.pairs ls) l.level) (numbered (used_rows t) (used l)) (λ v. fitted TooMany t.to v (image_runs l t)) m k in
        let f = fitted_led TooMany t.to w.0 (image_runs l t) m w.3 in
        let v : m.level ≡ w.0 = ap (λ (z : Label). z.level) f.1 in
        record {
          sound = p;
          formed = q;
          domain = eqb-true _ _ r;
          level = w.1 ∙ ap Some (sym v);
          whole = w.2;
          fits = f.0;
          label = f.1 ∙ ap (λ (z : ℕ). label_of t.to z (image_runs l t)) (sym v);
        }
    go true true false p q r k = absurd (not_done k)
    go true false c p q r k = absurd (not_done k)
    go false b c p q r k = absurd (not_done k)

-- The set of the numbers.

module _ (l : Label) (t : Lent) (ls : List (List ℕ)) (s : table_sound t ls ≡ true) (w : well_formed l ≡ true) where
  rises : Rows t
  rises = sound_rows t (sound t ls s).rows

  -- a number of a category is a category
  number_top : (c d : ℕ) → sends (used_rows t) c d ≡ true → d ≤ 65534
  number_top c d h =
      let n = has_number_lem 0 (used_rows t) c rises.rise (number_has (used_rows t) c d h) in
      let e : d ≡ n.0 = one_number 0 (used_rows t) c d n.0 rises.rise h n.1 in
      omega (arith, e, n.2)

  image_to : (c d : ℕ) → covers (used l) c ≡ true → sends (used_rows t) c d ≡ true → in_image (used_rows t) (used l) d ≡ true
  image_to c d h k =
      image_hits (used_rows t) (used l) d rises.rise (formed l w).runs ∙ sends_hits 0 (used_rows t) (used l) c d rises.rise h k

  image_from : (d : ℕ) → in_image (used_rows t) (used l) d ≡ true → (c : ℕ) × (covers (used l) c ≡ true) × (sends (used_rows t) c d ≡ true)
  image_from d h =
      hits_sends 0 (used_rows t) (used l) d rises.rise (sym (image_hits (used_rows t) (used l) d rises.rise (formed l w).runs) ∙ h)

  covers_to : (c d : ℕ) → covers (used l) c ≡ true → sends (used_rows t) c d ≡ true → covers (image_runs l t) d ≡ true
  covers_to c d h k =
      set_covers (in_image (used_rows t) (used l)) d ∙ rw (lt-ltb d 65535 (omega (arith, number_top c d k)), image_to c d h k)

  covers_from : (d : ℕ) → covers (image_runs l t) d ≡ true → (c : ℕ) × (covers (used l) c ≡ true) × (sends (used_rows t) c d ≡ true)
  covers_from d h = image_from d (and_right (ltb d 65535) _ (sym (set_covers (in_image (used_rows t) (used l)) d) ∙ h))

  -- the label in the far domain has these runs
  far_runs : (m : Label) → Far l t ls m → used m ≡ image_runs l t
  far_runs m f =
      the_runs (in_image (used_rows t) (used l)) (used m) (formed m f.formed).runs
      (λ d. same_yes _ _
      (λ h. let c = f.from d (member_is m f.formed d ∙ h) in image_to c.0 d (sym (member_is l w c.0) ∙ c.1) c.2)
      (λ h. let c = image_from d h in sym (member_is m f.formed d) ∙ f.to c.0 d (member_is l w c.0 ∙ c.1) c.2))

  far_numbered : (m : Label) → Far l t ls m → numbered (used_rows t) (used l) ≡ true
  far_numbered m f = numbered_yes (used_rows t) (used l) (λ c h. f.whole c (member_is l w c ∙ h))

right : (l : Label) (t : Lent) (ls : List (List ℕ)) (m : Label) → renumbered_of l t ls ≡ renumbered_as m → Far l t ls m
right l t ls m e =
    let k = led l t ls m e in
    let s = sound t ls k.sound in
    let w = k.formed in
    let positive : (t.to ≡ 0 → ⊥) = s.to in
    let v : m.level ≤ 255 = partner_level (take t.pairs ls) l.level m.level s.level_numbers_held k.level in
    let f = well_formed_lem _ (formed_of t.to m.level (image_runs l t) (omega arith) s.to_fits v k.fits (set_spaced (in_image (used_rows t) (used l)))) in
    let wm : well_formed m ≡ true = ap well_formed k.label ∙ f in
    let u : used m ≡ image_runs l t = ap used k.label ∙ used_of t.to m.level (image_runs l t) in
    record {
      formed = wm;
      domain = ap (λ (z : Label). z.domain) k.label;
      level = k.level;
      whole = λ c h. numbered_all (used_rows t) (used l) (formed l w).runs k.whole c (sym (member_is l w c) ∙ h);
      to = λ c d h g. member_is m wm d ∙ ap (λ (z : List Run). covers z d) u ∙ covers_to l t ls k.sound w c d (sym (member_is l w c) ∙ h) g;
      from = λ d h.
          let c = covers_from l t ls k.sound w d (ap (λ (z : List Run). covers z d) (sym u) ∙ sym (member_is m wm d) ∙ h) in
          (c.0, member_is l w c.0 ∙ c.1, c.2);
    }

only : (l : Label) (t : Lent) (ls : List (List ℕ)) (m n : Label) → Far l t ls m → Far l t ls n → m ≡ n
only l t ls m n f g =
    let v : m.level ≡ n.level = same_level f.level g.level in
    label_theorems.one_form m n f.formed g.formed (f.domain ∙ sym g.domain) v
    (λ d. same_yes _ _
    (λ h. let c = f.from d h in g.to c.0 d c.1 c.2)
    (λ h. let c = g.from d h in f.to c.0 d c.1 c.2))
  where
    same_level : {p : Partner} {a b : ℕ} → p ≡ Some a → p ≡ Some b → a ≡ b
    same_level x y = cc

found : (l : Label) (t : Lent) (ls : List (List ℕ)) (m : Label) → table_sound t ls ≡ true → well_formed l ≡ true → l.domain ≡ t.from → Far l t ls m → renumbered_of l t ls ≡ renumbered_as m
found l t ls m s w d f =
    let u = far_runs l t ls s w m f in
    let g = formed m f.formed in
    let n : length (image_runs l t) ≤ 120 = omega (arith, ap length (sym u), used_length m g, g.held) in
    let same : label_of t.to m.level (image_runs l t) ≡ m = (λ i. label_of (sym f.domain i) m.level (sym u i)) ∙ sym (of_used m g) in
    sym (renumbered_fitted l t ls s w d m.level f.level (far_numbered l t ls s w m f))
    ∙ fitted_is TooMany t.to m.level (image_runs l t) m n (sym same)

pub renumbering : Renumbering
renumbering = record { right = right; only = only; found = found }

-- The range.

shuffle : (a b s u : Bool) → ((a && s) && (b && u)) ≡ (a && (b && (s && u)))
shuffle true true s u = refl
shuffle true false true u = refl
shuffle true false false u = refl
shuffle false b s u = refl

-- where the set fits a label, holding it against the range is comparing that label
pub held_label : (lowest highest m : Label) → well_formed lowest ≡ true → well_formed highest ≡ true → well_formed m ≡ true → lowest.domain ≡ m.domain → m.domain ≡ highest.domain
    → set_in_range lowest highest m.level (used m) ≡ in_range lowest highest m
unfolding set_in_range in_range at_most
held_label lo hi m wl wh wm p q =
    sym
    (rw (leq_at_most lo m wl wm, leq_at_most m hi wm wh, eq-eqb _ _ p, eq-eqb _ _ q)
    (shuffle (leb lo.level m.level) (leb m.level hi.level) (subset (used lo) (used m)) (subset (used m) (used hi))))

-- the same with the runs of the far set
held_image : (l : Label) (t : Lent) (ls : List (List ℕ)) (lowest highest m : Label) → well_formed lowest ≡ true → well_formed highest ≡ true → lowest.domain ≡ t.to → highest.domain ≡ t.to
    → renumbered_of l t ls ≡ renumbered_as m → set_in_range lowest highest m.level (image_runs l t) ≡ in_range lowest highest m
held_image l t ls lo hi m wl wh p q e =
    let k = led l t ls m e in
    let f = right l t ls m e in
    ap (set_in_range lo hi m.level) (sym (far_runs l t ls k.sound k.formed m f))
    ∙ held_label lo hi m wl wh f.formed (p ∙ sym f.domain) (f.domain ∙ sym q)

pub agrees : Agrees
agrees l t ls lo hi m wl wh p q e = go (in_range lo hi m) refl
  where
    go : (b : Bool) → in_range lo hi m ≡ b → carried_of l t ls lo hi ≡ cond b (renumbered_as m) (Err 17)
    go true r =
        let k = led l t ls m e in
        let h = held_image l t ls lo hi m wl wh p q e ∙ r in
        sym (carried_fitted l t ls lo hi m.level k.level k.whole h)
        ∙ fitted_is 18 t.to m.level (image_runs l t) m k.fits k.label
    go false r =
        let k = led l t ls m e in
        let h = held_image l t ls lo hi m wl wh p q e ∙ r in
        sym (carried_outside l t ls lo hi m.level k.level k.whole h)

pub carrying : Carrying
unfolding carried_of
carrying l t ls lo hi m w s d wl wh p q e =
    let k = when_led {E = ℕ} 16 (partner_of (take t.pairs ls) l.level) (numbered (used_rows t) (used l)) (λ v. cond (set_in_range lo hi v (image_runs l t)) (fitted {E = ℕ} 18 t.to v (image_runs l t)) (Err 17)) m e in
    go k.0 k.1 k.2 (set_in_range lo hi k.0 (image_runs l t)) refl k.3
  where
    go : (v : ℕ) → partner_of (take t.pairs ls) l.level ≡ Some v → numbered (used_rows t) (used l) ≡ true
        → (b : Bool) → set_in_range lo hi v (image_runs l t) ≡ b → cond b (fitted {E = ℕ} 18 t.to v (image_runs l t)) (Err 17) ≡ renumbered_as m → Carried l t ls lo hi m
    go v x n true r z =
        let f = fitted_led 18 t.to v (image_runs l t) m z in
        let a : renumbered_of l t ls ≡ renumbered_as m = sym (renumbered_fitted l t ls s w d v x n) ∙ fitted_is TooMany t.to v (image_runs l t) m f.0 f.1 in
        let u : m.level ≡ v = ap (λ (y : Label). y.level) f.1 in
        record {
          far = right l t ls m a;
          held = sym (held_image l t ls lo hi m wl wh p q a) ∙ ap (λ (y : ℕ). set_in_range lo hi y (image_runs l t)) u ∙ r;
        }
    go v x n false r z = absurd (not_done z)

-- Order and joins.

levels_order : (a b : Label) (t : Lent) (ls : List (List ℕ)) (m n : Label) → Led a t ls m → Led b t ls n → Ordered a.level m.level b.level n.level
levels_order a b t ls m n k j =
    partners_order 0 0 (take t.pairs ls) a.level m.level b.level n.level (sound t ls k.sound).levels k.level j.level

pub keeps_order : KeepsOrder
keeps_order a b t ls m n e g =
    let ka = led a t ls m e in
    let kb = led b t ls n g in
    let fa = right a t ls m e in
    let fb = right b t ls n g in
    let o = levels_order a b t ls m n ka kb in
    let r = sound_rows t (sound t ls ka.sound).rows in
    same_yes _ _
    (λ h.
    let x = leq_says a b h in
    leq_said m n
    (record {
      first = fa.formed;
      second = fb.formed;
      domain = fa.domain ∙ sym fb.domain;
      level = o.to x.level;
      categories = λ d z. let c = fa.from d z in fb.to c.0 d (x.categories c.0 c.1) c.2;
    }))
    (λ h.
    let x = leq_says m n h in
    leq_said a b
    (record {
      first = ka.formed;
      second = kb.formed;
      domain = ka.domain ∙ sym kb.domain;
      level = o.back x.level;
      categories = λ c z.
          let d = has_number_lem 0 (used_rows t) c r.rise (fa.whole c z) in
          let y = fb.from d.0 (x.categories d.0 (fa.to c d.0 z d.1)) in
          let same : y.0 ≡ c = one_category 0 (used_rows t) y.0 c d.0 r.rise r.apart y.2 d.1 in
          rw same at y.1;
    }))

pub keeps_joins : KeepsJoins
keeps_joins a b j t ls m n k i ea eb ej =
    let fm = right a t ls m ea in
    let fn = right b t ls n eb in
    let fk = right j t ls k ej in
    let la = led a t ls m ea in
    let lb = led b t ls n eb in
    let lj = led j t ls k ej in
    record {
      formed = fk.formed;
      domain = fk.domain ∙ sym fm.domain;
      same = fn.domain ∙ sym fm.domain;
      level = higher i.level (levels_order a j t ls m k la lj).to (levels_order b j t ls n k lb lj).to (levels_order j a t ls k m lj la).to (levels_order j b t ls k n lj lb).to;
      categories = λ d. same_yes _ _
          (λ h. let c = fk.from d h in
          ⊎_elim
          (λ z. or_true_left (member m d) (member n d) (fm.to c.0 d z c.2))
          (λ z. or_true_right (member m d) (fn.to c.0 d z c.2))
          (or_cases (member a c.0) (member b c.0) (sym (i.categories c.0) ∙ c.1)))
          (λ h. ⊎_elim
          (λ z. let c = fm.from d z in fk.to c.0 d (i.categories c.0 ∙ or_true_left (member a c.0) (member b c.0) c.1) c.2)
          (λ z. let c = fn.from d z in fk.to c.0 d (i.categories c.0 ∙ or_true_right (member a c.0) c.1) c.2)
          (or_cases (member m d) (member n d) h));
    }
  where
    or_true_left : (x y : Bool) → x ≡ true → (x || y) ≡ true
    or_true_left x y e = rw e

    -- the partner of the higher of two levels is the higher of their partners
    higher : {u v w p q r : ℕ} → w ≡ max u v → (u ≤ w → p ≤ r) → (v ≤ w → q ≤ r) → (w ≤ u → r ≤ p) → (w ≤ v → r ≤ q) → r ≡ max p q
    higher {u} {v} {w} {p} {q} {r} e f g x y =
        let s = f (omega arith) in
        let z = g (omega arith) in
        ⊎_elim (λ h. let o = y (omega arith) in omega arith) (λ h. let o = x (omega arith) in omega arith) (less_or u v)
