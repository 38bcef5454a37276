-- Laws of a level and runs held against the range of two labels: what a first look says, and that with the pass it is the whole answer.
-- Assumes nothing.
use mathlib.Core.Path.{◌≡◌, refl, sym, ◌∙◌, ap}
use mathlib.Core.Bool.{Bool, true, false, cond, ◌&&◌}
use mathlib.Core.List.{List, [], ◌∷◌}
use mathlib.Core.Logic.{⊎_elim}
use Prim.Native.Nat.{ℕ, suc, ◌+◌, ◌-◌, ◌%◌, ◌/◌, ◌≤◌, ◌<◌, min}
use native.Mathlib.Omega.{arith}
use native.Mathlib.Nat.{le_refl}
use lib.Dec.{leb, eqb}
use lib.ListN.{length, take, drop, get_or}
use borrow.Author.Tests.{leb-true, le-leb, eq-eqb, ne_eqb, eqb-true}
use Rattle.label.specs.declared.Run.{Run}
use Rattle.label.specs.declared.Label.{Label}
use Rattle.label_keys.specs.declared.Look.TheVariants.{Within, Outside, Open}
use Rattle.label.specs.Runs.{covers, spaced, subset, top_of}
use Rattle.label.specs.Label.{no_run, used, well_formed, at_most, in_range}
use Rattle.label_keys.specs.Keys.{key_run, key_runs}
use Rattle.label_keys.specs.Range.{compared_between, runs_between, set_in_range, look_under, look_of, answered}
use Rattle.label.proofs.Bools.{never, and_left, and_right, same_yes, less_or}
use Rattle.label.proofs.Runs.{Sub, first, covers_in, covers_cases, covers_below, sub_nil, subset_sub, sub_subset}
use Rattle.label.proofs.Canon.{spaced_canon, top_clear, top_covered}
use Rattle.label.proofs.Pass.{passes_subset}
use Rattle.label.proofs.Steps.{next_used, used_up}
use Rattle.label.proofs.Labels.{formed, leq_at_most, compared_at_most}
use Rattle.label_keys.proofs.Keys.{take_min, top_last}

-- The first look at keys, as it is taken: m of them, where the levels fit and the lowest label has no categories.
module _ (lowest highest : Label) (v : ℕ) (ks : List ℕ) (n m : ℕ) (is : m ≡ min n (length ks)) (a : lowest.level ≤ v) (b : v ≤ highest.level) (e : lowest.count ≡ 0) where
  under : look_of lowest highest v (key_runs (take n ks)) ≡ look_under highest (key_runs (take m ks))
  unfolding look_of
  under = simp (le-leb _ _ a, le-leb _ _ b, eq-eqb _ _ e) (ap (λ (z : List ℕ). look_under highest (key_runs z)) (sym (ap (λ (z : ℕ). take z ks) is ∙ take_min n ks)))

  pub look_none : m ≡ 0 → look_of lowest highest v (key_runs (take n ks)) ≡ Within
  look_none z = under ∙ rw z

  some : 0 < m → take m ks ≡ get_or ks 0 0 ∷ drop 1 (take m ks)
  some h = next_used 0 ks m 0 h (omega arith)

  pub look_many : 0 < m → (highest.count ≡ 1 → ⊥) → look_of lowest highest v (key_runs (take n ks)) ≡ Open
  look_many h k = under ∙ rw (some h) (simp (ne_eqb _ _ k))

  pub look_one : 0 < m → highest.count ≡ 1
      → look_of lowest highest v (key_runs (take n ks))
      ≡ cond (leb (get_or highest.runs 0 no_run).low (get_or ks 0 0 / 65536) && leb (get_or ks (m - 1) 0 % 65536 + 1) ((get_or highest.runs 0 no_run).high + 1)) Within Outside
  look_one h k =
      let q : m ≡ suc (m - 1) = omega arith in
      let t : top_of (key_runs (take m ks)) ≡ get_or ks (m - 1) 0 % 65536 + 1 = ap (λ (z : ℕ). top_of (key_runs (take z ks))) q ∙ top_last ks (m - 1) (omega arith) in
      let u : top_of (key_run (get_or ks 0 0) ∷ key_runs (drop 1 (take m ks))) ≡ get_or ks (m - 1) 0 % 65536 + 1 = rw (some h) at t in
      under ∙ rw (some h) (rw (eq-eqb _ _ k, u))

-- Spaced runs lie in one run exactly when the first low and the last high do.
pub under_one : (f : ℕ) (r : Run) (rs : List Run) (o : Run) → spaced f (r ∷ rs) ≡ true
    → subset (r ∷ rs) (o ∷ []) ≡ (leb o.low r.low && leb (top_of (r ∷ rs)) (o.high + 1))
under_one f r rs o e =
    same_yes _ _
    (λ h.
    let s = subset_sub (r ∷ rs) (o ∷ []) h in
    simp (
      le-leb o.low r.low (covered r.low (s r.low (covers_in r rs r.low (le_refl r.low) (first f r rs e).ordered))).0,
      le-leb (top_of (r ∷ rs)) (o.high + 1) (top_le (covered (top_of (r ∷ rs) - 1) (s (top_of (r ∷ rs) - 1) (top_covered f r rs (spaced_canon f (r ∷ rs) e)))).1),
    ))
    (λ h.
    let low : o.low ≤ r.low = leb-true _ _ (and_left (leb o.low r.low) _ h) in
    let high : top_of (r ∷ rs) ≤ o.high + 1 = leb-true _ _ (and_right (leb o.low r.low) _ h) in
    sub_subset (r ∷ rs) (o ∷ [])
    (λ c w. covers_in o [] c (omega (arith, from c w)) (omega (arith, below c w))))
  where
    covered : (c : ℕ) → covers (o ∷ []) c ≡ true → (o.low ≤ c) × (c ≤ o.high)
    covered c w = ⊎_elim (λ q. q) (λ q. absurd (never (sym q))) (covers_cases o [] c w)

    top_le : top_of (r ∷ rs) - 1 ≤ o.high → top_of (r ∷ rs) ≤ o.high + 1
    top_le w = omega arith

    from : (c : ℕ) → covers (r ∷ rs) c ≡ true → r.low ≤ c
    from c w =
        let s = first f r rs e in
        let here : spaced r.low (r ∷ rs) ≡ true = simp (le-leb r.low r.low (le_refl r.low), le-leb r.low r.high s.ordered, le-leb r.high 65534 s.top) s.rest in
        ⊎_elim (λ q. absurd (never (sym w ∙ covers_below r.low (r ∷ rs) c here q))) (λ q. q) (less_or c r.low)

    below : (c : ℕ) → covers (r ∷ rs) c ≡ true → c < top_of (r ∷ rs)
    below c w = ⊎_elim (λ q. q) (λ q. absurd (never (sym w ∙ top_clear f (r ∷ rs) c (spaced_canon f (r ∷ rs) e) q))) (less_or c (top_of (r ∷ rs)))

-- The pass over runs that are spaced, between two labels that are well formed.
pub runs_between_is : (lowest highest : Label) (rs : List Run) → well_formed lowest ≡ true → well_formed highest ≡ true → spaced 0 rs ≡ true
    → runs_between lowest highest rs ≡ (subset (used lowest) rs && subset rs (used highest))
unfolding runs_between
runs_between_is lowest highest rs wl wh s =
    let f = formed lowest wl in
    let g = formed highest wh in
    rw (le-leb _ _ f.held, le-leb _ _ g.held, passes_subset (used lowest) rs f.runs s, passes_subset rs (used highest) s g.runs)

-- A first look, and the pass where it leaves the answer open, tell whether the level and the runs lie in the range.
module _ (lowest highest : Label) (v : ℕ) (wl : well_formed lowest ≡ true) (wh : well_formed highest ≡ true) where
  -- the runs alone, under a lowest label without categories
  under_highest : (rs : List Run) → spaced 0 rs ≡ true → lowest.count ≡ 0
      → answered (look_under highest rs) (runs_between lowest highest rs) ≡ (subset (used lowest) rs && subset rs (used highest))
  under_highest [] s e = sym (rw (sub_subset (used lowest) [] (none_sub []), sub_subset [] (used highest) (sub_nil (used highest))))
    where
      none_sub : (ys : List Run) → Sub (used lowest) ys
      none_sub ys = rw e (sub_nil ys)
  under_highest (r ∷ rs) s e = go (eqb highest.count 1) refl
    where
      over : Run
      over = get_or highest.runs 0 no_run

      none_in : subset (used lowest) (r ∷ rs) ≡ true
      none_in = sub_subset (used lowest) (r ∷ rs) (rw e (sub_nil (r ∷ rs)))

      one_used : highest.count ≡ 1 → used highest ≡ over ∷ []
      one_used k =
          let h : 1 ≤ length highest.runs = omega (arith, (formed highest wh).places) in
          rw k (next_used no_run highest.runs 1 0 (omega arith) h ∙ ap (λ (z : List Run). over ∷ z) (used_up highest.runs 1 1 (le_refl 1)))

      told : (b : Bool) → b ≡ subset (r ∷ rs) (used highest) → answered (cond b Within Outside) (runs_between lowest highest (r ∷ rs)) ≡ (subset (used lowest) (r ∷ rs) && subset (r ∷ rs) (used highest))
      told true q = rw (none_in) q
      told false q = rw (none_in) q

      go : (t : Bool) → eqb highest.count 1 ≡ t
          → answered (cond t (cond (leb over.low r.low && leb (top_of (r ∷ rs)) (over.high + 1)) Within Outside) Open) (runs_between lowest highest (r ∷ rs))
          ≡ (subset (used lowest) (r ∷ rs) && subset (r ∷ rs) (used highest))
      go true q = told _ (sym (ap (subset (r ∷ rs)) (one_used (eqb-true _ _ q)) ∙ under_one 0 r rs over s))
      go false q = runs_between_is lowest highest (r ∷ rs) wl wh s

  pub look_right : (rs : List Run) → spaced 0 rs ≡ true → answered (look_of lowest highest v rs) (runs_between lowest highest rs) ≡ set_in_range lowest highest v rs
  unfolding look_of set_in_range
  look_right rs s = go (leb lowest.level v) (leb v highest.level) (eqb lowest.count 0) refl
    where
      go : (a b t : Bool) → eqb lowest.count 0 ≡ t
          → answered (cond (a && b) (cond t (look_under highest rs) Open) Outside) (runs_between lowest highest rs) ≡ (a && (b && (subset (used lowest) rs && subset rs (used highest))))
      go false b t q = refl
      go true false t q = refl
      go true true true q = under_highest rs s (eqb-true _ _ q)
      go true true false q = runs_between_is lowest highest rs wl wh s

-- A label whose form is known, against a range whose form is known.
pub compared_in_range : (lowest highest l : Label) → well_formed lowest ≡ true → well_formed highest ≡ true → well_formed l ≡ true
    → compared_between lowest highest l ≡ in_range lowest highest l
unfolding compared_between in_range
compared_in_range lowest highest l wl wh w =
    rw (compared_at_most lowest l wl w, compared_at_most l highest w wh, leq_at_most lowest l wl w, leq_at_most l highest w wh)

-- a label's level and runs lie in a range of its domain exactly when the label does
pub set_in_range_lem : (lowest highest l : Label) → well_formed lowest ≡ true → well_formed highest ≡ true → well_formed l ≡ true
    → lowest.domain ≡ l.domain → l.domain ≡ highest.domain → set_in_range lowest highest l.level (used l) ≡ in_range lowest highest l
unfolding set_in_range in_range at_most
set_in_range_lem lowest highest l wl wh w d e =
    sym
    (rw (leq_at_most lowest l wl w, leq_at_most l highest w wh, eq-eqb _ _ d, eq-eqb _ _ e)
    (turned (leb lowest.level l.level) (subset (used lowest) (used l)) (leb l.level highest.level) (subset (used l) (used highest))))
  where
    turned : (a p b q : Bool) → ((a && p) && (b && q)) ≡ (a && (b && (p && q)))
    turned false p b q = refl
    turned true true b q = refl
    turned true false true q = refl
    turned true false false q = refl
