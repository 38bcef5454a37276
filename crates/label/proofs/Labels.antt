-- Laws of labels: the parts of well-formedness, a well-formed label is that of its runs, and what A ≤ B says over membership.
use mathlib.Core.Path.{◌≡◌, refl, sym, ◌∙◌, ap}
use mathlib.Core.Bool.{true, cond, not, ◌&&◌, and-true}
use mathlib.Core.List.{List, [], ◌∷◌, ◌++◌, append_assoc}
use Prim.Native.Nat.{ℕ, suc, ◌+◌, ◌-◌, ◌≤◌, ◌<◌}
use native.Mathlib.Omega.{arith}
use lib.Dec.{leb, eqb}
use lib.ListN.{length, get_or, drop, replicate, set, length-append, length-drop, length-replicate, take-append-drop}
use lib.Seq.{set-append_seam, length-take-le, take-append_seam, drop-append_seam}
use borrow.Author.Tests.{leb-true, eqb-false, eqb-true, not-true, le-leb, ne_eqb, eq-eqb}
use Rattle.label.specs.declared.Run.{Run}
use Rattle.label.specs.declared.Label.{Label}
use Rattle.label.specs.Runs.{covers, spaced, unused}
use Rattle.label.specs.Label.{no_run, used, label_of, label_typed, well_formed, member, at_most, leq, compared}
use Rattle.label.specs.Theorems.{AtMost}
use Rattle.label.proofs.Bools.{and_left, and_right}
use Rattle.label.proofs.Runs.{Sub, subset_sub, sub_subset, one_form}
use Rattle.label.proofs.Pass.{passes_subset}
use Rattle.label.proofs.Places.{first_alone}

-- The parts of well-formedness.
pub record Formed (l : Label) : Type 0 where
  pub owned : l.domain ≡ 0 → ⊥
  pub held : l.count ≤ 120
  pub runs : spaced 0 (used l) ≡ true
  pub rest : unused (drop l.count l.runs) ≡ true
  pub domain : l.domain ≤ 4294967295
  pub level : l.level ≤ 255
  pub places : length l.runs ≡ 120

pub formed : (l : Label) → well_formed l ≡ true → Formed l
unfolding well_formed label_typed
formed l e =
    let e1 = and_right (not (eqb l.domain 0)) _ e in
    let e2 = and_right (leb l.count 120) _ e1 in
    let e3 = and_right (spaced 0 (used l)) _ e2 in
    let e4 = and_right (unused (drop l.count l.runs)) _ e3 in
    let e5 = and_right (leb l.domain 4294967295) _ e4 in
    record {
      owned = eqb-false _ _ (not-true _ (and_left (not (eqb l.domain 0)) _ e));
      held = leb-true _ _ (and_left (leb l.count 120) _ e1);
      runs = and_left (spaced 0 (used l)) _ e2;
      rest = and_left (unused (drop l.count l.runs)) _ e3;
      domain = leb-true _ _ (and_left (leb l.domain 4294967295) _ e4);
      level = leb-true _ _ (and_left (leb l.level 255) _ e5);
      places = eqb-true _ _ (and_right (leb l.level 255) _ e5);
    }

-- What the types of the fields say.
pub typed_yes : (l : Label) → l.domain ≤ 4294967295 → l.level ≤ 255 → length l.runs ≡ 120 → label_typed l ≡ true
unfolding label_typed
typed_yes l d v n = simp (le-leb _ _ d, le-leb _ _ v, eq-eqb _ _ n)

pub well_formed_lem : (l : Label) → Formed l → well_formed l ≡ true
unfolding well_formed
well_formed_lem l f =
    simp (ne_eqb _ _ f.owned, le-leb _ _ f.held, f.runs, f.rest) (typed_yes l f.domain f.level f.places)

-- the runs decide where the other parts hold
pub well_formed_runs : (l : Label) → (l.domain ≡ 0 → ⊥) → l.count ≤ 120 → label_typed l ≡ true
    → well_formed l ≡ (spaced 0 (used l) && unused (drop l.count l.runs))
unfolding well_formed
well_formed_runs l o h t = simp (ne_eqb _ _ o, le-leb _ _ h, t, and-true)

-- The label made of runs.

pub used_of : (d v : ℕ) (rs : List Run) → used (label_of d v rs) ≡ rs
used_of d v rs = take-append_seam rs (replicate (120 - length rs) no_run)

pub unused_zeros : (n : ℕ) → unused (replicate n no_run) ≡ true
unused_zeros Prim.Native.Nat.zero = refl
unused_zeros (suc n) = unused_zeros n

pub formed_of : (d v : ℕ) (rs : List Run) → 0 < d → d ≤ 4294967295 → v ≤ 255 → length rs ≤ 120 → spaced 0 rs ≡ true → Formed (label_of d v rs)
formed_of d v rs o p q h e =
    record {
      owned = λ z. omega arith;
      held = h;
      runs = rw (used_of d v rs) e;
      rest = rw (drop-append_seam rs (replicate (120 - length rs) no_run)) (unused_zeros (120 - length rs));
      domain = p;
      level = q;
      places = simp (length-append, length-replicate) (omega arith);
    }

zeros : (rs : List Run) → unused rs ≡ true → rs ≡ replicate (length rs) no_run
zeros [] e = refl
zeros (r ∷ rs) e =
    let low : r.low ≡ 0 = eqb-true _ _ (and_left (eqb r.low 0) _ e) in
    let high : r.high ≡ 0 = eqb-true _ _ (and_left (eqb r.high 0) _ (and_right (eqb r.low 0) _ e)) in
    let t = zeros rs (and_right (eqb r.high 0) _ (and_right (eqb r.low 0) _ e)) in
    λ i. record { low = low i; high = high i } ∷ t i

pub used_length : (l : Label) → Formed l → length (used l) ≡ l.count
used_length l f = length-take-le l.count l.runs (omega (arith, f.held, f.places))

-- a well-formed label is that of its runs
pub of_used : (l : Label) → Formed l → l ≡ label_of l.domain l.level (used l)
of_used l f =
    let n : length (used l) ≡ l.count = used_length l f in
    let m : length (drop l.count l.runs) ≡ 120 - length (used l) = simp length-drop (omega (arith, f.places)) in
    let z : drop l.count l.runs ≡ replicate (120 - length (used l)) no_run = zeros _ f.rest ∙ ap (λ (k : ℕ). replicate k no_run) m in
    let q : l.runs ≡ used l ++ replicate (120 - length (used l)) no_run = sym (take-append-drop l.count l.runs) ∙ ap (λ (t : List Run). used l ++ t) z in
    λ i. record { domain = l.domain; level = l.level; count = sym n i; runs = q i }

-- one run more: what a store at the first unused place does
pub with_run_of : (rs : List Run) (x : Run) → length rs < 120 → set (rs ++ replicate (120 - length rs) no_run) (length rs) x ≡ (rs ++ (x ∷ [])) ++ replicate (120 - length (rs ++ (x ∷ []))) no_run
with_run_of rs x h =
    let n : length (rs ++ (x ∷ [])) ≡ length rs + 1 = length-append rs (x ∷ []) in
    let k : ℕ = 120 - (length rs + 1) in
    let e : 120 - length rs ≡ suc k = omega arith in
    let f : 120 - length (rs ++ (x ∷ [])) ≡ k = omega arith in
    rw (e, f) (set-append_seam rs no_run (replicate k no_run) x ∙ sym (append_assoc rs (x ∷ []) (replicate k no_run)))

-- Membership.

pub member_is : (l : Label) → well_formed l ≡ true → (c : ℕ) → member l c ≡ covers (used l) c
unfolding member
member_is l w c = rw w

pub member_formed : (l : Label) (c : ℕ) → member l c ≡ true → well_formed l ≡ true
unfolding member
member_formed l c e = and_left (well_formed l) _ e

-- two well-formed labels with the same members have the same runs
pub same_runs : (a b : Label) → well_formed a ≡ true → well_formed b ≡ true → ((c : ℕ) → member a c ≡ member b c) → used a ≡ used b
same_runs a b wa wb h =
    one_form 0 0 (used a) (used b) (formed a wa).runs (formed b wb).runs
    (λ c m. sym (member_is b wb c) ∙ sym (h c) ∙ member_is a wa c ∙ m)
    (λ c m. sym (member_is a wa c) ∙ h c ∙ member_is b wb c ∙ m)

-- and with one domain and level are one label
pub same_label : (a b : Label) → Formed a → Formed b → a.domain ≡ b.domain → a.level ≡ b.level → used a ≡ used b → a ≡ b
same_label a b f g d v r =
    let s : label_of a.domain a.level (used a) ≡ label_of b.domain b.level (used b) = λ i. label_of (d i) (v i) (r i) in
    of_used a f ∙ s ∙ sym (of_used b g)

-- Comparing.

pub leq_says : (a b : Label) → leq a b ≡ true → AtMost a b
unfolding leq at_most
leq_says a b e =
    let e1 = and_right (well_formed a) _ e in
    let e2 = and_right (well_formed b) _ e1 in
    let e3 = and_right (eqb a.domain b.domain) _ e2 in
    let wa = and_left (well_formed a) _ e in
    let wb = and_left (well_formed b) _ e1 in
    record {
      first = wa;
      second = wb;
      domain = eqb-true _ _ (and_left (eqb a.domain b.domain) _ e2);
      level = leb-true _ _ (and_left (leb a.level b.level) _ e3);
      categories = λ c m.
          member_is b wb c
          ∙ subset_sub (used a) (used b) (and_right (leb a.level b.level) _ e3) c (sym (member_is a wa c) ∙ m);
    }

pub leq_said : (a b : Label) → AtMost a b → leq a b ≡ true
unfolding leq at_most
leq_said a b h =
    let sub : Sub (used a) (used b) = λ c m. sym (member_is b h.second c) ∙ h.categories c (member_is a h.first c ∙ m) in
    simp (h.first, h.second, eq-eqb _ _ h.domain, le-leb _ _ h.level, sub_subset (used a) (used b) sub)

-- of two well-formed labels both tests are one
pub leq_at_most : (a b : Label) → well_formed a ≡ true → well_formed b ≡ true → leq a b ≡ at_most a b
unfolding leq
leq_at_most a b wa wb = rw (wa, wb)

-- and one pass is the test
pub compared_at_most : (a b : Label) → well_formed a ≡ true → well_formed b ≡ true → compared a b ≡ at_most a b
unfolding compared at_most
compared_at_most a b wa wb =
    let f = formed a wa in
    let g = formed b wb in
    rw (le-leb _ _ f.held, le-leb _ _ g.held, passes_subset (used a) (used b) f.runs g.runs)

pub formed_held : (l : Label) → well_formed l ≡ true → l.count ≤ 120
formed_held l e = (formed l e).held

-- what a pass tells of well-formed labels
pub leq_compared : (a b : Label) → well_formed a ≡ true → well_formed b ≡ true → compared a b ≡ leq a b
leq_compared a b e f = compared_at_most a b e f ∙ sym (leq_at_most a b e f)

-- a label of at most one run: its first place tells, and that the others are zero
pub first_formed : (l : Label) → (l.domain ≡ 0 → ⊥) → l.count ≤ 1 → l.domain ≤ 4294967295 → l.level ≤ 255 → length l.runs ≡ 120 →
    let r = get_or l.runs 0 no_run in
    well_formed l ≡ (cond (eqb l.count 0) (eqb r.low 0 && eqb r.high 0) (leb r.low r.high && leb r.high 65534) && unused (drop 1 l.runs))
first_formed l e h d v n = well_formed_runs l e (omega arith) (typed_yes l d v n) ∙ first_alone l.count l.runs h (omega arith)
