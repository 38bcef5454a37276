-- Renumbering asked alone: when it gives 16, and when 18.
use mathlib.Core.Path.{◌≡◌, refl, sym, ◌∙◌, ap}
use mathlib.Core.Bool.{Bool, true, false, not, ◌||◌}
use mathlib.Core.List.{List}
use Prim.Native.Nat.{ℕ}
use native.Mathlib.Omega.{arith}
use lib.Dec.{leb, eqb}
use lib.ListN.{length, take}
use borrow.Author.Tests.{eqb-true, eqb-false}
use Rattle.std.specs.Prelude.{None, Some, Err}
use Rattle.label.specs.declared.Label.{Label}
use Rattle.label.specs.Runs.{covers}
use Rattle.label.specs.Label.{used, label_of, well_formed, member}
use Rattle.label.proofs.Bools.{never, and_right, all_below_lem, below_all, implies_yes, yes_implies}
use Rattle.label.proofs.Runs.{covers_top}
use Rattle.label.proofs.Labels.{formed}
use Rattle.table.specs.Table.{Lent, used_rows, table_sound}
use Rattle.table_levels.specs.Levels.{Partner, partner_of}
use Rattle.table.specs.Numbers.{has_number, numbered}
use Rattle.renumber.specs.declared.RenumberError.TheVariants.{NoNumber, TooMany}
use Rattle.renumber.specs.Renumber.{Renumbered, renumbered_as, image_runs, row_of, renumbered_of}
use Rattle.renumber.specs.Theorems.{Far}
use Rattle.renumber.proofs.Theorems.{renumbering}
use Rattle.demands.specs.Alone.{Numbered, RenumberAlone}

-- the test of the categories, over membership
module _ (l : Label) (t : Lent) (w : well_formed l ≡ true) where
  pub whole_says : numbered (used_rows t) (used l) ≡ true → (c : ℕ) → member l c ≡ true → has_number (used_rows t) c ≡ true
  unfolding numbered member
  whole_says e c m =
      let h : covers (used l) c ≡ true = and_right (well_formed l) _ m in
      implies_yes (covers (used l) c) (has_number (used_rows t) c)
      (all_below_lem 65535 (λ c. not (covers (used l) c) || has_number (used_rows t) c) e c (omega (arith, covers_top 0 (used l) c (formed l w).runs h))) h

  pub whole_said : ((c : ℕ) → member l c ≡ true → has_number (used_rows t) c ≡ true) → numbered (used_rows t) (used l) ≡ true
  unfolding numbered member
  whole_said h =
      below_all 65535 (λ c. not (covers (used l) c) || has_number (used_rows t) c)
      (λ c k. yes_implies (covers (used l) c) (has_number (used_rows t) c) (λ e. h c (rw (w, e))))

module _ (l : Label) (t : Lent) (ls : List (List ℕ)) (s : table_sound t ls ≡ true) (w : well_formed l ≡ true) where
  -- the three ways it goes
  data Way : Type 0 where
    missing : (Numbered l t ls → ⊥) → renumbered_of l t ls ≡ Err NoNumber → Way
    large : Numbered l t ls → renumbered_of l t ls ≡ Err TooMany → Way
    given : Numbered l t ls → (m : Label) → renumbered_of l t ls ≡ renumbered_as m → Way

  way : Way
  unfolding renumbered_of
  way =
      go (eqb l.domain t.from) refl (partner_of (take t.pairs ls) l.level) refl (numbered (used_rows t) (used l)) refl
      (leb (length (image_runs l t)) 120) refl
    where
      all : (v : ℕ) → eqb l.domain t.from ≡ true → partner_of (take t.pairs ls) l.level ≡ Some v → numbered (used_rows t) (used l) ≡ true → Numbered l t ls
      all v d q b = record { domain = eqb-true _ _ d; level = (v, q); whole = whole_says l t w b }

      go : (d : Bool) → eqb l.domain t.from ≡ d → (q : Partner) → partner_of (take t.pairs ls) l.level ≡ q
          → (b : Bool) → numbered (used_rows t) (used l) ≡ b → (k : Bool) → leb (length (image_runs l t)) 120 ≡ k → Way
      go false pd q pq b pb k pk = missing (λ n. eqb-false _ _ pd n.domain) (rw (s, w, pd))
      go true pd None pq b pb k pk =
          missing (λ n. (let y = n.level.1 in let z : ◌≡◌ {A = ℕ} 0 1 = cc in omega arith)) (rw (s, w, pd, pq))
      go true pd (Some v) pq false pb k pk = missing (λ n. never (sym (whole_said l t w n.whole) ∙ pb)) (rw (s, w, pd, pq, pb))
      go true pd (Some v) pq true pb false pk = large (all v pd pq pb) (rw (s, w, pd, pq, pb, pk))
      go true pd (Some v) pq true pb true pk = given (all v pd pq pb) (label_of t.to v (image_runs l t)) (rw (s, w, pd, pq, pb, pk))

  -- the number of the answer
  abbrev Number : ℕ → Type 0
  Number n = (row_of (renumbered_of l t ls)).number ≡ n

  said : (r : Renumbered) → renumbered_of l t ls ≡ r → Number (row_of r).number
  said r e = ap (λ (x : Renumbered). (row_of x).number) e

  pub renumber_alone : RenumberAlone l t ls
  renumber_alone = by way
    where
      apart : (n m : ℕ) → (n ≡ m → ⊥) → Number n → Number m → ⊥
      apart n m d e f = d (sym e ∙ f)

      by : Way → RenumberAlone l t ls
      by (missing n e) =
          let k : Number 16 = said (Err NoNumber) e in
          let not18 : Number 18 → ⊥ = apart 16 18 (λ h. omega arith) k in
          record {
            sixteen = ((λ h. n, λ h. e), (λ h. n, λ h. k));
            eighteen = ((λ h. absurd (not18 (said (Err TooMany) h)), λ h. absurd (n h.0)), (λ h. absurd (not18 h), λ h. absurd (n h.0)));
          }
      by (large n e) =
          let k : Number 18 = said (Err TooMany) e in
          let not16 : Number 16 → ⊥ = apart 18 16 (λ h. omega arith) k in
          let not_far : (m : Label) → Far l t ls m → ⊥ =
          λ m f. apart 18 0 (λ h. omega arith) k (said (renumbered_as m) (renumbering.found l t ls m s w n.domain f)) in
          record {
            sixteen = ((λ h. absurd (not16 (said (Err NoNumber) h)), λ h. absurd (h n)), (λ h. absurd (not16 h), λ h. absurd (h n)));
            eighteen = ((λ h. (n, not_far), λ h. e), (λ h. (n, not_far), λ h. k));
          }
      by (given n m e) =
          let k : Number 0 = said (renumbered_as m) e in
          let not16 : Number 16 → ⊥ = apart 0 16 (λ h. omega arith) k in
          let not18 : Number 18 → ⊥ = apart 0 18 (λ h. omega arith) k in
          let f : Far l t ls m = renumbering.right l t ls m e in
          record {
            sixteen = ((λ h. absurd (not16 (said (Err NoNumber) h)), λ h. absurd (h n)), (λ h. absurd (not16 h), λ h. absurd (h n)));
            eighteen = ((λ h. absurd (not18 (said (Err TooMany) h)), λ h. absurd (h.1 m f)), (λ h. absurd (not18 h), λ h. absurd (h.1 m f)));
          }
