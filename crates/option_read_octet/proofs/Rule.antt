-- The table's rule: one test that is computed over the whole table, and the rule at each entry from it.
use Prim.Native.Nat.{ℕ, ◌<◌, ◌≤◌}
use mathlib.Core.Path.{◌≡◌, refl, sym}
use mathlib.Core.List.{List, [], ◌∷◌}
use mathlib.Core.Bool.{Bool, true, false, ◌&&◌, ◌||◌, cond}
use lib.ListN.{length, get_or}
use lib.Dec.{leb, ltb, eqb}
use borrow.Author.Tests.{leb-true, ltb-true, eqb-true, lt-leb, le-leb, ne_eqb}
use Rattle.label.specs.declared.Run.{Run}
use Rattle.label.specs.Runs.{run, all_below}
use Rattle.label.proofs.Bools.{never, and_left, and_right, all_below_lem}
use Rattle.label_keys.specs.Keys.{key_runs}
use Rattle.option_read_octet.specs.Entry.{count_in, parts_in, octet_runs}
use Rattle.option_read_octet.specs.Theorems.{Rule}

unfoldable pub equal_runs : List Run → List Run → Bool
equal_runs [] [] = true
equal_runs [] (s ∷ ss) = false
equal_runs (r ∷ rs) [] = false
equal_runs (r ∷ rs) (s ∷ ss) = (eqb r.low s.low && eqb r.high s.high) && equal_runs rs ss

same_runs : (rs ss : List Run) → equal_runs rs ss ≡ true → rs ≡ ss
unfolding equal_runs
same_runs [] [] e = refl
same_runs [] (s ∷ ss) e = absurd (never (sym e))
same_runs (r ∷ rs) [] e = absurd (never (sym e))
same_runs (r ∷ rs) (s ∷ ss) e =
    let both = and_left (eqb r.low s.low && eqb r.high s.high) _ e in
    let l : r.low ≡ s.low = eqb-true _ _ (and_left (eqb r.low s.low) _ both) in
    let h : r.high ≡ s.high = eqb-true _ _ (and_right (eqb r.low s.low) _ both) in
    let rest : rs ≡ ss = same_runs rs ss (and_right (eqb r.low s.low && eqb r.high s.high) _ e) in
    λ i. run (l i) (h i) ∷ rest i

unfoldable pub right : ℕ → ℕ → Bool
right x e = leb (count_in e) 4 && equal_runs (key_runs (parts_in e)) (octet_runs x)

-- the test of a whole table
unfoldable pub all_right : List ℕ → Bool
all_right table = eqb (length table) 256 && all_below 256 (λ x. right x (get_or table x 0))

-- a table that passes the test keeps the rule
pub rule : (table : List ℕ) → all_right table ≡ true → Rule table
unfolding all_right right
rule table t =
    record {
      entries = eqb-true _ _ (and_left (eqb (length table) 256) _ t);
      each = λ x h.
          let e = all_below_lem 256 (λ x. right x (get_or table x 0)) (and_right (eqb (length table) 256) _ t) x h in
          record {
            few = leb-true _ _ (and_left (leb (count_in (get_or table x 0)) 4) _ e);
            runs = same_runs _ _ (and_right (leb (count_in (get_or table x 0)) 4) _ e);
          };
    }

-- Of the runs inside an octet: the octet 0 has none, any other some, and the first starts with the octet exactly if its top bit is 1.
abbrev pub first_low : List Run → ℕ
first_low [] = 0
first_low (r ∷ rs) = r.low

abbrev pub first_high : List Run → ℕ
first_high [] = 0
first_high (r ∷ rs) = r.high

starts : ℕ → Bool
starts x = eqb x 0 || (ltb 0 (length (octet_runs x)) && cond (leb 128 x) (eqb (first_low (octet_runs x)) 0) (ltb 0 (first_low (octet_runs x))))

all_start : all_below 256 starts ≡ true
unfolding all_below starts
all_start = refl

module _ (x : ℕ) (h : x < 256) (n : x ≡ 0 → ⊥) where
  start : (ltb 0 (length (octet_runs x)) && cond (leb 128 x) (eqb (first_low (octet_runs x)) 0) (ltb 0 (first_low (octet_runs x)))) ≡ true
  unfolding starts
  start = rw (ne_eqb x 0 n) at (all_below_lem 256 starts all_start x h)

  pub octet_some : 0 < length (octet_runs x)
  octet_some = ltb-true _ _ (and_left (ltb 0 (length (octet_runs x))) _ start)

  pub octet_first : 128 ≤ x → first_low (octet_runs x) ≡ 0
  octet_first k = eqb-true _ _ (rw (le-leb 128 x k) at (and_right (ltb 0 (length (octet_runs x))) _ start))

  pub octet_later : x < 128 → 0 < first_low (octet_runs x)
  octet_later k = ltb-true _ _ (rw (lt-leb 128 x k) at (and_right (ltb 0 (length (octet_runs x))) _ start))
