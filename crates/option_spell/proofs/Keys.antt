-- Laws of a label's keys in place of its runs.
use Prim.Native.Nat.{ℕ, zero, suc, ◌≤◌, ◌<◌}
use mathlib.Core.Path.{◌≡◌, refl, ap, ◌∙◌}
use mathlib.Core.Bool.{true}
use mathlib.Core.List.{List, [], ◌∷◌, ◌++◌, map}
use lib.ListN.{length, get_or, take, drop, length-map}
use lib.Seq.{take_at}
use native.Mathlib.Omega.{arith}
use Rattle.label.specs.declared.Run.{Run}
use Rattle.label.specs.declared.Label.{Label}
use Rattle.label.specs.Label.{no_run, used, well_formed}
use Rattle.label_keys.specs.Keys.{key_runs, run_key}
use Rattle.label.proofs.Labels.{formed, used_length}
use Rattle.label_keys.proofs.Keys.{keys_runs}

-- A well-formed label's keys at the front of a list.
module _ (l : Label) (w : well_formed l ≡ true) where
  -- all of them
  pub keys_front : (was keys : List ℕ) → keys ≡ map run_key (used l) ++ drop l.count was → key_runs (take l.count keys) ≡ used l
  keys_front was keys e =
      let mapped : length (map run_key (used l)) ≡ l.count = length-map (used l) run_key ∙ used_length l (formed l w) in
      ap (λ (z : List ℕ). key_runs (take l.count z)) e
      ∙ ap key_runs (take_at (map run_key (used l)) (drop l.count was) l.count mapped)
      ∙ keys_runs 0 (used l) (formed l w).runs

  -- at most one
  pub keys_one : (key : ℕ) → key ≡ run_key (get_or l.runs 0 no_run) → l.count ≤ 1 → 0 < length l.runs → key_runs (take l.count (key ∷ [])) ≡ used l
  keys_one key e h m =
      let same : take l.count (key ∷ []) ≡ map run_key (used l) = rw e (first l.count l.runs h m) in
      ap key_runs same ∙ keys_runs 0 (used l) (formed l w).runs
    where
      first : (c : ℕ) (rs : List Run) → c ≤ 1 → 0 < length rs → take c (run_key (get_or rs 0 no_run) ∷ []) ≡ map run_key (take c rs)
      first c [] h m = absurd (omega arith)
      first zero (r ∷ rs) h m = refl
      first (suc zero) (r ∷ rs) h m = refl
      first (suc (suc c)) (r ∷ rs) h m = absurd (omega arith)
