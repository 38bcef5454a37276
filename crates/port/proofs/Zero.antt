-- The all-zero label, by its test.
use Prim.Native.Nat.{ℕ}
use mathlib.Core.Path.{◌≡◌, refl, ◌∙◌, ap}
use mathlib.Core.Bool.{true}
use mathlib.Core.List.{List, [], ◌∷◌}
use lib.Dec.{eqb}
use lib.ListN.{length, replicate}
use borrow.Author.Tests.{eqb-true}
use Rattle.label.specs.declared.Run.{Run}
use Rattle.label.specs.declared.Label.{Label}
use Rattle.label.specs.Runs.{unused}
use Rattle.label.specs.Label.{no_run, zero_label, is_zero}
use Rattle.label.proofs.Bools.{and_left, and_right}

zeros : (rs : List Run) → unused rs ≡ true → rs ≡ replicate (length rs) no_run
zeros [] e = refl
zeros (r ∷ rs) e =
    let low : r.low ≡ 0 = eqb-true _ _ (and_left (eqb r.low 0) _ e) in
    let high : r.high ≡ 0 = eqb-true _ _ (and_left (eqb r.high 0) _ (and_right (eqb r.low 0) _ e)) in
    let t = zeros rs (and_right (eqb r.high 0) _ (and_right (eqb r.low 0) _ e)) in
    λ i. record { low = low i; high = high i } ∷ t i

pub is_zero_lem : (l : Label) → length l.runs ≡ 120 → is_zero l ≡ true → l ≡ zero_label
unfolding is_zero
is_zero_lem l n e =
    let e1 = and_right (eqb l.domain 0) _ e in
    let e2 = and_right (eqb l.level 0) _ e1 in
    let d : l.domain ≡ 0 = eqb-true _ _ (and_left (eqb l.domain 0) _ e) in
    let v : l.level ≡ 0 = eqb-true _ _ (and_left (eqb l.level 0) _ e1) in
    let c : l.count ≡ 0 = eqb-true _ _ (and_left (eqb l.count 0) _ e2) in
    let r : l.runs ≡ replicate 120 no_run = zeros l.runs (and_right (eqb l.count 0) _ e2) ∙ ap (λ (k : ℕ). replicate k no_run) n in
    λ i. record { domain = d i; level = v i; count = c i; runs = r i }
