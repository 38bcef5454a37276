-- The decision that a verdict becomes.
use mathlib.Core.Path.{◌≡◌, refl}
use mathlib.Core.Bool.{Bool}
use mathlib.Core.List.{List, []}
use mathlib.Core.Option.{none, some}
use Prim.Native.Nat.{ℕ}
use lib.ListN.{take}
use Rattle.label.specs.Label.{zero_label}
use Rattle.label_keys.specs.Keys.{key_runs, label_from}
use Rattle.decision.specs.declared.Refusal.{Refusal}
use Rattle.decision.specs.Decision.{refused, done}
use Rattle.decision.specs.Verdict.{verdict_of, concluded}

pub none_from : label_from 0 0 [] ≡ zero_label
unfolding label_from
none_from = refl

-- the decision of a refusal, and of a verdict that nothing stopped
pub concluded_refused : (x : Refusal) (v n domain count : ℕ) (quiet : Bool) (keys : List ℕ) → concluded (verdict_of (some x) v n) domain quiet count keys ≡ refused quiet x
unfolding concluded
concluded_refused x v n domain count quiet keys = refl

pub concluded_done : (v n domain count : ℕ) (quiet : Bool) (keys : List ℕ) → concluded (verdict_of none v n) domain quiet count keys ≡ done (label_from domain v (key_runs (take n keys))) count
unfolding concluded
concluded_done v n domain count quiet keys = refl
