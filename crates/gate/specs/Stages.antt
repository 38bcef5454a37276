-- What the stages of an arrival at a gate answer: cited by private contracts alone.
use Rattle.std.specs.Prelude.{List, [], ◌∷◌, ◌≡◌, ℕ, ◌≤◌, take, IfOk}
use Rattle.std.proofs.Math.Option.{Option}
use Rattle.label.specs.Label.{used}
use Rattle.label_keys.specs.Keys.{key_runs}
use Rattle.area.specs.Kinds.{Place}
use Rattle.port.specs.declared.Port.{Port}
use Rattle.decision.specs.declared.Refusal.{Refusal}
use Rattle.decision.specs.Verdict.{Verdict, verdict_of}
use Rattle.arrive.specs.Checks.{barred, when, first_of, required_by, option_by, label_by}
use Rattle.arrive.specs.Verdict.{keys_by}
use Rattle.gate.specs.Acts.{outside}

-- checks 6 to 13 and 23, and 14, with the option 134 at its place
abbrev pub place_acts : Place → Port → List ℕ → ℕ → List (Option Refusal)
place_acts q port area code = required_by q port ∷ option_by q port area ∷ when (outside q port area) (barred 14 code) ∷ []

-- what they answer, and what the keys hold then
pub record ActsAt (q : Place) (port : Port) (area : List ℕ) (code : ℕ) (keys keys' : List ℕ) (r : Verdict) : Type 0 where
  pub answer : r ≡ verdict_of (first_of (place_acts q port area code)) (label_by q port area).level (label_by q port area).count
  pub left : keys' ≡ keys_by q port area keys
  pub stands : IfOk r (λ p. (label_by q port area).count ≤ 120 → key_runs (take p.count keys') ≡ used (label_by q port area))
