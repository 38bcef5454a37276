-- What the stages of an arrival answer, in the terms of the checks.
use Rattle.std.specs.Prelude.{Bool, true, cond, not, List, [], ◌∷◌, ◌≡◌, ℕ, eqb, take, Ok, Err, IfOk, None}
use Rattle.std.proofs.Math.Option.{Option, none, some}
use Rattle.label.specs.declared.Label.{Label}
use Rattle.label.specs.Label.{used, in_range}
use Rattle.label_keys.specs.Keys.{key_runs}
use Rattle.label_keys.specs.Range.{answered, look_of, runs_between}
use Rattle.area.specs.Kinds.{Place}
use Rattle.area.specs.Area.{octets_at}
use Rattle.basic.specs.declared.Way.{Way}
use Rattle.basic.specs.Alone.{BasicRead, basic_reading}
use Rattle.port.specs.declared.Port.{Port}
use Rattle.decision.specs.declared.Passed.{Passed}
use Rattle.decision.specs.declared.Refusal.{Refusal}
use Rattle.arrive.specs.Checks.{barred, when, first_of, required_by, option_by, bad_basic_by, missing_basic_by, basic_passes, label_by}
use Rattle.decision.specs.Verdict.{Verdict, verdict_of}
use Rattle.arrive.specs.Verdict.{keys_by}

-- checks 6 to 13 and 23, and 14, with the option 134 at its place
abbrev pub place_checks : Place → Port → List ℕ → ℕ → List (Option Refusal)
place_checks q port area code =
    required_by q port
    ∷ option_by q port area
    ∷ when (not (in_range port.lowest port.highest (label_by q port area))) (barred 14 code)
    ∷ []

-- what they answer, and what the keys hold then
pub record ArrivesAt (q : Place) (port : Port) (area : List ℕ) (code : ℕ) (keys keys' : List ℕ) (r : Verdict) : Type 0 where
  pub answer : r ≡ verdict_of (first_of (place_checks q port area code)) (label_by q port area).level (label_by q port area).count
  pub left : keys' ≡ keys_by q port area keys
  pub stands : IfOk r (λ p. key_runs (take p.count keys') ≡ used (label_by q port area))

-- 19 to 21 of a port's settings, with the option 130 at its place
abbrev pub basic_checks : Place → Bool → Way → List ℕ → ℕ → List (Option Refusal)
basic_checks b on way area code =
    bad_basic_by b area
    ∷ missing_basic_by (octets_at b area) on
    ∷ when (not (basic_passes on way (octets_at b area))) (barred 21 code)
    ∷ []

-- 19 to 21 are still to be asked: no check applies, or 14, which comes after them
abbrev pub is_open : Verdict → Bool
is_open (Ok p) = true
is_open (Err r) = eqb r.number 14

-- a verdict, if a refusal of these comes before it
abbrev pub instead_of : Verdict → Option Refusal → Verdict
instead_of r none = r
instead_of r (some x) = verdict_of (some x) 0 0

abbrev pub before_range : Verdict → Option Refusal → Verdict
before_range r o = cond (is_open r) (instead_of r o) r

-- the level and flags of an area's option 130, if it has one
abbrev pub basic_read : Option (List ℕ) → BasicRead
basic_read none = None
basic_read (some o) = basic_reading o

-- whether what passed lies between two labels by its level and keys
abbrev pub held_between : Label → Label → Passed → List ℕ → Bool
held_between lowest highest p keys =
    answered (look_of lowest highest p.level (key_runs (take p.count keys))) (runs_between lowest highest (key_runs (take p.count keys)))
