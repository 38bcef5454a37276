-- What arrives at a port that is taken for sound: checks 1 of the area, 3 to 14, 19 to 21 and 23, as `arrive` has them but for two: no record is looked at (2),
-- and a label that was read is held against the range by its level and runs alone (14). Of a sound port this is `Arrives` (the law `acts_arrives`, proofs/Arrives.antt).
use Rattle.std.specs.Prelude.{Bool, false, cond, not, ◌||◌, List, [], ◌∷◌, ◌≡◌, ℕ, ◌≤◌, ltb, length, take}
use Rattle.std.proofs.Math.Option.{Option}
use Rattle.label.specs.declared.Label.{Label}
use Rattle.label.specs.Label.{used}
use Rattle.label_keys.specs.Keys.{key_runs}
use Rattle.label_keys.specs.Range.{answered, look_of, runs_between}
use Rattle.std.specs.Prelude.{IfOk, Some, None}
use Rattle.area.specs.Kinds.{Place}
use Rattle.port.specs.declared.Port.{Port}
use Rattle.decision.specs.declared.Refusal.{Refusal}
use Rattle.decision.specs.Verdict.{Verdict, verdict_of}
use Rattle.area.specs.Area.{bad_area}
use Rattle.arrive.specs.Checks.{silent, barred, when, first_of, walk_at, place_in, walk_check, required_check, option_check, bad_basic_check, missing_basic_check, basic_range_check, label_by, arriving_label}
use Rattle.arrive.specs.Verdict.{keys_walked}

-- a label's level and runs lie between two labels, by a first look and a pass
abbrev pub label_between : Label → Label → Label → Bool
label_between lowest highest l = answered (look_of lowest highest l.level (used l)) (runs_between lowest highest (used l))

-- 14: a label that was read lies outside the range. The assigned label of a sound port lies in it, and is not looked at
abbrev pub outside : Place → Port → List ℕ → Bool
outside None port area = false
outside (Some p) port area = not (label_between port.lowest port.highest (label_by (Some p) port area))

abbrev pub acts_checks : Port → List ℕ → ℕ → List (Option Refusal)
acts_checks port area code =
    walk_check port area  -- 3, 4, 5
    ∷ required_check port area  -- 6
    ∷ option_check port area  -- 7 to 12, 23, 13
    ∷ bad_basic_check port area  -- 19
    ∷ missing_basic_check port area  -- 20
    ∷ basic_range_check port area code  -- 21
    ∷ when (outside (place_in (walk_at port area)) port area) (barred 14 code)
    ∷ []

unfoldable pub acts_of : Port → List ℕ → ℕ → ℕ → Verdict
acts_of port area code room =
    verdict_of (first_of (when (bad_area area || ltb room 120) (silent 1) ∷ acts_checks port area code)) (arriving_label port area).level (arriving_label port area).count

unfoldable pub acts_keys : Port → List ℕ → List ℕ → List ℕ
acts_keys port area keys = cond (bad_area area || ltb (length keys) 120) keys (keys_walked (walk_at port area) port area keys)

-- the verdict and the keys, for every port and input; where no check applies, the first keys are the runs of the label that the datagram arrives with, if it
-- has at most 120
pub record Acts (port : Port) (area : List ℕ) (code : ℕ) (keys keys' : List ℕ) (r : Verdict) : Type 0 where
  pub answer : r ≡ acts_of port area code (length keys)
  pub left : keys' ≡ acts_keys port area keys
  pub stands : IfOk r (λ p. (arriving_label port area).count ≤ 120 → key_runs (take p.count keys') ≡ used (arriving_label port area))
