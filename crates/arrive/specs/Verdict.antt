-- Document 01, "The order of checks": what arrives at a port, checks 1 to 14, 19 to 21 and 23: their verdict, and the keys that a lent list holds then.
use Rattle.std.specs.Prelude.{cond, not, ◌||◌, List, ◌∷◌, ◌≡◌, ℕ, ltb, length, take}
use Rattle.std.proofs.Math.Option.{Option}
use Rattle.label.specs.Label.{used}
use Rattle.label_keys.specs.Keys.{key_runs, with_keys}
use Rattle.option_read.specs.Keys.{keys_after}
use Rattle.std.specs.Prelude.{Ok, Err, IfOk, Some, None}
use Rattle.area.specs.Kinds.{Place, Walk}
use Rattle.port.specs.declared.Port.{Port}
use Rattle.port.specs.Port.{port_sound}
use Rattle.decision.specs.declared.Refusal.{Refusal}
use Rattle.decision.specs.Verdict.{Verdict, verdict_of}
use Rattle.area.specs.Area.{bad_area}
use Rattle.arrive.specs.Checks.{silent, when, first_of, walk_at, option_at, arriving_label, arrival_checks}

-- the checks at a port, from 1 to 14 in their order; `room` is the length of the list of keys, and 1 is given where it is under 120
abbrev pub port_checks : Port → List ℕ → ℕ → ℕ → List (Option Refusal)
port_checks port area code room =
    when (bad_area area || ltb room 120) (silent 1) ∷ when (not (port_sound port)) (silent 2) ∷ arrival_checks port area code

unfoldable pub arrival_of : Port → List ℕ → ℕ → ℕ → Verdict
arrival_of port area code room =
    verdict_of (first_of (port_checks port area code room)) (arriving_label port area).level (arriving_label port area).count

-- the keys at the end: those of the option, where one is read; those of the assigned label, where it is taken; else as they were
abbrev pub keys_by : Place → Port → List ℕ → List ℕ → List ℕ
keys_by None port area keys = cond port.required keys (with_keys port.assigned keys)
keys_by (Some p) port area keys = keys_after port.domain (option_at p area) keys

abbrev pub keys_walked : Walk → Port → List ℕ → List ℕ → List ℕ
keys_walked (Ok met) port area keys = keys_by met.label port area keys
keys_walked (Err r) port area keys = keys

unfoldable pub arrival_keys : Port → List ℕ → List ℕ → List ℕ
arrival_keys port area keys =
    cond (bad_area area || ltb (length keys) 120) keys (cond (port_sound port) (keys_walked (walk_at port area) port area keys) keys)

-- arriving: the verdict and the keys, for every input; where no check applies, the first keys are the runs of the label that the datagram arrives with
pub record Arrives (port : Port) (area : List ℕ) (code : ℕ) (keys keys' : List ℕ) (r : Verdict) : Type 0 where
  pub answer : r ≡ arrival_of port area code (length keys)
  pub left : keys' ≡ arrival_keys port area keys
  pub stands : IfOk r (λ p. key_runs (take p.count keys') ≡ used (arriving_label port area))
