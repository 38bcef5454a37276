-- What is decided on the way to a decision, without the label, whose categories stand in a lent list as keys.
use Rattle.std.specs.Prelude.{Bool, false, List, ℕ, eqb, take, Result, Ok, Err}
use Rattle.std.proofs.Math.Option.{Option, none, some}
use Rattle.label_keys.specs.Keys.{key_runs, label_from}
use Rattle.decision.specs.declared.Decision.{Decision}
use Rattle.decision.specs.declared.Passed.{Passed}
use Rattle.decision.specs.declared.Refusal.{Refusal}
use Rattle.decision.specs.Decision.{refused, done}

-- what has passed so far, or the refusal of the first check that applies
abbrev pub Verdict : Type 0
Verdict = Result Passed Refusal

-- a level and a count of keys
abbrev pub passed_with : ℕ → ℕ → Passed
passed_with v n = record { level = v; count = n }

abbrev pub verdict_of : Option Refusal → ℕ → ℕ → Verdict
verdict_of (some r) v n = Err r
verdict_of none v n = Ok (passed_with v n)

-- a check that applies, by its parts
abbrev pub stopped : ℕ → ℕ → ℕ → ℕ → Verdict
stopped n k c p = verdict_of (some (record { number = n; kind = k; code = c; pointer = p })) 0 0

-- no check has applied so far
abbrev pub going : ℕ → ℕ → Verdict
going v n = verdict_of none v n

-- whether the check of a number has applied
abbrev pub stopped_by : ℕ → Verdict → Bool
stopped_by n (Ok p) = false
stopped_by n (Err r) = eqb r.number n

-- the decision of a verdict: the label with the runs of the first keys and a count, or the refusal
unfoldable pub concluded : Verdict → ℕ → Bool → ℕ → List ℕ → Decision
concluded (Ok p) domain quiet n keys = done (label_from domain p.level (key_runs (take p.count keys))) n
concluded (Err r) domain quiet n keys = refused quiet r
