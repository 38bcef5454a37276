-- Document 01, "The order of checks" and "The leaving area": the decision of a forwarding as the table reads, and what the output holds.
use Rattle.std.specs.Prelude.{List, [], ◌∷◌, ◌++◌, ℕ, ◌+◌, length}
use Rattle.std.proofs.Math.Option.{Option, none, some}
use Rattle.option_form.specs.Spelled.{length_of}
use Rattle.area_leaving.specs.Kept.{kept_of, round_up, leaving_of}
use Rattle.port.specs.declared.Port.{Port}
use Rattle.table.specs.Table.{Lent}
use Rattle.decision.specs.declared.Facts.{Facts}
use Rattle.decision.specs.declared.Decision.{Decision}
use Rattle.decision.specs.declared.Refusal.{Refusal}
use Rattle.decision.specs.Decision.{silenced, decided}
use Rattle.arrive.specs.Checks.{first_of, option_checks, range_check}
use Rattle.forward_rules.specs.Crossing.{Forwarding, sizes, records, leaving_basic_check, number_check, leaving_check, spelling_check, crossing, leaving_label, leaving_option}

-- the inputs of a forwarding
abbrev pub forwarding_of : Port → Port → Lent → List (List ℕ) → Facts → List ℕ → ℕ → Forwarding
forwarding_of a l t ls facts area room =
    record { arriving = a; leaving = l; table = t; levels = ls; facts = facts; area = area; room = room }

-- forward: the checks in their order
abbrev pub forward_checks : Forwarding → List (Option Refusal)
forward_checks f =
    sizes f  -- 1
    ∷ records f  -- 2
    ∷ (option_checks f.arriving f.area 9  -- 3 to 13 with 23, 19 to 21 at the arriving port
    ++ (leaving_basic_check f  -- 21, the leaving port
    ∷ range_check f.arriving f.area 9  -- 14
    ∷ number_check (crossing f)  -- 16
    ∷ leaving_check (crossing f)  -- 17
    ∷ spelling_check (crossing f) (kept_of f.area)  -- 18
    ∷ []))

-- option, kept options and padding
abbrev pub leaving_count : Forwarding → ℕ
leaving_count f = round_up (length_of (leaving_option (crossing f)) + length (kept_of f.area))

unfoldable pub forward_of : Forwarding → Decision
forward_of f = decided (silenced f.facts) (first_of (forward_checks f)) (leaving_label (crossing f)) (leaving_count f)

abbrev pub option_octets : Option (List ℕ) → List ℕ
option_octets none = []
option_octets (some s) = s

abbrev pub written : Option Refusal → List ℕ → List ℕ → List ℕ → List ℕ
written (some r) option kept out = out
written none option kept out = leaving_of option kept out

-- the output at the end: a refusal writes nothing
unfoldable pub output_of : Forwarding → List ℕ → List ℕ
output_of f out = written (first_of (forward_checks f)) (option_octets (leaving_option (crossing f))) (kept_of f.area) out
