-- Document 01, "The order of checks, and each number": deliver, at one port and a host: the checks of its own, all of them in their order, and the decision as
-- the table reads.
use Rattle.std.specs.Prelude.{not, ◌&&◌, List, [], ◌∷◌, ◌++◌, ℕ}
use Rattle.std.proofs.Math.Option.{Option}
use Rattle.label.specs.Label.{in_range}
use Rattle.area.specs.Area.{bad_area}
use Rattle.port.specs.declared.Port.{Port}
use Rattle.port.specs.declared.Host.{Host}
use Rattle.port.specs.Port.{port_sound, host_sound}
use Rattle.decision.specs.declared.Facts.{Facts}
use Rattle.decision.specs.declared.Decision.{Decision}
use Rattle.decision.specs.declared.Refusal.{Refusal}
use Rattle.decision.specs.Decision.{silenced, decided}
use Rattle.arrive.specs.Checks.{silent, barred, when, first_of, option_checks, range_check, arriving_label}

-- one port and a host
pub record Delivery : Type 0 where
  pub port : Port
  pub host : Host
  pub facts : Facts
  pub area : List ℕ

abbrev pub delivery_of : Port → Host → Facts → List ℕ → Delivery
delivery_of p h facts area = record { port = p; host = h; facts = facts; area = area }

-- 1, of a delivery: nothing is built, so there is no output
unfoldable pub delivery_sizes : Delivery → Option Refusal
delivery_sizes d = when (bad_area d.area) (silent 1)

-- 2: a record that is read is unsound
unfoldable pub delivery_records : Delivery → Option Refusal
delivery_records d = when (not (port_sound d.port && host_sound d.host d.port.domain)) (silent 2)

-- 15: outside the host's range
unfoldable pub host_check : Delivery → Option Refusal
host_check d = when (not (in_range d.host.lowest d.host.highest (arriving_label d.port d.area))) (barred 15 10)

-- deliver: the checks in their order
abbrev pub deliver_checks : Delivery → List (Option Refusal)
deliver_checks d =
    delivery_sizes d  -- 1
    ∷ delivery_records d  -- 2
    ∷ (option_checks d.port d.area 10  -- 3 to 13 with 23, 19 to 21
    ++ (range_check d.port d.area 10  -- 14
    ∷ host_check d  -- 15
    ∷ []))

-- a delivery returns its label and count 0
unfoldable pub deliver_of : Delivery → Decision
deliver_of d = decided (silenced d.facts) (first_of (deliver_checks d)) (arriving_label d.port d.area) 0
