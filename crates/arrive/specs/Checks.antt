-- Document 01, "The order of checks, and each number": the checks that both jobs share, what each asks and what it reports, and their order. Document 02,
-- Wish 3: 19, 20 and 21; Wish 10: 23. Of 1 and 2, `bad_area` stands in `area`, and what makes a record sound with the record.
use Rattle.std.specs.Prelude.{◌≡◌, Bool, true, false, not, ◌&&◌, List, [], ◌∷◌, ◌++◌, ℕ, ◌+◌, eqb}
use Rattle.std.proofs.Math.Option.{Option, none, some}
use Rattle.label.specs.declared.Label.{Label}
use Rattle.label.specs.Label.{in_range}
use Rattle.option_read.specs.Reading.{Reading}
use Rattle.option_read.specs.Reading.{reading_for}
use Rattle.option_slack.specs.Strict.{strict_reading}
use Rattle.std.specs.Prelude.{Ok, Err, Some, None, is_none}
use Rattle.area.specs.Kinds.{Place, Walk}
use Rattle.area.specs.Area.{walk_of, octets_at}
pub use Rattle.area.specs.Area.{option_at}
use Rattle.basic.specs.declared.Way.{Way}
use Rattle.basic.specs.Alone.{basic_reading}
use Rattle.basic.specs.Settings.{passes_read}
use Rattle.port.specs.declared.Port.{Port}
use Rattle.decision.specs.declared.Refusal.{Refusal}

-- "silent" is type, code and pointer all 0
abbrev pub silent : ℕ → Refusal
silent n = record { number = n; kind = 0; code = 0; pointer = 0 }

-- 12/0 at an octet of the area; pointers count from the header's start
abbrev pub faulty : ℕ → ℕ → Refusal
faulty n at = record { number = n; kind = 12; code = 0; pointer = 20 + at }

-- 3 with the gateway's or the host's code
abbrev pub barred : ℕ → ℕ → Refusal
barred n code = record { number = n; kind = 3; code = code; pointer = 0 }

-- what a check says: its refusal where it applies
abbrev pub when : Bool → Refusal → Option Refusal
when true r = some r
when false r = none

-- the first check that applies decides
abbrev pub first_of : List (Option Refusal) → Option Refusal
first_of [] = none
first_of (some r ∷ cs) = some r
first_of (none ∷ cs) = first_of cs

-- no check of the list applies
abbrev pub NoneApplies : List (Option Refusal) → Type 0
NoneApplies [] = Unit {0}
NoneApplies (c ∷ cs) = (c ≡ none) × NoneApplies cs

-- the one walk over an area that arrives at a port
abbrev pub walk_at : Port → List ℕ → Walk
walk_at port area = walk_of port.basic.on area

-- 3, 4 and 5, from it
abbrev pub walk_refusal : Walk → Option Refusal
walk_refusal (Ok met) = none
walk_refusal (Err r) = some (faulty r.number r.at)

unfoldable pub walk_check : Port → List ℕ → Option Refusal
walk_check port area = walk_refusal (walk_at port area)

-- the area's option 134, and its option 130, are those that the walk meets
abbrev pub place_in : Walk → Place
place_in (Ok met) = met.label
place_in (Err r) = None

abbrev pub basic_in : Walk → Place
basic_in (Ok met) = met.basic
basic_in (Err r) = None

-- 6: a label is required and none is there
abbrev pub required_by : Place → Port → Option Refusal
required_by None port = when port.required (record { number = 6; kind = 12; code = 1; pointer = 134 })
required_by (Some p) port = none

unfoldable pub required_check : Port → List ℕ → Option Refusal
required_check port area = required_by (place_in (walk_at port area)) port

-- 7 to 12, 23 and 13: what is wrong with the option, read for the port's domain, strictly where the port is strict
abbrev pub read_at : Port → List ℕ → Reading
read_at port o = strict_reading port.strict port.domain o

abbrev pub option_by : Place → Port → List ℕ → Option Refusal
option_by None port area = none
option_by (Some p) port area =
    when (not (eqb (read_at port (option_at p area)).number 0))
    (faulty (read_at port (option_at p area)).number (p + (read_at port (option_at p area)).pointer))

unfoldable pub option_check : Port → List ℕ → Option Refusal
option_check port area = option_by (place_in (walk_at port area)) port area

-- 19: the option 130 is bad
abbrev pub bad_basic_by : Place → List ℕ → Option Refusal
bad_basic_by None area = none
bad_basic_by (Some p) area = when (is_none (basic_reading (option_at p area))) (faulty 19 p)

unfoldable pub bad_basic_check : Port → List ℕ → Option Refusal
bad_basic_check port area = bad_basic_by (basic_in (walk_at port area)) area

-- the octets of the datagram's option 130, if it has one
unfoldable pub arriving_basic : Port → List ℕ → Option (List ℕ)
arriving_basic port area = octets_at (basic_in (walk_at port area)) area

-- 20: the port reads option 130, and none is there
abbrev pub missing_basic_by : Option (List ℕ) → Bool → Option Refusal
missing_basic_by none on = when on (record { number = 20; kind = 12; code = 1; pointer = 130 })
missing_basic_by (some o) on = none

unfoldable pub missing_basic_check : Port → List ℕ → Option Refusal
missing_basic_check port area = missing_basic_by (arriving_basic port area) port.basic.on

-- what passes a port one way: no option 130 where it is switched off; where it is on, one whose level and flags are permitted
abbrev pub basic_passes : Bool → Way → Option (List ℕ) → Bool
basic_passes on way none = not on
basic_passes on way (some o) = on && passes_read way (basic_reading o)

-- 21: level or flags out of the arriving port's range
unfoldable pub basic_range_check : Port → List ℕ → ℕ → Option Refusal
basic_range_check port area code =
    when (not (basic_passes port.basic.on port.basic.receiving (arriving_basic port area))) (barred 21 code)

-- the datagram's label: its own, or the port's assigned one where it has none
abbrev pub label_by : Place → Port → List ℕ → Label
label_by None port area = port.assigned
label_by (Some p) port area = (reading_for port.domain (option_at p area)).label

unfoldable pub arriving_label : Port → List ℕ → Label
arriving_label port area = label_by (place_in (walk_at port area)) port area

-- 14: outside the arriving port's range
unfoldable pub range_check : Port → List ℕ → ℕ → Option Refusal
range_check port area code = when (not (in_range port.lowest port.highest (arriving_label port area))) (barred 14 code)

-- checks 3 to 13, 23 and 19 to 21 at the port where a datagram arrives, in their order: every job begins with these
abbrev pub option_checks : Port → List ℕ → ℕ → List (Option Refusal)
option_checks port area code =
    walk_check port area  -- 3, 4, 5
    ∷ required_check port area  -- 6
    ∷ option_check port area  -- 7 to 12, 23, 13
    ∷ bad_basic_check port area  -- 19
    ∷ missing_basic_check port area  -- 20
    ∷ basic_range_check port area code  -- 21
    ∷ []

-- these and 14, which both jobs share
abbrev pub arrival_checks : Port → List ℕ → ℕ → List (Option Refusal)
arrival_checks port area code = option_checks port area code ++ (range_check port area code ∷ [])
