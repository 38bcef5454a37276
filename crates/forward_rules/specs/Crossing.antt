-- Document 01, "The order of checks, and each number": the checks of a forwarding, 1, 2 and 16 to 18. Document 02, Wish 3: 21 at the leaving port.
use Rattle.std.specs.Prelude.{Bool, cond, not, ◌&&◌, ◌||◌, List, [], ◌∷◌, ℕ, ◌+◌, ltb, eqb, length, take}
use Rattle.std.proofs.Math.Option.{Option, some}
use Rattle.label.specs.declared.Run.{Run}
use Rattle.label.specs.declared.Label.{Label}
use Rattle.label.specs.Label.{used, label_of}
use Rattle.label_keys.specs.Range.{set_in_range}
use Rattle.option.specs.Spelling.{spelling_of}
use Rattle.option_form.specs.Spelled.{lacking, length_of}
use Rattle.port.specs.declared.Port.{Port}
use Rattle.port.specs.Port.{port_sound, lowest_out, highest_out}
use Rattle.decision.specs.declared.Facts.{Facts}
use Rattle.table.specs.Table.{Lent, used_rows, table_sound}
use Rattle.table_levels.specs.Levels.{Partner, partner_of, known, level_or0}
use Rattle.table.specs.Numbers.{numbered}
use Rattle.renumber.specs.Renumber.{image_runs}
use Rattle.decision.specs.declared.Refusal.{Refusal}
use Rattle.area.specs.Area.{bad_area}
use Rattle.arrive.specs.Checks.{silent, barred, when, arriving_basic, basic_passes, arriving_label}

-- Forward: two ports, and a table that is read when their domains differ; `room` is the length of the output.
pub record Forwarding : Type 0 where
  pub arriving : Port
  pub leaving : Port
  pub table : Lent
  pub levels : List (List ℕ)
  pub facts : Facts
  pub area : List ℕ
  pub room : ℕ

-- 1: the area is over 40 octets or not a multiple of 4, or the output is under 40 octets
unfoldable pub sizes : Forwarding → Option Refusal
sizes f = when (bad_area f.area || ltb f.room 40) (silent 1)

abbrev pub same_domain : Forwarding → Bool
same_domain f = eqb f.arriving.domain f.leaving.domain

-- 2: a record that is read is unsound: both ports, and the table when their domains differ
unfoldable pub records : Forwarding → Option Refusal
records f =
    when (not (port_sound f.arriving && (port_sound f.leaving && (same_domain f || table_sound f.table f.levels)))) (silent 2)

-- 21: a 130 toward a port without it, or none toward one with it; level or flags out of the leaving port's range
unfoldable pub leaving_basic_check : Forwarding → Option Refusal
leaving_basic_check f =
    when (not (basic_passes f.leaving.basic.on f.leaving.basic.sending (arriving_basic f.arriving f.area))) (barred 21 9)

-- Past check 14: a label, the domain that it arrives from, and what it leaves through.
pub record Crossing : Type 0 where
  pub label : Label
  pub domain : ℕ
  pub leaving : Port
  pub table : Lent
  pub levels : List (List ℕ)

abbrev pub crossing : Forwarding → Crossing
crossing f =
    record {
      label = arriving_label f.arriving f.area;
      domain = f.arriving.domain;
      leaving = f.leaving;
      table = f.table;
      levels = f.levels;
    }

-- the domains are equal
abbrev pub stays : Crossing → Bool
stays x = eqb x.domain x.leaving.domain

-- the level's partner in the far domain, where it has one
abbrev pub partner : Crossing → Partner
partner x = partner_of (take x.table.pairs x.levels) x.label.level

-- the table's domains are the two ports', and the level and every category have a number
abbrev pub has_numbers : Crossing → Bool
has_numbers x =
    eqb x.table.from x.domain
    && (eqb x.table.to x.leaving.domain && (known (partner x) && numbered (used_rows x.table) (used x.label)))

-- 16: the domains differ, and there is no number
unfoldable pub number_check : Crossing → Option Refusal
number_check x = when (not (stays x || has_numbers x)) (barred 16 9)

-- the level and the whole set of categories with which the datagram leaves: with equal domains the label stays
unfoldable pub leaving_level : Crossing → ℕ
leaving_level x = cond (stays x) x.label.level (level_or0 (partner x))

unfoldable pub leaving_runs : Crossing → List Run
leaving_runs x = cond (stays x) (used x.label) (image_runs x.label x.table)

-- 17: outside the leaving port's range, the whole set, however many runs it has; toward unlabelled hosts not the default label, which is then the
-- range (document 02, Wish 6)
unfoldable pub leaving_check : Crossing → Option Refusal
leaving_check x =
    when (not (set_in_range (lowest_out x.leaving) (highest_out x.leaving) (leaving_level x) (leaving_runs x))) (barred 17 9)

-- the label with which the datagram leaves, where a label holds it
abbrev pub leaving_label : Crossing → Label
leaving_label x = label_of x.leaving.domain (leaving_level x) (leaving_runs x)

-- the octets of the option in its one spelling, among those that the leaving port permits (document 02, Wish 5); none toward unlabelled hosts
abbrev pub leaving_option : Crossing → Option (List ℕ)
leaving_option x =
    cond x.leaving.unlabelled (some []) (spelling_of x.leaving.spellings x.leaving.domain (leaving_level x) (leaving_runs x))

-- no permitted option means the label, or the options exceed 40 octets
abbrev pub no_room : Option (List ℕ) → List ℕ → Bool
no_room option kept = lacking option || ltb 40 (length_of option + length kept)

-- 18: no label holds the set, it has no spelling, or there is no room
unfoldable pub spelling_check : Crossing → List ℕ → Option Refusal
spelling_check x kept = when (ltb 120 (length (leaving_runs x)) || no_room (leaving_option x) kept) (barred 18 9)

-- checks 16 and 17, and that of 18 on the runs
abbrev pub crossing_checks : Crossing → List (Option Refusal)
crossing_checks x = number_check x ∷ leaving_check x ∷ when (ltb 120 (length (leaving_runs x))) (barred 18 9) ∷ []
