-- Document 01, "The order of checks, and each number", with the lines that document 02 adds: its table, line by line (number, when, type, code,
-- pointer), and the order in which the numbers are tested. Pointers are said by the octet that is blamed.
use Rattle.std.specs.Prelude.{◌≡◌, Bool, true, false, not, cond, ◌&&◌, ◌||◌, List, [], ◌∷◌, ◌++◌, ◌↔◌, ℕ, ◌+◌, ◌*◌, ◌<◌, leb, ltb, eqb, length, get_or}
use Rattle.label.specs.Label.{in_range}
use Rattle.label_keys.specs.Range.{set_in_range}
use Rattle.option.specs.Option.{domain_of, tag_of, tag_length_of, is_even}
use Rattle.option_read.specs.Reading.{known_tag, good_length, categories_in, bad_in, bad_place}
use Rattle.option_slack.specs.Slack.{slack}
use Rattle.area.specs.declared.Kind.{Kind}
use Rattle.area.specs.declared.Kind.TheVariants.{End, NoOperation, Basic, Extended, Cipso, Other}
use Rattle.std.specs.Prelude.{Ok, Some, None}
use Rattle.area.specs.Kinds.{Place, Size, places}
use Rattle.area.specs.Area.{bad_area, Met, met_of, walk_of}
use Rattle.basic.specs.Option.{basic_valid}
use Rattle.area_leaving.specs.Kept.{kept_of}
use Rattle.port.specs.declared.Port.{Port}
use Rattle.port.specs.Port.{port_sound, host_sound, lowest_out, highest_out}
use Rattle.table.specs.Table.{table_sound}
use Rattle.decision.specs.declared.Decision.{Decision}
use Rattle.decision.specs.declared.Refusal.{Refusal}
use Rattle.decision.specs.Decision.{silenced, refused}
use Rattle.arrive.specs.Checks.{walk_at, place_in, basic_in, option_at, arriving_basic, basic_passes, arriving_label}
use Rattle.deliver.specs.Delivery.{Delivery, deliver_of}
use Rattle.forward_rules.specs.Crossing.{no_room, Forwarding, same_domain, crossing, stays, has_numbers, leaving_level, leaving_runs, leaving_option}
use Rattle.forward_rules.specs.Forward.{forward_of}
use Rattle.demands.specs.First.{NoneOf, FirstOf}

-- a line of the table, held against an input
pub record Rule : Type 0 where
  pub number : ℕ
  pub applies : Bool
  pub kind : ℕ
  pub code : ℕ
  pub pointer : ℕ

abbrev pub rule : ℕ → Bool → ℕ → ℕ → ℕ → Rule
rule n b k c p = record { number = n; applies = b; kind = k; code = c; pointer = p }

-- the octets of an option that begins at p, by their place in the area
abbrev pub type_octet : ℕ → ℕ
type_octet p = p

abbrev pub length_octet : ℕ → ℕ
length_octet p = p + 1

abbrev pub domain_field : ℕ → ℕ
domain_field p = p + 2

abbrev pub tag_type : ℕ → ℕ
tag_type p = p + 6

abbrev pub tag_length : ℕ → ℕ
tag_length p = p + 7

abbrev pub alignment : ℕ → ℕ
alignment p = p + 8

abbrev pub first_category : ℕ → ℕ
first_category p = p + 10

-- the first octet of the first bad number or pair of the option o, which begins at p; the categories stand from its octet 10 on
abbrev pub first_bad : List ℕ → ℕ → ℕ
first_bad o p = p + (10 + bad_place (tag_of o) (categories_in o))

-- the first octet after the tag, which begins at octet 6
abbrev pub after_tag : List ℕ → ℕ → ℕ
after_tag o p = p + (tag_length_of o + 6)

-- 3, 4 and 5, of an option that the walk meets
abbrev pub is_bad : Size → Bool
is_bad None = true
is_bad (Some n) = false

abbrev pub is_basic : Kind → Bool
is_basic End = false
is_basic NoOperation = false
is_basic Basic = true
is_basic Extended = false
is_basic Cipso = false
is_basic Other = false

abbrev pub is_extended : Kind → Bool
is_extended End = false
is_extended NoOperation = false
is_extended Basic = false
is_extended Extended = true
is_extended Cipso = false
is_extended Other = false

abbrev pub is_label : Kind → Bool
is_label End = false
is_label NoOperation = false
is_label Basic = false
is_label Extended = false
is_label Cipso = true
is_label Other = false

-- `on`: the arriving port has Basic Security switched on; `label` and `basic`: an option 134, an option 130 was met before
abbrev pub option_rules : Bool → Bool → Bool → Met → List Rule
option_rules on label basic m =
    -- 3: an option's length octet is missing, under 2, or runs past the area
    rule 3 (is_bad m.size) 12 0 (20 + type_octet m.at)
    -- 4: option 133, and 130 where the arriving port hasn't switched it on
    ∷ rule 4 (is_extended m.kind || (is_basic m.kind && not on)) 12 0 (20 + type_octet m.at)
    -- 5: second option 134, second option 130
    ∷ rule 5 ((is_label m.kind && label) || (is_basic m.kind && basic)) 12 0 (20 + type_octet m.at)
    ∷ []

-- 6 to 14, 19 to 21 and 23, which both jobs share; the area's options 134 and 130 are those its walk meets
abbrev pub is_at : Place → Bool
is_at None = false
is_at (Some p) = true

abbrev pub octet_at : Place → ℕ
octet_at None = 0
octet_at (Some p) = p

-- the lines that speak of the option 134, where there is one: o is the option, p its place
abbrev pub label_rules : Bool → List ℕ → ℕ → Port → List Rule
label_rules there o p port =
    -- 7: option 134 shorter than 10
    rule 7 (there && ltb (length o) 10) 12 0 (20 + length_octet p)
    -- 8: domain 0, or not the port's (a sound port's is not 0)
    ∷ rule 8 (there && not (eqb (domain_of o) port.domain)) 12 0 (20 + domain_field p)
    -- 9: tag type not 1, 2 or 5
    ∷ rule 9 (there && not (known_tag (tag_of o))) 12 0 (20 + tag_type p)
    -- 10: tag length not valid for its type, or more than option length − 6
    ∷ rule 10 (there && not (good_length (tag_of o) (tag_length_of o) && leb (tag_length_of o + 6) (length o))) 12 0 (20 + tag_length p)
    -- 11: alignment octet not 0
    ∷ rule 11 (there && not (eqb (get_or o 8 0) 0)) 12 0 (20 + alignment p)
    -- 12: bad category or pair
    ∷ rule 12 (there && ltb (bad_place (tag_of o) (categories_in o)) (length (categories_in o))) 12 0 (20 + first_bad o p)
    -- 23: a slack spelling at a strict port (Wish 10)
    ∷ rule 23 (there && (port.strict && slack o)) 12 0 (20 + first_category p)
    -- 13: octets after the tag
    ∷ rule 13 (there && ltb (tag_length_of o + 6) (length o)) 12 0 (20 + after_tag o p)
    ∷ []

-- 21: level or flags out of the arriving port's range
abbrev pub arriving_basic_rule : Port → List ℕ → ℕ → Rule
arriving_basic_rule port area code = rule 21 (not (basic_passes port.basic.on port.basic.receiving (arriving_basic port area))) 3 code 0

-- the lines that speak of the option 130; q is its place
abbrev pub basic_rules : Place → Port → List ℕ → ℕ → List Rule
basic_rules q port area code =
    -- 19: option 130 is bad
    rule 19 (is_at q && not (basic_valid (option_at (octet_at q) area))) 12 0 (20 + type_octet (octet_at q))
    -- 20: missing where the port has it switched on
    ∷ rule 20 (not (is_at q) && port.basic.on) 12 1 130
    -- 21
    ∷ arriving_basic_rule port area code
    ∷ []

-- 14: outside the arriving port's range
abbrev pub range_rule : Port → List ℕ → ℕ → Rule
range_rule port area code = rule 14 (not (in_range port.lowest port.highest (arriving_label port area))) 3 code 0

abbrev pub arrival_rules : Place → Place → Port → List ℕ → ℕ → List Rule
arrival_rules q b port area code =
    -- 6: label required, none there
    rule 6 (not (is_at q) && port.required) 12 1 134
    ∷ (label_rules (is_at q) (option_at (octet_at q) area) (octet_at q) port
    ++ (range_rule port area code
    ∷ basic_rules b port area code))

-- 1: area over 40 octets or not a multiple of 4; on forward, output under 40 octets. 2: a record that is read is unsound
abbrev pub forward_inputs : Forwarding → List Rule
forward_inputs f =
    rule 1 (bad_area f.area || ltb f.room 40) 0 0 0
    ∷ rule 2 (not (port_sound f.arriving && (port_sound f.leaving && (same_domain f || table_sound f.table f.levels)))) 0 0 0
    ∷ []

abbrev pub deliver_inputs : Delivery → List Rule
deliver_inputs d = rule 1 (bad_area d.area) 0 0 0 ∷ rule 2 (not (port_sound d.port && host_sound d.host d.port.domain)) 0 0 0 ∷ []

-- 21: a 130 toward a port without it, or none toward one with it; level or flags out of the leaving port's range
abbrev pub leaving_basic_rule : Forwarding → Rule
leaving_basic_rule f =
    rule 21 (not (basic_passes f.leaving.basic.on f.leaving.basic.sending (arriving_basic f.arriving f.area))) 3 9 0

abbrev pub crossing_rules : Forwarding → List Rule
crossing_rules f =
    -- 16: domains differ: table's domains aren't the two ports', or a level or category has no number
    rule 16 (not (stays (crossing f) || has_numbers (crossing f))) 3 9 0
    -- 17: outside the leaving port's range; toward unlabelled hosts the default label is the range (Wish 6)
    ∷ rule 17 (not (set_in_range (lowest_out f.leaving) (highest_out f.leaving) (leaving_level (crossing f)) (leaving_runs (crossing f)))) 3 9 0
    -- 18: no permitted option means the label, or the options exceed 40 octets
    ∷ rule 18 (ltb 120 (length (leaving_runs (crossing f))) || no_room (leaving_option (crossing f)) (kept_of f.area)) 3 9 0
    ∷ []

-- 15: outside the host's range
abbrev pub host_rules : Delivery → List Rule
host_rules d = rule 15 (not (in_range d.host.lowest d.host.highest (arriving_label d.port d.area))) 3 10 0 ∷ []

-- gateway code is 9, host code 10
abbrev pub forward_table : Forwarding → List Rule
forward_table f =
    forward_inputs f
    ++ (arrival_rules (place_in (walk_at f.arriving f.area)) (basic_in (walk_at f.arriving f.area)) f.arriving f.area 9
    ++ (leaving_basic_rule f
    ∷ crossing_rules f))

abbrev pub deliver_table : Delivery → List Rule
deliver_table d =
    deliver_inputs d
    ++ (arrival_rules (place_in (walk_at d.port d.area)) (basic_in (walk_at d.port d.area)) d.port d.area 10 ++ host_rules d)

-- The order: a number by itself, or numbers that are tested option by option.
pub data Test : Type 0 where
  one : ℕ → Test
  each : List ℕ → Test

-- "The lowest number wins, save that 3, 4 and 5 come from one walk: the earliest option decides, and within it 3, then 4, then 5." Wish 3: 19, 20 and
-- 21 "after 13, in that order". Wish 7: 22 is "tested after 15"; of two ports no line has it. Wish 10: 23 is "tested right after 12"
abbrev pub order : List Test
order =
    one 1 ∷ one 2 ∷ each (3 ∷ 4 ∷ 5 ∷ []) ∷ one 6 ∷ one 7 ∷ one 8 ∷ one 9 ∷ one 10 ∷ one 11 ∷ one 12 ∷ one 23 ∷ one 13 ∷ one 19 ∷ one 20 ∷ one 21 ∷ one 14 ∷ one 15 ∷ one 22 ∷ one 16 ∷ one 17 ∷ one 18 ∷ []

-- the lines of a table that have the number
abbrev pub with_number : ℕ → List Rule → List Rule
with_number n [] = []
with_number n (r ∷ rs) = cond (eqb r.number n) (r ∷ with_number n rs) (with_number n rs)

abbrev pub lines_for : List ℕ → List Rule → List Rule
lines_for [] table = []
lines_for (n ∷ ns) table = with_number n table ++ lines_for ns table

-- option by option
abbrev pub by_option : List ℕ → Bool → Bool → Bool → List Met → List Rule
by_option ns on label basic [] = []
by_option ns on label basic (m ∷ ms) =
    lines_for ns (option_rules on label basic m) ++ by_option ns on (label || is_label m.kind) (basic || is_basic m.kind) ms

-- all lines in the order in which they are tested
abbrev pub tested : List Test → List Rule → Bool → List Met → List Rule
tested [] table on met = []
tested (one n ∷ ts) table on met = with_number n table ++ tested ts table on met
tested (each ns ∷ ts) table on met = by_option ns on false false met ++ tested ts table on met

abbrev pub forward_tests : Forwarding → List Rule
forward_tests f = tested order (forward_table f) f.arriving.basic.on (met_of f.area)

abbrev pub deliver_tests : Delivery → List Rule
deliver_tests d = tested order (deliver_table d) d.port.basic.on (met_of d.area)

-- no line of the list applies
abbrev pub NoRule : List Rule → Type 0
NoRule rules = NoneOf (λ (x : Rule). x.applies) rules

-- r is the first line that applies
abbrev pub FirstRule : List Rule → Rule → Type 0
FirstRule rules r = FirstOf (λ (x : Rule). x.applies) rules r

-- a line's number, type, code and pointer
abbrev pub report_of : Rule → Refusal
report_of r = record { number = r.number; kind = r.kind; code = r.code; pointer = r.pointer }

-- the decision follows the lines: the first that applies gives number, type, code and pointer (silent where a fact silences); 0 where none does
pub data Follows (rules : List Rule) (quiet : Bool) (d : Decision) : Type 0 where
  passes : NoRule rules → d.number ≡ 0 → Follows rules quiet d
  stops : (r : Rule) → FirstRule rules r → d ≡ refused quiet (report_of r) → Follows rules quiet d

-- the option's octets are the area's from its place on, so that a place p + i is that of its octet i
pub record StandsAt (t : ℕ) (area : List ℕ) (p : ℕ) : Type 0 where
  pub type : get_or area (type_octet p) 0 ≡ t
  pub size : length (option_at p area) ≡ get_or area (length_octet p) 0
  pub octet : (i : ℕ) → i < length (option_at p area) → get_or (option_at p area) i 0 ≡ get_or area (p + i) 0

-- the first bad one of a tag's categories: number k of a tag 2 (2 octets each) or pair k of a tag 5 (4 octets each) is bad, and none before it
pub record BadAt (t : ℕ) (b : List ℕ) : Type 0 where
  pub index : ℕ
  pub place : bad_place t b ≡ cond (eqb t 2) 2 4 * index
  pub bad : bad_in t b index ≡ true
  pub first : (k : ℕ) → k < index → bad_in t b k ≡ false

pub record OrderOfChecks : Type 0 where
  pub forward : (f : Forwarding) → Follows (forward_tests f) (silenced f.facts) (forward_of f)
  pub deliver : (d : Delivery) → Follows (deliver_tests d) (silenced d.facts) (deliver_of d)
  -- 0 exactly when none applies
  pub forwarded : (f : Forwarding) → ((forward_of f).number ≡ 0) ↔ NoRule (forward_tests f)
  pub delivered : (d : Delivery) → ((deliver_of d).number ≡ 0) ↔ NoRule (deliver_tests d)
  -- the octets that are blamed
  pub stands : (on : Bool) (area : List ℕ) (p : ℕ) (basic : Place) → walk_of on area ≡ Ok (places (Some p) basic) → StandsAt 134 area p
  pub basic : (on : Bool) (area : List ℕ) (label : Place) (p : ℕ) → walk_of on area ≡ Ok (places label (Some p)) → StandsAt 130 area p
  pub bad_ones : (t : ℕ) (b : List ℕ) → is_even (length b) ≡ true → bad_place t b < length b → BadAt t b
