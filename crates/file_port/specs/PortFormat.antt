-- docs/FILE.md, "A port". Version 1: domain (4), lowest label, highest label, required (1: 0 or 1), assigned label. Version 2: the fields of version 1; Basic Security on (1: 0 or 1);
-- receiving: lowest level (1), highest level (1), count (2), flag fields (2 each); sending: the same four; permitted spellings (1); unlabelled (1: 0 or 1); default label.
-- Version 3: the fields of version 2; strict (1: 0 or 1).
use Rattle.std.specs.Prelude.{Bool, true, false, cond, not, List, refl, ℕ, ◌-◌, leb, eqb, length, take, replicate}
use Rattle.std.proofs.Math.Seq.{take-append_seam}
use Rattle.label.specs.declared.Label.{Label}
use Rattle.label.specs.Label.{zero_label, leq, in_range}
use Rattle.option.specs.declared.Spellings.{Spellings}
use Rattle.option.specs.Permitted.{some_of}
use Rattle.basic.specs.declared.Way.{Way}
use Rattle.basic.specs.Levels.{is_level, at_most}
use Rattle.basic.specs.Settings.{basic_off}
use Rattle.port.specs.declared.Port.{Port}
use Rattle.port.specs.Port.{plain_port}
use Rattle.file_format.specs.Format.{Format, one, two, four, number, flag, marks, ◌then◌, ◌such◌, fields, counted, alike, same, choose}
use Rattle.file_format.specs.Places.{padded}
use Rattle.file_port.specs.LabelFormat.{label_format}

-- 1. Parts.

-- the assigned and the default label: all zero where the port has none, else of its domain and in its range, which is a rule over the whole label
unfoldable pub given_format : (none : Bool) → ℕ → Label → Label → Format Label
given_format none domain lowest highest = label_format (cond none 0 domain) such (λ given. cond none true (in_range lowest highest given))

-- the settings of option 130 for one way
abbrev pub way_of : ℕ → ℕ → List ℕ → Way
way_of lowest highest fs = record { lowest = lowest; highest = highest; count = length fs; flags = padded 256 0 fs }

-- switched off every number is 0; switched on the lowest level is one of the four, the highest is one of the four and not below the lowest
unfoldable pub way_format : (on : Bool) → Format Way
way_format on =
    fields
    (number one 0 255 such (λ lowest. cond on (is_level lowest) (eqb lowest 0))
    then λ lowest. number one 0 255 such (λ highest. cond on (at_most lowest highest) (eqb highest 0))
    then λ highest. counted (alike (number two 0 65535)) same two (cond on 256 0) 0)
    (λ p. way_of p.0 p.1.0 p.1.1)
    (λ w. (w.lowest, (w.highest, take w.count w.flags)))
    (λ p. rw (take-append_seam p.1.1 (replicate (256 - length p.1.1) 0)))

-- 1 for tag 1 in its shortest form, 2 for tag 1 with ten bitmap octets, 4 for tag 2, 8 for tag 5; at least one of them
abbrev pub spellings_made : Bool × (Bool × (Bool × Bool)) → Spellings
spellings_made p = record { shortest = p.0; ten = p.1.0; numbers = p.1.1.0; pairs = p.1.1.1 }

abbrev pub spelling_marks : Spellings → Bool × (Bool × (Bool × Bool))
spelling_marks s = (s.shortest, (s.ten, (s.numbers, s.pairs)))

unfoldable pub spellings_format : Format Spellings
spellings_format =
    fields
    marks
    spellings_made
    spelling_marks
    (λ p. refl)
    such some_of

-- 2. The fields of version 1, and those that version 2 adds. Lowest ≤ highest is a rule over the highest label, and so blames its first octet.

abbrev pub Plain : Type 0
Plain = ℕ × (Label × (Label × (Bool × Label)))

unfoldable pub plain_format : Format Plain
plain_format =
    number four 1 4294967295
    then λ domain. label_format domain
    then λ lowest. label_format domain such (λ highest. leq lowest highest)
    then λ highest. flag
    then λ required. given_format required domain lowest highest

abbrev pub Later : Type 0
Later = Bool × (Way × (Way × (Spellings × (Bool × Label))))

unfoldable pub later_format : ℕ → Label → Label → Format Later
later_format domain lowest highest =
    flag
    then λ on. way_format on
    then λ receiving. way_format on
    then λ sending. spellings_format
    then λ spellings. flag
    then λ unlabelled. given_format (not unlabelled) domain lowest highest

-- 3. The port of these fields; one of version 1 has document 01's values in the later ones, one of version 2 is not strict.

abbrev pub plain_of : Port → Plain
plain_of p = (p.domain, (p.lowest, (p.highest, (p.required, p.assigned))))

abbrev pub later_of : Port → Later
later_of p = (p.basic.on, (p.basic.receiving, (p.basic.sending, (p.spellings, (p.unlabelled, p.default)))))

abbrev pub plain_made : Plain → Port
plain_made p = plain_port p.0 p.1.0 p.1.1.0 p.1.1.1.0 p.1.1.1.1

abbrev pub port_made : Plain → Later → Bool → Port
port_made p q strict =
    record {
      domain = p.0;
      lowest = p.1.0;
      highest = p.1.1.0;
      required = p.1.1.1.0;
      assigned = p.1.1.1.1;
      basic = record { on = q.0; receiving = q.1.0; sending = q.1.1.0 };
      spellings = q.1.1.1.0;
      unlabelled = q.1.1.1.1.0;
      default = q.1.1.1.1.1;
      strict = strict;
    }

unfoldable pub first_port : Format Port
first_port = fields {B = Port} plain_format plain_made plain_of (λ p. refl)

unfoldable pub second_port : Format Port
second_port =
    fields {B = Port} (plain_format then λ p. later_format p.0 p.1.0 p.1.1.0) (λ p. port_made p.0 p.1 false) (λ p. (plain_of p, later_of p)) (λ p. refl)

unfoldable pub third_port : Format Port
third_port =
    fields {B = Port}
    (plain_format
    then λ p. later_format p.0 p.1.0 p.1.1.0
    then λ q. flag)
    (λ p. port_made p.0 p.1.0 p.1.1)
    (λ p. (plain_of p, (later_of p, p.strict)))
    (λ p. refl)

-- a port in a file of this version
unfoldable pub port_format : (version : ℕ) → Format Port
port_format version = choose (leb 3 version) third_port (choose (leb 2 version) second_port first_port)

-- the port whose every number is 0, which permits no spelling
abbrev pub no_spelling : Spellings
no_spelling = record { shortest = false; ten = false; numbers = false; pairs = false }

abbrev pub no_port : Port
no_port =
    record { domain = 0; lowest = zero_label; highest = zero_label; required = false; assigned = zero_label; basic = basic_off; spellings = no_spelling; unlabelled = false; default = zero_label; strict = false }
