-- Document 01, "Records": what makes a port and a host's range sound.
use Rattle.std.specs.Prelude.{Bool, false, cond, not, ◌&&◌, ◌||◌, ℕ, eqb}
use Rattle.label.specs.declared.Label.{Label}
use Rattle.label.specs.Label.{leq, in_range, is_zero, zero_label}
use Rattle.basic.specs.Settings.{basic_off, is_off, basic_sound}
use Rattle.option.specs.Permitted.{usual, is_usual, some_of}
use Rattle.port.specs.declared.Port.{Port}
use Rattle.port.specs.declared.Host.{Host}

-- a port as document 01 has it: a field that a wish adds has the value that says what was before
abbrev pub plain_port : ℕ → Label → Label → Bool → Label → Port
plain_port domain lowest highest required assigned =
    record {
      domain = domain;
      lowest = lowest;
      highest = highest;
      required = required;
      assigned = assigned;
      basic = basic_off;
      spellings = usual;
      unlabelled = false;
      default = zero_label;
      strict = false;
    }

-- document 01's record says it: every later field has the value that `plain_port` gives
unfoldable pub is_plain : Port → Bool
is_plain p = is_off p.basic && (is_usual p.spellings && (not (p.unlabelled || p.strict) && is_zero p.default))

-- both labels are well formed and of the domain, and lowest ≤ highest
unfoldable pub range_sound : Label → Label → ℕ → Bool
range_sound lowest highest domain =
    eqb lowest.domain domain && (eqb highest.domain domain && leq lowest highest)

-- where a label is required, the assigned label is all zero, every place of it; where it is not, it is in range (and so well formed and of the domain)
unfoldable pub assigned_sound : Port → Bool
assigned_sound p = cond p.required (is_zero p.assigned) (in_range p.lowest p.highest p.assigned)

-- document 02, Wish 6: the default label of a port that faces unlabelled hosts lies in its range; on others it is all zero
abbrev pub default_lies : Bool → Label → Label → Label → Bool
default_lies unlabelled lowest highest l = cond unlabelled (in_range lowest highest l) (is_zero l)

unfoldable pub default_sound : Port → Bool
default_sound p = default_lies p.unlabelled p.lowest p.highest p.default

-- a nonzero domain, a sound range in it, a sound assigned label; sound settings of option 130; at least one permitted spelling; a sound default
-- label
unfoldable pub port_sound : Port → Bool
port_sound p =
    not (eqb p.domain 0)
    && (range_sound p.lowest p.highest p.domain && (assigned_sound p && (basic_sound p.basic && (some_of p.spellings && default_sound p))))

-- the host's range, in the port's domain. House: that the port's range lies inside the host's is not tested
unfoldable pub host_sound : Host → ℕ → Bool
host_sound h domain = range_sound h.lowest h.highest domain

-- Toward unlabelled hosts the range of what may leave is the default label alone; toward others it is the port's.
abbrev pub lowest_out : Port → Label
lowest_out p = cond p.unlabelled p.default p.lowest

abbrev pub highest_out : Port → Label
highest_out p = cond p.unlabelled p.default p.highest
