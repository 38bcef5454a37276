-- Document 02, Wish 10: the option 134 of an area, read for a port that may be strict: "refused with 23 .. tested right after 12, pointer at the tag's first
-- category octet".
use Rattle.std.specs.Prelude.{ℕ, Bool, true, not, ◌&&◌, ◌||◌, List, [], ◌∷◌, ◌++◌, ltb, eqb, length, Result, Ok, Err}
use Rattle.option.specs.Option.{domain_of}
use Rattle.option_read.specs.declared.Fault.{Fault}
use Rattle.option_read.specs.declared.KeysRead.{KeysRead}
use Rattle.option_read.specs.Reading.{Reading}
use Rattle.option_read.specs.Reading.{Check, check, checked_reading, category_checks, after_check, label_in}
use Rattle.option_slack.specs.Slack.{slack}

-- row 23: the tag's categories stand from octet 10 on
abbrev pub slack_check : Bool → List ℕ → Check
slack_check strict o = check (strict && slack o) 23 10

-- rows 7 to 12, 23 and 13, in the order in which they are tested
abbrev pub strict_checks : Bool → ℕ → List ℕ → List Check
strict_checks strict d o =
    check (ltb (length o) 10) 7 1
    ∷ check (not (eqb (domain_of o) d)) 8 2
    ∷ (category_checks o ++ (slack_check strict o ∷ after_check o ∷ []))

-- what the option is read to at a port of this domain; where the port is not strict, `reading_for`
unfoldable pub strict_reading : Bool → ℕ → List ℕ → Reading
strict_reading strict d o = checked_reading (strict_checks strict d o) (label_in o)

-- 23 decides: of the numbers that an option is read to for a port's domain, 0 and 13 come after it
abbrev pub stops_slack : Bool → ℕ → List ℕ → Bool
stops_slack strict n o = strict && ((eqb n 0 || eqb n 13) && slack o)

-- the same of what was answered
abbrev pub comes_after : Result KeysRead Fault → Bool
comes_after (Ok k) = true
comes_after (Err f) = eqb f.number 13

abbrev pub stops_read : Bool → Result KeysRead Fault → List ℕ → Bool
stops_read strict r o = strict && (comes_after r && slack o)
