-- Document 01, "Asked alone" and rows 3 and 7 to 13 of the table: what reading one option answers, for any octets.
-- Pointers count from the option's own start.
use Rattle.std.specs.Prelude.{ℕ, ◌+◌, ◌-◌, ◌*◌, ◌/◌, List, [], ◌∷◌, ◌++◌, Bool, not, ◌&&◌, ◌||◌, cond, length, get_or, take, drop, leb, ltb, eqb, Result, Ok, Err}
use Rattle.label.specs.declared.Label.{Label}
use Rattle.label.specs.Runs.{joined}
use Rattle.label.specs.Label.{label_of, zero_label}
use Rattle.option.specs.Option.{domain_of, tag_of, tag_length_of, level_of, is_even}
use Rattle.option.specs.Reading.{pieces}
use Rattle.option.specs.Index.{first_true, bad_number, bad_pair, pairs_of}
use Rattle.option_read.specs.declared.Fault.{Fault}

-- a row of what is read: number 0 and the label; or a refusal's number, its place in the option, and the all-zero label
pub record Reading : Type 0 where
  pub number : ℕ
  pub pointer : ℕ
  pub label : Label

abbrev pub fault : ℕ → ℕ → Fault
fault n at = record { number = n; at = at }

-- the answer of a row
abbrev pub told : Reading → Result Label Fault
told r = cond (eqb r.number 0) (Ok r.label) (Err (fault r.number r.pointer))

-- the label was read
abbrev pub found : Label → Reading
found l = record { number = 0; pointer = 0; label = l }

-- a refusal: its number, its place, and the all-zero label
abbrev pub not_read : ℕ → ℕ → Reading
not_read n p = record { number = n; pointer = p; label = zero_label }

-- the row of an answer
abbrev pub reading_row : Result Label Fault → Reading
reading_row (Ok l) = found l
reading_row (Err f) = not_read f.number f.at

-- a row of the table: when it applies, its number and its pointer
pub record Check : Type 0 where
  pub applies : Bool
  pub number : ℕ
  pub pointer : ℕ

abbrev pub check : Bool → ℕ → ℕ → Check
check b n p = record { applies = b; number = n; pointer = p }

-- the first check that applies decides; where none does, the label is found
abbrev pub checked_reading : List Check → Label → Reading
checked_reading [] l = found l
checked_reading (c ∷ cs) l = cond c.applies (not_read c.number c.pointer) (checked_reading cs l)

abbrev pub known_tag : ℕ → Bool
known_tag t = eqb t 1 || (eqb t 2 || eqb t 5)

-- the lengths that are valid for a tag's type: 4 to 34 for tag 1; even, 4 to 34 for tag 2; even, 4 to 32 for tag 5 (house: 7 pairs)
abbrev pub good_length : ℕ → ℕ → Bool
good_length t n = leb 4 n && ((eqb t 1 || is_even n) && leb n (cond (eqb t 5) 32 34))

-- the tag's own categories: as many octets after the level as its length says
abbrev pub categories_in : List ℕ → List ℕ
categories_in o = take (tag_length_of o - 4) (drop 10 o)

-- how many numbers a tag 2 has, or pairs a tag 5
abbrev pub count_in : ℕ → List ℕ → ℕ
count_in t b = cond (eqb t 2) (length b / 2) (pairs_of b)

-- number k of a tag 2 is bad, or pair k of a tag 5
abbrev pub bad_in : ℕ → List ℕ → ℕ → Bool
bad_in t b k = cond (eqb t 2) (bad_number b k) (bad_pair b k)

-- where among the tag's categories the first bad number (2 octets each) or pair (4 octets each) begins; not before their end where none is
-- bad, and in tag 1 none can be
abbrev pub bad_place : ℕ → List ℕ → ℕ
bad_place t b = cond (eqb t 1) (length b) (cond (eqb t 2) 2 4 * first_true (bad_in t b) (count_in t b))

-- rows 9 to 12
abbrev pub category_checks : List ℕ → List Check
category_checks o =
    check (not (known_tag (tag_of o))) 9 6
    ∷ check (not (good_length (tag_of o) (tag_length_of o) && leb (tag_length_of o + 6) (length o))) 10 7
    ∷ check (not (eqb (get_or o 8 0) 0)) 11 8
    ∷ check (ltb (bad_place (tag_of o) (categories_in o)) (length (categories_in o))) 12 (10 + bad_place (tag_of o) (categories_in o))
    ∷ []

-- row 13
abbrev pub after_check : List ℕ → Check
after_check o = check (ltb (tag_length_of o + 6) (length o)) 13 (tag_length_of o + 6)

-- rows 9 to 13
unfoldable pub tag_checks : List ℕ → List Check
tag_checks o = category_checks o ++ (after_check o ∷ [])

-- the label of an option to which no check applies
unfoldable pub label_in : List ℕ → Label
label_in o = label_of (domain_of o) (level_of o) (joined (pieces (tag_of o) (categories_in o)))

-- rows 7 to 13, in the numbers' order whatever the octet's place
unfoldable pub reading_by : Bool → List ℕ → Reading
reading_by foreign o = checked_reading (check (ltb (length o) 10) 7 1 ∷ check foreign 8 2 ∷ tag_checks o) (label_in o)

-- begins with 134 and fills its buffer
abbrev pub framed : List ℕ → Bool
framed o = leb 2 (length o) && (eqb (get_or o 0 0) 134 && eqb (get_or o 1 0) (length o))

-- one option read alone: 3 where it does not begin with 134 or fill its buffer; 8 for domain 0 only
unfoldable pub reading_of : List ℕ → Reading
reading_of o = cond (framed o) (reading_by (eqb (domain_of o) 0) o) (not_read 3 0)

-- the option 134 of an area, read for a port of this domain
unfoldable pub reading_for : ℕ → List ℕ → Reading
reading_for d o = reading_by (not (eqb (domain_of o) d)) o
