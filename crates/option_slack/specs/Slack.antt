-- Document 02, Wish 10: the slack spellings, which a strict port stops, over the octets of an option: "a tag 1 bitmap with a trailing zero octet, unless
-- it has exactly ten octets, touching tag 5 pairs, and a last bottom of 0 written out".
use Rattle.std.specs.Prelude.{ℕ, ◌+◌, ◌-◌, Bool, false, not, ◌&&◌, ◌||◌, List, [], ◌∷◌, eqb, length, get_or}
use Rattle.option.specs.Option.{tag_of, numbers_in}
use Rattle.option_read.specs.Reading.{categories_in}

-- the last octet is 0
abbrev pub trailing_zero : List ℕ → Bool
trailing_zero b = not (eqb (length b) 0) && eqb (get_or b (length b - 1) 0) 0

-- over the numbers of the pairs, top, bottom, top, bottom, ..: a next top is one below the bottom before it
abbrev pub touching : List ℕ → Bool
touching [] = false
touching (t ∷ []) = false
touching (t ∷ b ∷ []) = false
touching (t ∷ b ∷ u ∷ xs) = eqb (u + 1) b || touching (u ∷ xs)

-- the last bottom is there, and is 0 (house: also where its pair is the only one)
abbrev pub zero_written : List ℕ → Bool
zero_written [] = false
zero_written (t ∷ []) = false
zero_written (t ∷ b ∷ []) = eqb b 0
zero_written (t ∷ b ∷ u ∷ xs) = zero_written (u ∷ xs)

abbrev pub slack_bitmap : List ℕ → Bool
slack_bitmap b = trailing_zero b && not (eqb (length b) 10)

abbrev pub slack_pairs : List ℕ → Bool
slack_pairs xs = touching xs || zero_written xs

-- by the tag's type and its categories; tag 2 has no slack spelling
unfoldable pub slack_body : ℕ → List ℕ → Bool
slack_body t b = (eqb t 1 && slack_bitmap b) || (eqb t 5 && slack_pairs (numbers_in b))

-- of an option: its tag alone is looked at, also where octets follow it; asked where the option is past 12
unfoldable pub slack : List ℕ → Bool
slack o = slack_body (tag_of o) (categories_in o)
