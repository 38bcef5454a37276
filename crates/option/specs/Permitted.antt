-- Document 02, Wish 5: the four spellings that a port may permit, and which of them an option is, over its octets alone.
use Rattle.std.specs.Prelude.{ℕ, ◌+◌, ◌-◌, ◌≡◌, List, [], ◌∷◌, Bool, true, false, not, ◌&&◌, ◌||◌, length, get_or, ltb, eqb}
use Rattle.label.specs.declared.Label.{Label}
use Rattle.option.specs.declared.Spellings.{Spellings}
use Rattle.option.specs.Option.{tag_of, body_of, numbers_in, Means}

-- tags 1, 2 and 5 and no ten-octet form: what document 01 permits
abbrev pub usual : Spellings
usual = record { shortest = true; ten = false; numbers = true; pairs = true }

abbrev pub is_usual : Spellings → Bool
is_usual p = p.shortest && (not p.ten && (p.numbers && p.pairs))

-- the set is not empty
abbrev pub some_of : Spellings → Bool
some_of p = p.shortest || (p.ten || (p.numbers || p.pairs))

-- a bitmap in its shortest form: its last octet is not 0
abbrev pub trimmed : List ℕ → Bool
trimmed b = eqb (length b) 0 || not (eqb (get_or b (length b - 1) 0) 0)

-- pairs in their shortest form, over their numbers (top, bottom, top, bottom, ..): no two touch, and a last bottom of 0 is left out
abbrev pub tight : List ℕ → Bool
tight [] = true
tight (t ∷ []) = true
tight (t ∷ b ∷ []) = not (eqb b 0)
tight (t ∷ b ∷ u ∷ xs) = ltb (u + 1) b && tight (u ∷ xs)

-- tag 1 in its shortest form, tag 1 with exactly ten bitmap octets, tag 2, and tag 5 in its shortest form; a bitmap may be the first two at once
abbrev pub is_shortest : List ℕ → Bool
is_shortest o = eqb (tag_of o) 1 && trimmed (body_of o)

abbrev pub is_ten : List ℕ → Bool
is_ten o = eqb (tag_of o) 1 && eqb (length (body_of o)) 10

abbrev pub is_numbers : List ℕ → Bool
is_numbers o = eqb (tag_of o) 2

abbrev pub is_pairs : List ℕ → Bool
is_pairs o = eqb (tag_of o) 5 && tight (numbers_in (body_of o))

-- the option is one of the permitted spellings
unfoldable pub permits : Spellings → List ℕ → Bool
permits p o =
    (p.shortest && is_shortest o) || ((p.ten && is_ten o) || ((p.numbers && is_numbers o) || (p.pairs && is_pairs o)))

-- a permitted spelling that means the label
pub record Permitted (p : Spellings) (o : List ℕ) (l : Label) : Type 0 where
  pub means : Means o l
  pub permitted : permits p o ≡ true
