-- The draft, 3.4.2: the bits of a tag 1 bitmap, category 0 the top bit of the first octet.
use Rattle.std.specs.Prelude.{ℕ, ◌-◌, ◌/◌, ◌%◌, ◌^◌, List, Bool, get_or, eqb}

-- the value of bit k of an octet, counted from the top
abbrev pub weight : ℕ → ℕ
weight k = 2 ^ (7 - k)

-- bit c, counted from the top bit of the first octet; past the last octet there is none
abbrev pub bit_at : List ℕ → ℕ → Bool
bit_at b c = eqb (get_or b (c / 8) 0 / weight (c % 8) % 2) 1
