-- Numbers and octets as text (ASCII): decimal, and lower-case hex.
use Rattle.std.specs.Prelude.{ℕ, zero, suc, ◌+◌, ◌/◌, ◌%◌, cond, List, [], ◌∷◌, ◌++◌, ltb, eqb}

-- the digits of a number of at most `most` digits, the highest first; none for 0
unfoldable pub leading : ℕ → ℕ → List ℕ
leading zero x = []
leading (suc most) x = cond (eqb x 0) [] (leading most (x / 10) ++ ((48 + x % 10) ∷ []))

-- a number of at most 20 digits: those of its tenth, and the last one
unfoldable pub decimal : ℕ → List ℕ
decimal x = leading 19 (x / 10) ++ ((48 + x % 10) ∷ [])

-- a blank and a number in decimal
abbrev pub next : ℕ → List ℕ
next x = 32 ∷ decimal x

-- `0` to `9`, then `a` to `f`
abbrev pub hex_digit : ℕ → ℕ
hex_digit d = cond (ltb d 10) (48 + d) (87 + d)

-- two digits for each octet, the higher first
unfoldable pub hex_of : List ℕ → List ℕ
hex_of [] = []
hex_of (x ∷ xs) = hex_digit (x / 16) ∷ hex_digit (x % 16) ∷ hex_of xs
