-- Wish 3: "The four levels are Unclassified 10101011, Confidential 10010110, Secret 01011010 and Top Secret 00111101, in a short fixed list with
-- their order"; RFC 1108, 2.3 and table 1: the list's order is the order of levels, and any two octets differ in at least four bits.
use Rattle.std.specs.Prelude.{ℕ, zero, suc, ◌+◌, ◌%◌, ◌/◌, Bool, true, false, cond, ◌&&◌, ◌||◌, List, [], ◌∷◌, leb, eqb}
use Rattle.basic.specs.declared.Level.{Level}

abbrev pub level : ℕ → ℕ → Level
level o r = record { octet = o; rank = r }

-- Unclassified, Confidential, Secret, Top Secret
abbrev pub levels : List Level
levels = level 171 0 ∷ level 150 1 ∷ level 90 2 ∷ level 61 3 ∷ []

-- the octet is that of a level of the list
abbrev pub is_in : List Level → ℕ → Bool
is_in [] x = false
is_in (l ∷ ls) x = eqb l.octet x || is_in ls x

-- the rank that the list gives to an octet, or 4 where it has none
abbrev pub rank_in : List Level → ℕ → ℕ
rank_in [] x = 4
rank_in (l ∷ ls) x = cond (eqb l.octet x) l.rank (rank_in ls x)

-- one of the four
unfoldable pub is_level : ℕ → Bool
is_level x = is_in levels x

-- 0 for Unclassified up to 3 for Top Secret: levels are compared by it, and not as octets
unfoldable pub rank_of : ℕ → ℕ
rank_of x = rank_in levels x

-- both are of the four, and the first has no higher rank
unfoldable pub at_most : ℕ → ℕ → Bool
at_most a b = is_level a && (is_level b && leb (rank_of a) (rank_of b))

-- in how many of their n lowest bits two numbers differ
abbrev pub bits_apart : ℕ → ℕ → ℕ → ℕ
bits_apart zero x y = 0
bits_apart (suc n) x y = cond (eqb (x % 2) (y % 2)) 0 1 + bits_apart n (x / 2) (y / 2)

-- the octet differs from each of the list in at least four of its eight bits
abbrev pub far_from_all : ℕ → List Level → Bool
far_from_all x [] = true
far_from_all x (l ∷ ls) = leb 4 (bits_apart 8 x l.octet) && far_from_all x ls

-- the table's rule, from rank r on: octets, ranks in order, every octet far from all that follow it
abbrev pub table_rule : ℕ → List Level → Bool
table_rule r [] = true
table_rule r (l ∷ ls) = leb l.octet 255 && (eqb l.rank r && (far_from_all l.octet ls && table_rule (r + 1) ls))
