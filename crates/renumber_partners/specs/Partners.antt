-- The partners of all levels as a list, which is made once for many datagrams.
use Rattle.std.specs.Prelude.{cond, List, [], ◌∷◌, ◌++◌, ℕ, zero, suc, leb, length, drop}
use Rattle.table_levels.specs.Levels.{partner_of, partner_number}

-- a number for each place below n
unfoldable pub tabled : ℕ → (ℕ → ℕ) → List ℕ
tabled zero f = []
tabled (suc n) f = tabled n f ++ (f n ∷ [])

-- for each level from 0 to 255 its partner, 256 where it has none
abbrev pub partner_list : List (List ℕ) → List ℕ
partner_list ps = tabled 256 (λ v. partner_number (partner_of ps v))

-- the list with these at its head, or as it was where they do not fit
unfoldable pub partners_in : List (List ℕ) → List ℕ → List ℕ
partners_in ps was = cond (leb 256 (length was)) (partner_list ps ++ drop 256 was) was
