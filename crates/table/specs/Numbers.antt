-- Document 01, "Records": the number that a category has, and the numbers of a set.
use Rattle.std.specs.Prelude.{Bool, false, not, ◌&&◌, ◌||◌, List, [], ◌∷◌, map, ℕ, zero, suc, ◌+◌, ◌-◌, leb, eqb}
use Rattle.label.specs.declared.Run.{Run}
use Rattle.label.specs.Runs.{run, covers, all_below}
use Rattle.table.specs.declared.Row.{Row}

-- the categories of a row
abbrev pub source : Row → Run
source r = run r.low r.high

-- the category has a number: it lies in a row
abbrev pub has_number : List Row → ℕ → Bool
has_number rs c = covers (map source rs) c

-- "Category c of a row goes to target low + c − low": a row gives category c the number d
abbrev pub sends : List Row → ℕ → ℕ → Bool
sends [] c d = false
sends (r ∷ rs) c d = (leb r.low c && (leb c r.high && eqb (r.target + (c - r.low)) d)) || sends rs c d

-- every category of the runs has a number
unfoldable pub numbered : List Row → List Run → Bool
numbered rs xs = all_below 65535 (λ c. not (covers xs c) || has_number rs c)

-- the test passes at some number below n
unfoldable pub any_below : ℕ → (ℕ → Bool) → Bool
any_below zero p = false
any_below (suc n) p = p n || any_below n p

-- d is the number of a category of the runs
unfoldable pub in_image : List Row → List Run → ℕ → Bool
in_image rs xs d = any_below 65535 (λ c. covers xs c && sends rs c d)
