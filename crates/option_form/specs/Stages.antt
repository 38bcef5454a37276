-- What the private functions answer. Nothing here is said by a public contract.
use Rattle.std.specs.Prelude.{ℕ, cond, leb}

-- a count of categories, or 16 where it is over 15
abbrev pub capped : ℕ → ℕ
capped n = cond (leb n 15) n 16
