-- What the private functions answer. Nothing here is said by a public contract.
use Rattle.std.specs.Prelude.{ℕ, cond, eqb}
use Rattle.option_spell.specs.Spelling.{Spelling}

-- what spelling says of the length of an option, or of 0 where there is none
abbrev pub answer_of : ℕ → Spelling
answer_of n = cond (eqb n 0) (record { number = 18; count = 0 }) (record { number = 0; count = n })
