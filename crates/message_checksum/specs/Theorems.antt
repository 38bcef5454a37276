-- RFC 1071: what is proved of the checksum.
use Rattle.std.specs.Prelude.{ℕ, ◌<◌, ◌/◌, ◌%◌, ◌≡◌, List, ◌∷◌}
use Rattle.option.specs.Option.{Octets}
use Rattle.message_checksum.specs.Checksum.{ones_sum, checksum_of}

-- octets with a checksum in their second word
abbrev pub with_check : ℕ → ℕ → ℕ → List ℕ → List ℕ
with_check a b check rest = a ∷ b ∷ check / 256 ∷ check % 256 ∷ rest

-- with the checksum in its field the sum over all octets is all ones
abbrev pub SumsToOnes : Type 0
SumsToOnes =
    (a b : ℕ) (rest : List ℕ) → a < 256 → b < 256 → Octets rest
    → ones_sum (with_check a b (checksum_of (with_check a b 0 rest)) rest) ≡ 65535
