-- Worked sums, in one table: octets, and their one's complement sum. The first is RFC 1071's own (section 3).
use Rattle.std.specs.Prelude.{ℕ, ◌≡◌, List, [], ◌∷◌, map}
use Rattle.message_checksum.specs.Checksum.{ones_sum}

pub record Example : Type 0 where
  pub octets : List ℕ
  pub sum : ℕ

abbrev pub sums : List ℕ → ℕ → Example
sums octets sum = record { octets = octets; sum = sum }

abbrev pub examples : List Example
examples =
    sums (0 ∷ 1 ∷ 242 ∷ 3 ∷ 244 ∷ 245 ∷ 246 ∷ 247 ∷ []) 56818
    -- none; an odd octet is padded behind; a carry comes back in, so that all ones stay all ones
    ∷ sums [] 0
    ∷ sums (18 ∷ 52 ∷ 86 ∷ []) 26676
    ∷ sums (255 ∷ 255 ∷ 0 ∷ 1 ∷ []) 1
    ∷ sums (255 ∷ 255 ∷ 255 ∷ 255 ∷ []) 65535
    ∷ []

abbrev pub WorkedSums : Type 0
WorkedSums = map (λ (e : Example). ones_sum e.octets) examples ≡ map (λ (e : Example). e.sum) examples
