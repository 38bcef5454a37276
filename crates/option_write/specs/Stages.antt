-- What the private functions answer, in the terms of crate `option`: a tag with its size, and the octets before the categories.
-- Nothing here is said by a public contract.
use Rattle.std.specs.Prelude.{ℕ, ◌+◌, ◌/◌, ◌%◌, ◌≤◌, ◌≡◌, ◌⊎◌, List, [], ◌∷◌, length}
use Rattle.label.specs.declared.Run.{Run}
use Rattle.option.specs.Spelling.{body_for}

-- a tag and a size that the categories are written in: at most 30 octets, and tags 2 and 5 have the octets that they need
pub record Written (t n : ℕ) (rs : List Run) : Type 0 where
  pub short : n ≤ 30
  pub sized : length (body_for t n rs) ≡ n
  pub known : (t ≡ 1) ⊎ (t ≡ 2) ⊎ (t ≡ 5)

-- the ten octets before n octets of categories
abbrev pub head_of : ℕ → ℕ → ℕ → ℕ → List ℕ
head_of d v t n = 134 ∷ (10 + n) ∷ d / 256 / 256 / 256 ∷ d / 256 / 256 % 256 ∷ d / 256 % 256 ∷ d % 256 ∷ t ∷ (4 + n) ∷ 0 ∷ v ∷ []
