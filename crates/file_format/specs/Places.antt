-- The house file: a list in the first places of an array, and what its other places hold.
use Rattle.std.specs.Prelude.{Bool, true, ◌&&◌, List, [], ◌∷◌, ◌++◌, ℕ, zero, suc, ◌-◌, ◌≤◌, ◌≡◌, length, take, replicate}

-- the list, and the empty record in the rest of n places
abbrev pub padded : {A : Type 0} → ℕ → A → List A → List A
padded n d xs = xs ++ replicate (n - length xs) d

-- the first n places pass one test, the others the other
abbrev pub places_fit : {A : Type 0} → (used unused : A → Bool) → ℕ → List A → Bool
places_fit used unused n [] = true
places_fit used unused zero (a ∷ as') = unused a && places_fit used unused zero as'
places_fit used unused (suc n) (a ∷ as') = used a && places_fit used unused n as'

-- the first `count` of n places are in use, the others are empty
pub record Filled {A : Type 0} (n : ℕ) (d : A) (count : ℕ) (l : List A) : Type 0 where
  pub places : padded n d (take count l) ≡ l
  pub size : length (take count l) ≡ count
  pub limit : count ≤ n
