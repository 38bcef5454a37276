-- What a search by halves finds.
use Rattle.std.specs.Prelude.{Bool, true, false, ◌≡◌, ℕ, ◌-◌, ◌≤◌, ◌<◌}
use Rattle.lists_search.specs.Halves.{halved}

-- the test says yes at every place before r, and no at r
pub record Parts (past : ℕ → Bool) (low high r : ℕ) : Type 0 where
  pub onward : low ≤ r
  pub inside : low ≤ high → r ≤ high
  pub before : (j : ℕ) → low ≤ j → j < r → past j ≡ true
  pub there : r < high → past r ≡ false

-- the test says yes up to some place and no from there on
abbrev pub Once : (ℕ → Bool) → ℕ → Type 0
Once past high = (i j : ℕ) → i ≤ j → j < high → past j ≡ true → past i ≡ true

pub record Searches : Type 0 where
  -- of any test: a place between the two
  pub between : (n : ℕ) (past : ℕ → Bool) (low high : ℕ) → low ≤ high → (low ≤ halved n past low high) × (halved n past low high ≤ high)
  -- of a test that changes once: that place, if there are turns enough, and no other is so
  pub parts : (n : ℕ) (past : ℕ → Bool) (low high : ℕ) → Once past high → high - low ≤ n → Parts past low high (halved n past low high)
  pub only : (past : ℕ → Bool) (low high r s : ℕ) → low ≤ high → Parts past low high r → Parts past low high s → r ≡ s
