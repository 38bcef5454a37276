-- Wish 3; RFC 1108, 2.3 and table 1: what is proved of the four levels.
use Rattle.std.specs.Prelude.{ℕ, ◌≤◌, ◌<◌, ◌≡◌, true, ◌↔◌, length}
use Rattle.basic.specs.Levels.{levels, is_level, rank_of, bits_apart, table_rule}

-- the table of levels
pub record FourLevels : Type 0 where
  -- its rule, computed over the whole table
  pub rule : table_rule 0 levels ≡ true
  pub four : length levels ≡ 4
  -- an octet is a level exactly when it has a rank of 0 to 3
  pub ranked : (x : ℕ) → is_level x ≡ true ↔ (rank_of x < 4)
  -- two levels of one rank are one octet, and two that are not differ in at least four bits
  pub told : (x y : ℕ) → is_level x ≡ true → is_level y ≡ true → rank_of x ≡ rank_of y → x ≡ y
  pub apart : (x y : ℕ) → is_level x ≡ true → is_level y ≡ true → (x ≡ y → ⊥) → 4 ≤ bits_apart 8 x y
