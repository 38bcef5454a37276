-- Document 01, "Records": "each row has low ≤ high, sources are ascending and disjoint, targets are disjoint, all ends ≤ 65534", of one row.
use Rattle.std.specs.Prelude.{Bool, ◌&&◌, ℕ, ◌+◌, ◌-◌, leb}

-- a row whose source begins at `f` or above; both its ends and its target's keep to the highest category
abbrev pub row_rises : ℕ → ℕ → ℕ → ℕ → Bool
row_rises f low high target = leb f low && (leb low high && (leb high 65534 && leb (target + (high - low)) 65534))
