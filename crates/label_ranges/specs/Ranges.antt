-- Document 01, "Labels" ("each low at least 2 above the previous high"): two ranges, each as one key, that are one run.
use Rattle.std.specs.Prelude.{Bool, cond, ℕ, ◌+◌, ◌-◌, ◌/◌, ◌%◌, leb, ltb}

-- the range begins within the one before it, or with the category after its last
abbrev pub reached : ℕ → ℕ → Bool
reached k x = leb (x / 65536) (k % 65536 + 1)

-- the key's range goes on to the end of the other, where that is higher
abbrev pub stretched : ℕ → ℕ → ℕ
stretched k x = cond (ltb (k % 65536) (x % 65536)) (k - k % 65536 + x % 65536) k
