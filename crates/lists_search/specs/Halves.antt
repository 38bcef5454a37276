-- A search by halves.
use Rattle.std.specs.Prelude.{Bool, cond, ℕ, zero, suc, ◌+◌, ◌-◌, ◌/◌, ltb}

-- between the places `low` and `high`, at most n times: on from the middle where the test says yes there, else before it
unfoldable pub halved : ℕ → (ℕ → Bool) → ℕ → ℕ → ℕ
halved zero past low high = low
halved (suc n) past low high =
    cond (ltb low high)
    (cond (past (low + (high - low) / 2)) (halved n past (low + (high - low) / 2 + 1) high) (halved n past low (low + (high - low) / 2)))
    low
