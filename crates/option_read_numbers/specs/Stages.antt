-- What only private functions answer: how runs are made of ascending pieces, one after the other, for tag 5 with what is remembered of the last run,
-- for tag 2 in the keys.
use Rattle.std.specs.Prelude.{ℕ, ◌+◌, ◌-◌, List, [], ◌∷◌, Bool, ◌&&◌, cond, length, get_or, set, ltb, eqb}
use Rattle.label.specs.declared.Run.{Run}
use Rattle.label.specs.Runs.{run, top_of}
use Rattle.label_keys.specs.Keys.{run_key}
use Rattle.option.specs.Index.{bottom_at}
use Rattle.option_read_numbers.specs.declared.Last.{Last}

-- the low of the last run, or 0 where there is none
abbrev pub last_low : List Run → ℕ
last_low [] = 0
last_low (r ∷ []) = r.low
last_low (r ∷ s ∷ rs) = last_low (s ∷ rs)

-- how many runs there are, the last one's low, and the category after its high
abbrev pub last_of : List Run → Last
last_of rs = record { count = length rs; low = last_low rs; next = top_of rs }

-- after the categories l to h are added: a piece that touches the last run becomes part of it
abbrev pub after_piece : Last → ℕ → ℕ → Last
after_piece x l h =
    cond (ltb 0 x.count && eqb x.next l)
    (record { count = x.count; low = x.low; next = h + 1 })
    (record { count = x.count + 1; low = l; next = h + 1 })

-- tag 2: whether a number touches the last of so many runs
abbrev pub touches_last : ℕ → ℕ → ℕ → Bool
touches_last count next x = ltb 0 count && eqb next x

-- how many keys there are after it
abbrev pub count_after : ℕ → ℕ → ℕ → ℕ
count_after count next x = cond (touches_last count next x) count (count + 1)

-- and the keys: the last one is greater by 1, or there is one more
abbrev pub keys_after_number : List ℕ → ℕ → ℕ → ℕ → List ℕ
keys_after_number keys count next x = cond (touches_last count next x) (set keys (count - 1) (get_or keys (count - 1) 0 + 1)) (set keys count (run_key (run x x)))

-- tag 5: what the top of pair j is to lie below: the bottom of the pair before it; of the first pair 65535, which is no category
abbrev pub limit_at : List ℕ → ℕ → ℕ
limit_at b j = cond (eqb j 0) 65535 (bottom_at b (j - 1))
