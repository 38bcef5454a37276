-- Document 02, Wish 13, for Rust and C: a memory in a lent count and a lent list of at least 64 places; with fewer the answer is 1 and nothing changes (house).
use Rattle.std.specs.Prelude.{ℕ, Bool, false, cond, List, ◌++◌, ltb, length, take, drop}
use Rattle.memory.specs.declared.Memory.{Memory}
use Rattle.memory.specs.declared.Recall.{Recall}

-- the memory in the first 64 places
abbrev pub memory_in : ℕ → List ℕ → Memory
memory_in n xs = record { count = n; addresses = take 64 xs }

-- what a call on it answers: number, whether the address was in it
unfoldable pub number_by : (Memory → Recall) → ℕ → List ℕ → ℕ
number_by call n xs = cond (ltb (length xs) 64) 1 (call (memory_in n xs)).number

unfoldable pub known_by : (Memory → Recall) → ℕ → List ℕ → Bool
known_by call n xs = cond (ltb (length xs) 64) false (call (memory_in n xs)).known

-- and what it leaves: count, addresses; the places from 64 on stay as they were
unfoldable pub count_by_call : (Memory → Recall) → ℕ → List ℕ → ℕ
count_by_call call n xs = cond (ltb (length xs) 64) n (call (memory_in n xs)).memory.count

unfoldable pub addresses_by : (Memory → Recall) → ℕ → List ℕ → List ℕ
addresses_by call n xs = cond (ltb (length xs) 64) xs ((call (memory_in n xs)).memory.addresses ++ drop 64 xs)
