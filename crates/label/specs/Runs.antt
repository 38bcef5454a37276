-- Document 01, "Labels": lists of runs, the categories that they cover, and the one form of a set.
use Rattle.std.specs.Prelude.{Bool, true, false, cond, ◌&&◌, ◌||◌, List, [], ◌∷◌, ℕ, zero, suc, ◌+◌, ◌-◌, leb, eqb}
use Rattle.label.specs.declared.Run.{Run}

abbrev pub run : ℕ → ℕ → Run
run l h = record { low = l; high = h }

-- the run covers the category: both ends are included
abbrev pub in_run : Run → ℕ → Bool
in_run r c = leb r.low c && leb c r.high

-- some run covers the category
abbrev pub covers : List Run → ℕ → Bool
covers [] c = false
covers (r ∷ rs) c = in_run r c || covers rs c

-- ascending from f on, low ≤ high ≤ 65534, each low at least 2 above the high before it
abbrev pub spaced : ℕ → List Run → Bool
spaced f [] = true
spaced f (r ∷ rs) = leb f r.low && (leb r.low r.high && (leb r.high 65534 && spaced (r.high + 2) rs))

-- every place is 0
abbrev pub unused : List Run → Bool
unused [] = true
unused (r ∷ rs) = eqb r.low 0 && (eqb r.high 0 && unused rs)

-- the test passes at every number below n
unfoldable pub all_below : ℕ → (ℕ → Bool) → Bool
all_below zero p = true
all_below (suc n) p = p n && all_below n p

-- every category of the first list, run by run, is one of the second
unfoldable pub subset : List Run → List Run → Bool
subset [] ys = true
subset (r ∷ rs) ys = all_below (r.high + 1 - r.low) (λ k. covers ys (r.low + k)) && subset rs ys

-- one pass over two lists: a run of the second that ends before the run of the first begins is dropped; else the run must lie in it.
-- It answers for any two lists; where both are spaced it is the subset test (`specs/Theorems.antt`)
abbrev pub passes : List Run → List Run → Bool
passes [] ys = true
passes (x ∷ xs) [] = false
passes (x ∷ xs) (y ∷ ys) =
    cond (leb x.low y.high)
    (leb y.low x.low && (leb x.high y.high && passes xs (y ∷ ys)))
    (passes (x ∷ xs) ys)

-- how many turns the pass takes
abbrev pub rounds : List Run → List Run → ℕ
rounds [] ys = 0
rounds (x ∷ xs) [] = 1
rounds (x ∷ xs) (y ∷ ys) =
    1 + cond (leb x.low y.high) (cond (leb y.low x.low && leb x.high y.high) (rounds xs (y ∷ ys)) 0) (rounds (x ∷ xs) ys)

-- at how many numbers below n the test passes
unfoldable pub count_below : ℕ → (ℕ → Bool) → ℕ
count_below zero p = 0
count_below (suc n) p = cond (p n) 1 0 + count_below n p

-- how many categories spaced runs have
abbrev pub count_of : List Run → ℕ
count_of [] = 0
count_of (r ∷ rs) = (r.high + 1 - r.low) + count_of rs

-- one above the highest category of spaced runs, or 0 where there is none
abbrev pub top_of : List Run → ℕ
top_of [] = 0
top_of (r ∷ []) = r.high + 1
top_of (r ∷ s ∷ rs) = top_of (s ∷ rs)

-- the categories l to h are added above all others: where they touch the last run, the two become one
abbrev pub push_run : List Run → ℕ → ℕ → List Run
push_run [] l h = run l h ∷ []
push_run (r ∷ []) l h = cond (eqb (r.high + 1) l) (run r.low h ∷ []) (r ∷ run l h ∷ [])
push_run (r ∷ s ∷ rs) l h = r ∷ push_run (s ∷ rs) l h

-- the runs of the categories below n of which the test says yes
abbrev pub set_runs : (ℕ → Bool) → ℕ → List Run
set_runs f zero = []
set_runs f (suc n) = cond (f n) (push_run (set_runs f n) n n) (set_runs f n)

-- pieces, highest first, as runs, lowest first
abbrev pub joined : List Run → List Run
joined [] = []
joined (p ∷ ps) = push_run (joined ps) p.low p.high
