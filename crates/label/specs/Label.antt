-- Document 01, "Labels": what a label is, what it says of a category, and when one is at most another.
use Rattle.std.specs.Prelude.{Bool, cond, not, ◌&&◌, List, ◌++◌, ℕ, ◌-◌, leb, eqb, length, take, drop, replicate}
use Rattle.label.specs.declared.Run.{Run}
use Rattle.label.specs.declared.Label.{Label}
use Rattle.label.specs.Runs.{run, covers, spaced, unused, subset, passes}

abbrev pub no_run : Run
no_run = run 0 0

-- the runs that the label uses: the first `count` places
abbrev pub used : Label → List Run
used l = take l.count l.runs

-- the label with these runs; the rest of its 120 places are zero
abbrev pub label_of : ℕ → ℕ → List Run → Label
label_of d v rs = record { domain = d; level = v; count = length rs; runs = rs ++ replicate (120 - length rs) no_run }

abbrev pub zero_label : Label
zero_label = record { domain = 0; level = 0; count = 0; runs = replicate 120 no_run }

-- the ready-made empty label: for domain 0 the all-zero one
abbrev pub empty_of : ℕ → ℕ → Label
empty_of d v = cond (eqb d 0) zero_label (record { domain = d; level = v; count = 0; runs = replicate 120 no_run })

-- what the types of its fields say of every label: a domain of 32 bits, a level from 0 to 255, 120 places
unfoldable pub label_typed : Label → Bool
label_typed l = leb l.domain 4294967295 && (leb l.level 255 && eqb (length l.runs) 120)

-- a domain that is not 0, at most 120 runs in the one form, unused places 0
unfoldable pub well_formed : Label → Bool
well_formed l =
    not (eqb l.domain 0)
    && (leb l.count 120 && (spaced 0 (used l) && (unused (drop l.count l.runs) && label_typed l)))

-- a label says yes exactly when some run covers the category; an ill-formed one says no
unfoldable pub member : Label → ℕ → Bool
member l c = well_formed l && covers (used l) c

-- A ≤ B of two well-formed labels: the domains are equal, the level of A is at most that of B, and A's categories are all in B
unfoldable pub at_most : Label → Label → Bool
at_most a b = eqb a.domain b.domain && (leb a.level b.level && subset (used a) (used b))

-- A ≤ B of any two labels: no where either is ill-formed
unfoldable pub leq : Label → Label → Bool
leq a b = well_formed a && (well_formed b && at_most a b)

-- in range: min ≤ label ≤ max
unfoldable pub in_range : Label → Label → Label → Bool
in_range lowest highest l = leq lowest l && leq l highest

-- every number of the label is 0
unfoldable pub is_zero : Label → Bool
is_zero l = eqb l.domain 0 && (eqb l.level 0 && (eqb l.count 0 && unused l.runs))

-- what comparing answers of any two labels, without a look at their form: no over 120 runs, else one pass over the runs of both.
-- Of well-formed labels it is A ≤ B (`specs/Theorems.antt`)
unfoldable pub compared : Label → Label → Bool
compared a b =
    eqb a.domain b.domain
    && (leb a.level b.level && (leb a.count 120 && (leb b.count 120 && passes (used a) (used b))))
