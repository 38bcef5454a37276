-- `renumber_search::halve_rows` meets its contract.
use Prim.Native.Nat.{ℕ, ◌-◌}
use mathlib.Core.Bool.{Bool}
use mathlib.Core.List.{List}
use lib.Dec.{ltb}
use lib.ListN.{length}
use Rattle.table.specs.Table.{rows_from}
use Rattle.renumber_search.specs.Search.{end_of, halves}
use Rattle.lists_search.proofs.Halves.{Halving}
use Rattle.renumber_search.proofs.halve_rows.Given as goal

-- the row ends before the category
abbrev pub past : List ℕ → ℕ → ℕ → Bool
past rows c i = ltb (end_of (rows_from rows) i) c

abbrev pub invariant-loop-low : goal.invariant-loop-low
invariant-loop-low l = Halving (past l.rows l.c) (halves (rows_from l.rows) l.from l.c) (length (rows_from l.rows)) l.low l.high

abbrev pub decreases-loop-low : goal.decreases-loop-low
decreases-loop-low l = l.high - l.low
