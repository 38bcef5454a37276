-- Carrying by search (document 01, "Records"; document 02, wish 8): what is answered of whatever rows and runs. `specs/Theorems.antt` says what it is of sound ones.
use Rattle.std.specs.Prelude.{Bool, true, false, cond, ◌&&◌, List, [], ◌∷◌, ◌++◌, ℕ, suc, ◌+◌, ◌-◌, min, leb, ltb, length, drop, get_or, Option, None, Some}
use Rattle.lists_search.specs.Halves.{halved}
use Rattle.lists_sort.specs.Order.{sort_keys}
use Rattle.label.specs.declared.Run.{Run}
use Rattle.table.specs.declared.Row.{Row}
use Rattle.table.specs.Table.{no_row}
use Rattle.renumber_keys.specs.Stages.{join_all, piece_key}

-- the category that a row ends with
abbrev pub end_of : List Row → ℕ → ℕ
end_of rs i = (get_or rs i no_row).high

-- by halves between row `from` and the last
abbrev pub halves : List Row → ℕ → ℕ → ℕ
halves rs from c = halved (length rs) (λ i. ltb (end_of rs i) c) from (length rs)

-- of rows that rise the first from `from` on that ends at c or after it: a look at the row at hand, then by halves
unfoldable pub bisect : List Row → ℕ → ℕ → ℕ
bisect rs from c = cond (ltb from (length rs) && leb c (end_of rs from)) from (halves rs from c)

-- the row gives a number to each category from a to b: it begins at a or before, and its numbers keep to the highest category
abbrev pub gives_to : Row → ℕ → ℕ → Bool
gives_to r a b = leb r.low a && (leb a b && leb (r.target + (b - r.low)) 65534)

-- a run that rows have cut: whether each of its categories lies in one of them, its pieces as keys, and how many rows end in it
pub record RunCut : Type 0 where
  pub whole : Bool
  pub keys : List ℕ
  pub passed : ℕ

abbrev pub cut_none : RunCut
cut_none = record { whole = false; keys = []; passed = 0 }

abbrev pub cut_last : ℕ → RunCut
cut_last k = record { whole = true; keys = k ∷ []; passed = 0 }

abbrev pub cut_more : ℕ → RunCut → RunCut
cut_more k c = record { whole = c.whole; keys = k ∷ c.keys; passed = suc c.passed }

-- the categories from low to high, cut at the end of each row
abbrev pub run_cut : List Row → ℕ → ℕ → RunCut
run_cut [] low high = cut_none
run_cut (r ∷ rs) low high =
    cond (gives_to r low (min high r.high))
    (cond (leb high r.high) (cut_last (piece_key r low (min high r.high))) (cut_more (piece_key r low (min high r.high)) (run_cut rs (r.high + 1) high)))
    cut_none

-- all runs: as far as each category lies in a row
pub record Cuts : Type 0 where
  pub whole : Bool
  pub keys : List ℕ

abbrev pub cuts_on : RunCut → Cuts → Cuts
cuts_on c rest = cond c.whole (record { whole = rest.whole; keys = c.keys ++ rest.keys }) (record { whole = false; keys = c.keys })

-- each run from the first row on that ends at its low or after it, which is searched for from row j on
abbrev pub cuts_from : List Row → ℕ → List Run → Cuts
cuts_from rows j [] = record { whole = true; keys = [] }
cuts_from rows j (x ∷ xs) =
    cuts_on (run_cut (drop (bisect rows j x.low) rows) x.low x.high)
    (cuts_from rows (bisect rows j x.low + (run_cut (drop (bisect rows j x.low) rows) x.low x.high).passed) xs)

-- there is a place for each run and each row: the pieces are no more
abbrev pub room_for : ℕ → ℕ → ℕ → Bool
room_for runs rows room = leb runs room && leb rows (room - runs)

-- out, with the list xs over its head
abbrev pub over : List ℕ → List ℕ → List ℕ
over xs out = xs ++ drop (length xs) out

-- how many runs the numbers have, where every category lies in a row
unfoldable pub searched_of : List Row → List Run → ℕ → Option ℕ
searched_of rows runs room =
    cond (room_for (length runs) (length rows) room && (cuts_from rows 0 runs).whole)
    (Some (length (join_all (sort_keys (cuts_from rows 0 runs).keys))))
    None

-- what the lent list holds: the pieces over its head, where they are whole in order, and over these the runs that they make
unfoldable pub searched_keys : List Row → List Run → List ℕ → List ℕ
searched_keys rows runs far =
    cond (room_for (length runs) (length rows) (length far))
    (cond (cuts_from rows 0 runs).whole
    (over (join_all (sort_keys (cuts_from rows 0 runs).keys)) (over (sort_keys (cuts_from rows 0 runs).keys) far))
    (over (cuts_from rows 0 runs).keys far))
    far
