-- Document 01, "Records", and the number 16 of "The order of checks": a level and the runs of a label carried to the far domain, held as numbers in
-- lent lists. The range of the far domain and the table's own domains are the caller's to look at.
use Rattle.std.specs.Prelude.{Bool, cond, ◌&&◌, List, ◌++◌, map, ℕ, ◌+◌, leb, length, take, drop, Result, Ok, Err}
use Rattle.label.specs.declared.Run.{Run}
use Rattle.label.specs.Runs.{spaced}
use Rattle.label_keys.specs.Keys.{run_key}
use Rattle.table.specs.Table.{Lent, used_rows, table_sound}
use Rattle.table_levels.specs.Levels.{Partner, partner_of, known, level_or0}
use Rattle.table.specs.Numbers.{numbered, in_image}
use Rattle.renumber_keys.specs.declared.Carried.{Carried}
use Rattle.renumber_keys.specs.declared.CarryError.{CarryError}
use Rattle.renumber_keys.specs.declared.CarryError.TheVariants.{Unsound, NoNumber}
use Rattle.renumber_keys.specs.Sets.{runs_of}

-- the numbers of the runs' categories, the whole set: it may have more runs than a label holds
abbrev pub image_of : Lent → List Run → List Run
image_of t rs = runs_of (in_image (used_rows t) rs)

-- the runs of a well-formed label: no more than it holds, and spaced
unfoldable pub label_runs : List Run → Bool
label_runs rs = leb (length rs) 120 && spaced 0 rs

-- what carrying answers: the level's partner and how many runs, or why there are none
abbrev pub CarryAnswer : Type 0
CarryAnswer = Result Carried CarryError

abbrev pub carried_as : ℕ → ℕ → CarryAnswer
carried_as v n = Ok (record { level = v; count = n })

-- 16 where the level has no partner or a category has no number, else the partner, and how many runs the numbers have
unfoldable pub carried_to : Partner → Bool → List Run → CarryAnswer
carried_to p whole image = cond (known p && whole) (carried_as (level_or0 p) (length image)) (Err NoNumber)

-- the list with the numbers' runs at its head, or as it was on a refusal
unfoldable pub carried_keys : CarryAnswer → List Run → List ℕ → List ℕ
carried_keys (Ok c) image far = map run_key image ++ drop (length image) far
carried_keys (Err e) image far = far

-- the number of a refusal
abbrev pub number_of : CarryError → ℕ
number_of Unsound = 2
number_of NoNumber = 16

-- an answer as a row: a refusal has its number, and level and count 0
pub record CarryRow : Type 0 where
  pub number : ℕ
  pub level : ℕ
  pub count : ℕ

abbrev pub not_carried : ℕ → CarryRow
not_carried n = record { number = n; level = 0; count = 0 }

abbrev pub row_of : CarryAnswer → CarryRow
row_of (Ok c) = record { number = 0; level = c.level; count = c.count }
row_of (Err e) = not_carried (number_of e)

-- 2 for an unsound table, runs that no well-formed label has, or a list of under 120 places and one for each row: 120 runs cut by the rows fill no more; then 16
unfoldable pub carry_of : List Run → ℕ → Lent → List (List ℕ) → ℕ → CarryAnswer
carry_of rs v t ls room =
    cond (table_sound t ls && (label_runs rs && leb (120 + t.count) room))
    (carried_to (partner_of (take t.pairs ls) v) (numbered (used_rows t) rs) (image_of t rs))
    (Err Unsound)
