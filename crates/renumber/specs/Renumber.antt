-- Document 01, "Labels" ("Asked alone"), "Records", and the numbers 16, 17 and 18 of "The order of checks": a label carried to the far domain.
use Rattle.std.specs.Prelude.{Bool, cond, ◌&&◌, List, ℕ, leb, eqb, length, take, Option, None, Some, Result, Ok, Err}
use Rattle.std.specs.Option.{ok_or}
use Rattle.label.specs.declared.Run.{Run}
use Rattle.label.specs.declared.Label.{Label}
use Rattle.label.specs.Label.{used, label_of, zero_label, well_formed}
use Rattle.label_keys.specs.Range.{set_in_range}
use Rattle.table.specs.Table.{Lent, used_rows, table_sound}
use Rattle.table_levels.specs.Levels.{Partner, partner_of}
use Rattle.table.specs.Numbers.{numbered}
use Rattle.renumber_keys.specs.Carry.{image_of}
use Rattle.renumber_keys.specs.declared.CarryError.{CarryError}
use Rattle.renumber_keys.specs.declared.CarryError.TheVariants as carrying
use Rattle.renumber.specs.declared.RenumberError.{RenumberError}
use Rattle.renumber.specs.declared.RenumberError.TheVariants.{Unsound, NoNumber, TooMany}

-- what renumbering answers: the label, or a refusal
abbrev pub Renumbered : Type 0
Renumbered = Result Label RenumberError

abbrev pub renumbered_as : {E : Type 0} → Label → Result Label E
renumbered_as l = Ok l

-- the numbers of the refusals in "The order of checks"
abbrev pub number_of : RenumberError → ℕ
number_of Unsound = 2
number_of NoNumber = 16
number_of TooMany = 18

-- a row of what renumbering answers: number 0 and the label; or a refusal's number and an all-zero label
pub record RenumberRow : Type 0 where
  pub number : ℕ
  pub label : Label

abbrev pub not_renumbered : ℕ → RenumberRow
not_renumbered n = record { number = n; label = zero_label }

-- the row of an answer
abbrev pub row_of : Renumbered → RenumberRow
row_of (Ok l) = record { number = 0; label = l }
row_of (Err e) = not_renumbered (number_of e)

-- what carrying refuses, renumbering does
abbrev pub error_of : CarryError → RenumberError
error_of carrying.Unsound = Unsound
error_of carrying.NoNumber = NoNumber

-- the numbers of a label's categories, the whole set
abbrev pub image_runs : Label → Lent → List Run
image_runs l t = image_of t (used l)

-- at most 120 runs make a label of the domain and level
abbrev pub fit_of : ℕ → ℕ → List Run → Option Label
fit_of d v rs = cond (leb (length rs) 120) (Some (label_of d v rs)) None

-- `e`, 18, over 120 runs, else the label of the far domain and level
abbrev pub fitted : {E : Type 0} → E → ℕ → ℕ → List Run → Result Label E
fitted e d v rs = ok_or (fit_of d v rs) e

-- `e`, 16, where the level has no partner or a category has no number, else the answer for the level's partner
abbrev pub when_numbered : {E : Type 0} → E → Partner → Bool → (ℕ → Result Label E) → Result Label E
when_numbered e None all answer = Err e
when_numbered e (Some v) all answer = cond all (answer v) (Err e)

-- renumbering asked alone: 2 for an unsound table or an ill-formed label, then 16 (also for a foreign domain), then 18
unfoldable pub renumbered_of : Label → Lent → List (List ℕ) → Renumbered
renumbered_of l t ls =
    cond (table_sound t ls && well_formed l)
    (cond (eqb l.domain t.from)
    (when_numbered NoNumber (partner_of (take t.pairs ls) l.level) (numbered (used_rows t) (used l)) (λ v. fitted TooMany t.to v (image_runs l t)))
    (Err NoNumber))
    (Err Unsound)

-- forward's renumbering of a well-formed label by a sound table from its domain, toward a range of the far domain: 16, then 17, then 18.
-- "An over-large renumbered set is 18 unless 17 applies": the whole set is held against the range
unfoldable pub carried_of : Label → Lent → List (List ℕ) → Label → Label → Result Label ℕ
carried_of l t ls lowest highest =
    when_numbered 16 (partner_of (take t.pairs ls) l.level) (numbered (used_rows t) (used l))
    (λ v. cond (set_in_range lowest highest v (image_runs l t)) (fitted 18 t.to v (image_runs l t)) (Err 17))
