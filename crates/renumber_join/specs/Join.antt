-- Document 02, wish 11: "joining two labels (higher level, all categories of either)". House: 2 for an ill-formed label or labels of two domains,
-- then 18 over 120 runs, as renumbering alone answers.
use Rattle.std.specs.Prelude.{Bool, cond, ◌&&◌, ◌||◌, List, ℕ, max, eqb, Result, Ok, Err}
use Rattle.label.specs.declared.Run.{Run}
use Rattle.label.specs.declared.Label.{Label}
use Rattle.label.specs.Runs.{covers}
use Rattle.label.specs.Label.{used, zero_label, well_formed}
use Rattle.renumber_keys.specs.Sets.{runs_of}
use Rattle.renumber.specs.Renumber.{fitted}
use Rattle.renumber_join.specs.declared.JoinError.{JoinError}
use Rattle.renumber_join.specs.declared.JoinError.TheVariants.{Unsound, TooMany}

-- what joining answers: the label, or a refusal
abbrev pub Joined : Type 0
Joined = Result Label JoinError

abbrev pub joined_as : Label → Joined
joined_as l = Ok l

-- the numbers of the refusals
abbrev pub number_of : JoinError → ℕ
number_of Unsound = 2
number_of TooMany = 18

-- a row of what joining answers: number 0 and the label; or a refusal's number and an all-zero label
pub record JoinRow : Type 0 where
  pub number : ℕ
  pub label : Label

abbrev pub not_joined : ℕ → JoinRow
not_joined n = record { number = n; label = zero_label }

-- the row of an answer
abbrev pub row_of : Joined → JoinRow
row_of (Ok l) = record { number = 0; label = l }
row_of (Err e) = not_joined (number_of e)

-- the category is one of either label
abbrev pub either : Label → Label → ℕ → Bool
either a b c = covers (used a) c || covers (used b) c

-- all categories of either: they may have more runs than a label holds
abbrev pub either_runs : Label → Label → List Run
either_runs a b = runs_of (either a b)

-- 2 for an ill-formed label or labels of two domains; then 18 over 120 runs, else the label
unfoldable pub joined_of : Label → Label → Joined
joined_of a b =
    cond (well_formed a && (well_formed b && eqb a.domain b.domain))
    (fitted TooMany a.domain (max a.level b.level) (either_runs a b))
    (Err Unsound)
