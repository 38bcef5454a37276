-- A level and runs held against the range from a lowest to a highest label, the runs in any list: what is answered of any runs and labels.
-- Where the runs are spaced and the labels well formed, it is that no category lies outside (`specs/Theorems.antt`).
use Rattle.std.specs.Prelude.{Bool, true, false, cond, ◌&&◌, List, [], ◌∷◌, ℕ, ◌+◌, leb, eqb, get_or}
use Rattle.label.specs.declared.Run.{Run}
use Rattle.label.specs.declared.Label.{Label}
use Rattle.label_keys.specs.declared.Look.{Look}
use Rattle.label_keys.specs.declared.Look.TheVariants.{Within, Outside, Open}
use Rattle.label.specs.Runs.{top_of, passes, subset}
use Rattle.label.specs.Label.{no_run, used, compared}

-- a label against the range, its form not looked at
unfoldable pub compared_between : Label → Label → Label → Bool
compared_between lowest highest l = compared lowest l && compared l highest

-- the runs against those of the two labels, in one pass over each two; no where a label has over 120
unfoldable pub runs_between : Label → Label → List Run → Bool
runs_between lowest highest rs =
    leb lowest.count 120 && (leb highest.count 120 && (passes (used lowest) rs && passes rs (used highest)))

-- the level and the runs lie in the range: not below the lowest label and not above the highest
unfoldable pub set_in_range : Label → Label → ℕ → List Run → Bool
set_in_range lowest highest v rs =
    leb lowest.level v && (leb v highest.level && (subset (used lowest) rs && subset rs (used highest)))

-- runs against the highest label: none lie under any; under a single run the first low and the last high decide
abbrev pub look_under : Label → List Run → Look
look_under highest [] = Within
look_under highest (r ∷ rs) =
    cond (eqb highest.count 1)
    (cond (leb (get_or highest.runs 0 no_run).low r.low && leb (top_of (r ∷ rs)) ((get_or highest.runs 0 no_run).high + 1)) Within Outside)
    Open

-- what shows without a pass over the runs: the levels, then, where the lowest label has no categories, the runs against the highest
unfoldable pub look_of : Label → Label → ℕ → List Run → Look
look_of lowest highest v rs =
    cond (leb lowest.level v && leb v highest.level)
    (cond (eqb lowest.count 0) (look_under highest rs) Open)
    Outside

-- the answer that a first look gives, or the one that is found by going through
abbrev pub answered : Look → Bool → Bool
answered Within b = true
answered Outside b = false
answered Open b = b
