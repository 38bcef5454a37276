-- Labels and permitted spellings as Rust and C hand them over, in numbers, and what is answered of option 130 as numbers.
use Rattle.std.specs.Prelude.{ℕ, Bool, List, Result}
use Rattle.basic.specs.declared.BasicReading.{BasicReading}
use Rattle.basic.specs.declared.BasicError.{BasicError}
use Rattle.basic.specs.Alone.{BasicRead, reading_row, writing_row}
use Rattle.label.specs.declared.Label.{Label}
use Rattle.label_keys.specs.Keys.{key_runs, label_from}
use Rattle.option.specs.declared.Spellings.{Spellings}

-- the label of a domain, a level and runs as keys: with over 120 runs the all-zero one, which is ill-formed
abbrev pub label_by : ℕ → ℕ → List ℕ → Label
label_by domain level runs = label_from domain level (key_runs runs)

abbrev pub spellings_by : Bool → Bool → Bool → Bool → Spellings
spellings_by shortest ten numbers pairs = record { shortest = shortest; ten = ten; numbers = numbers; pairs = pairs }

-- what reading option 130 answers: the number of its row, and its level and flags
abbrev pub read_number : BasicRead → ℕ
read_number x = (reading_row x).number

abbrev pub reading_in : BasicRead → BasicReading
reading_in x = record { level = (reading_row x).level; flags = (reading_row x).flags }

-- and writing it: the number of its row, and its count
abbrev pub write_number : Result ℕ BasicError → ℕ
write_number x = (writing_row x).number

abbrev pub count_in : Result ℕ BasicError → ℕ
count_in x = (writing_row x).count
