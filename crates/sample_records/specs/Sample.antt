-- Document 01, "The sample program": its two ports, its table and its level pairs.
use Rattle.std.specs.Prelude.{true, List, [], ◌∷◌, ℕ, replicate}
use Rattle.label.specs.Runs.{run}
use Rattle.label.specs.Label.{label_of, zero_label}
use Rattle.port.specs.declared.Port.{Port}
use Rattle.port.specs.Port.{plain_port}
use Rattle.table.specs.declared.Table.{Table}
use Rattle.table.specs.Table.{Lent, lent}

-- "both ports require labels. Arriving: domain 5, level 1 with no categories to level 5 with 0..300. Leaving: domain 9, level 0 with none to
-- level 255 with all."
abbrev pub arriving : Port
arriving = plain_port 5 (label_of 5 1 []) (label_of 5 5 (run 0 300 ∷ [])) true zero_label

abbrev pub leaving : Port
leaving = plain_port 9 (label_of 9 0 []) (label_of 9 255 (run 0 65534 ∷ [])) true zero_label

-- "Table: levels 1→2, 3→4, 5→6; rows 0..99→1000, 100..300→0."
abbrev pub head : Table
head = record { from = 5; to = 9; pairs = 3; count = 2 }

-- its rows as they are lent: low, high and target of each
abbrev pub rows : List ℕ
rows = 0 ∷ 99 ∷ 1000 ∷ 100 ∷ 300 ∷ 0 ∷ []

abbrev pub table : Lent
table = lent head rows

abbrev pub levels : List (List ℕ)
levels = (1 ∷ 2 ∷ []) ∷ (3 ∷ 4 ∷ []) ∷ (5 ∷ 6 ∷ []) ∷ replicate 253 (0 ∷ 0 ∷ [])
