-- Worked calls: 63 places are too few for a memory and 64 are enough, and what stands behind them stays.
use Rattle.std.specs.Prelude.{◌≡◌, [], ◌∷◌, ◌++◌, replicate}
use Rattle.memory.specs.Memory.{note_of}
use Rattle.export_memory.specs.Export.{number_by, count_by_call, addresses_by}

abbrev pub WorkedPlaces : Type 0
WorkedPlaces =
    (number_by (note_of 7) 0 (replicate 63 0) ≡ 1) × (number_by (note_of 7) 0 (replicate 64 0) ≡ 0) × (count_by_call (note_of 7) 0 (replicate 64 0) ≡ 1)
    × (addresses_by (note_of 7) 0 (replicate 64 0 ++ (9 ∷ [])) ≡ 7 ∷ (replicate 63 0 ++ (9 ∷ [])))
