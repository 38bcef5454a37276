-- The worked calls of specs/Theorems.antt, computed.
use mathlib.Core.Path.{refl}
use Rattle.memory.specs.Memory.{stands, note_of}
use Rattle.export_memory.specs.Export.{number_by, count_by_call, addresses_by}
use Rattle.export_memory.specs.Theorems.{WorkedPlaces}

pub worked : WorkedPlaces
unfolding stands note_of number_by count_by_call addresses_by
worked = (refl, refl, refl, refl)
