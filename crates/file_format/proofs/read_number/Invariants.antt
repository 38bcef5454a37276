-- `file_format::read_number` meets its contract.
use Prim.Native.Nat.{◌<◌}
use mathlib.Core.Path.{◌≡◌}
use Rattle.file_format.specs.Format.{room, value_at}
use Rattle.file_format.proofs.read_number.Given as goal

abbrev pub invariant-loop-octet : goal.invariant-loop-octet
invariant-loop-octet l = (l.value ≡ value_at l.octets l.at l.octet-index) × (l.value < room l.octet-index)
