-- `file_write::ports_size` meets its contract.
use Prim.Native.Nat.{◌*◌, ◌≤◌}
use mathlib.Core.Path.{◌≡◌}
use lib.ListN.{length, take}
use Rattle.file_format.specs.Laws.{flat}
use Rattle.file_write.specs.Stages.{port_octets}
use Rattle.file_write.proofs.ports_size.Given as goal

abbrev pub invariant-loop-port : goal.invariant-loop-port
invariant-loop-port l = (l.size ≡ length (flat port_octets (take l.port-index l.port-items))) × (l.size ≤ l.port-index * 2985)
