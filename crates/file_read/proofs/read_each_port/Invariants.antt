-- `file_read::read_each_port` meets its contract.
use Prim.Native.Nat.{ℕ}
use mathlib.Core.List.{List}
use mathlib.Core.Path.{◌≡◌}
use Rattle.port.specs.declared.Port.{Port}
use Rattle.file_format.specs.Format.{Found, read_at, alike, same}
use Rattle.file_format.proofs.Places.{Held}
use Rattle.file_format.proofs.Loops.{Passed}
use Rattle.file_port.specs.PortFormat.{port_format, no_port}
use Rattle.file_read.proofs.read_each_port.Given as goal

abbrev pub elements : ℕ → List ℕ → ℕ → ℕ → Found Port
elements version s st at = read_at (alike (port_format version) st) s at

abbrev pub invariant-loop-i : goal.invariant-loop-i
invariant-loop-i l = (done : List Port) × Held 16 no_port l.i l.ports done × Passed (elements l.version l.octets) same l.count 0 l.at done l.i 0 l.place
