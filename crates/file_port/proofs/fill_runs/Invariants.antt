-- `file_port::fill_runs` meets its contract.
use Prim.Native.Nat.{ℕ}
use mathlib.Core.List.{List}
use lib.ListN.{length, take}
use Rattle.label.specs.declared.Run.{Run}
use Rattle.file_format.specs.Format.{Found, read_at}
use Rattle.file_format.proofs.Loops.{Passed}
use Rattle.file_port.specs.LabelFormat.{run_format, next_floor}
use Rattle.file_port.proofs.fill_runs.Given as goal

abbrev pub elements : List ℕ → ℕ → ℕ → Found Run
elements s floor at = read_at (run_format floor) s at

abbrev pub invariant-loop-run : goal.invariant-loop-run
invariant-loop-run l = Passed (elements l.octets) next_floor (length l.initial.runs) 0 l.at (take l.run-index l.runs) l.run-index l.floor l.place
