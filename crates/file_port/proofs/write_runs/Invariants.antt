-- `file_port::write_runs` meets its contract.
use lib.ListN.{take}
use Rattle.file_format.specs.Format.{Added}
use Rattle.file_format.specs.Laws.{flat}
use Rattle.file_port.proofs.LabelLaws.{run_octets}
use Rattle.file_port.proofs.write_runs.Given as goal

abbrev pub invariant-loop-run : goal.invariant-loop-run
invariant-loop-run l = Added l.initial.out (flat run_octets (take l.run-index l.run-items)) l.out
