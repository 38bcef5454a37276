-- `file_port::write_flags` meets its contract.
use lib.ListN.{take}
use Rattle.file_format.specs.Format.{digits, Added}
use Rattle.file_format.specs.Laws.{flat}
use Rattle.file_port.proofs.write_flags.Given as goal

abbrev pub invariant-loop-flag : goal.invariant-loop-flag
invariant-loop-flag l = Added l.initial.out (flat (digits 2) (take l.flag-index l.flag-items)) l.out
