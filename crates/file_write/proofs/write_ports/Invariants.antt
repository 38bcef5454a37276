-- `file_write::write_ports` meets its contract.
use lib.ListN.{take}
use Rattle.file_format.specs.Format.{Added}
use Rattle.file_format.specs.Laws.{flat}
use Rattle.file_write.specs.Stages.{port_octets}
use Rattle.file_write.proofs.write_ports.Given as goal

abbrev pub invariant-loop-port : goal.invariant-loop-port
invariant-loop-port l = Added l.initial.out (flat port_octets (take l.port-index l.port-items)) l.out
