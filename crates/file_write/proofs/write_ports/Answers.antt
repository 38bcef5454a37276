-- `file_write::write_ports` meets its contract.
use lib.ListN.{take}
use Rattle.std.proofs.Common.{take_all}
use Rattle.file_format.proofs.Writing.{room_added, added_none, added_turn}
use Rattle.file_set.proofs.Sets.{out_port}
use Rattle.file_write.specs.Stages.{port_octets}
use Rattle.file_write.proofs.write_ports.Goals as goal

pub loop-port-init : goal.loop-port-init
loop-port-init c = added_none

pub loop-port-preserved : goal.loop-port-preserved
unfolding port_octets
loop-port-preserved c = added_turn port_octets out_port (take c.args.n c.args.ports) c.loop-port-test.true c.loop-port.invariant (room_added c.write_port.ensures)

pub returns : goal.returns
returns c = rw (take_all c.loop-port.port-index (take c.args.n c.args.ports) c.loop-port-test.false) at c.loop-port.invariant
