-- `file_port::write_flags` meets its contract.
use lib.ListN.{take}
use Rattle.std.proofs.Common.{take_all}
use Rattle.file_format.specs.Format.{digits}
use Rattle.file_format.proofs.Writing.{room_added, added_none, added_turn}
use Rattle.file_port.proofs.write_flags.Goals as goal

pub loop-flag-init : goal.loop-flag-init
loop-flag-init c = added_none

pub loop-flag-preserved : goal.loop-flag-preserved
loop-flag-preserved c =
    added_turn (digits 2) 0 (take c.args.n c.args.way.flags) c.loop-flag-test.true c.loop-flag.invariant (room_added (rw c.from.ensures at c.two.ensures))

pub returns : goal.returns
returns c = rw (take_all c.loop-flag.flag-index (take c.args.n c.args.way.flags) c.loop-flag-test.false) at c.loop-flag.invariant
