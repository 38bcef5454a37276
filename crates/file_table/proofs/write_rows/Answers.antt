-- `file_table::write_rows` meets its contract.
use Rattle.std.proofs.Common.{take_all}
use Rattle.file_format.specs.Format.{digits}
use Rattle.file_format.proofs.Writing.{room_added, added_none, added_turn}
use Rattle.file_table.proofs.write_rows.Goals as goal

pub loop-number-init : goal.loop-number-init
loop-number-init c = added_none

pub loop-number-preserved : goal.loop-number-preserved
loop-number-preserved c =
    added_turn (digits 2) 0 c.args.rows.now c.loop-number-test.true c.loop-number.invariant (room_added (rw c.from.ensures at c.two.ensures))

pub returns : goal.returns
returns c = rw (take_all c.loop-number.number-index c.args.rows.now c.loop-number-test.false) at c.loop-number.invariant
