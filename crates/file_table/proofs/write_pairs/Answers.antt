-- `file_table::write_pairs` meets its contract.
use lib.ListN.{take}
use Rattle.std.proofs.Common.{take_all}
use Rattle.table.proofs.Renumberings.{out_pair}
use Rattle.file_format.proofs.Writing.{room_added, added_none, added_then, added_turn}
use Rattle.file_table.specs.Stages.{pair_octets}
use Rattle.file_table.proofs.write_pairs.Goals as goal

pub loop-pair-init : goal.loop-pair-init
loop-pair-init c = added_none

pub loop-pair-preserved : goal.loop-pair-preserved
loop-pair-preserved c =
    added_turn pair_octets out_pair (take c.args.n c.args.renumbering.levels) c.loop-pair-test.true c.loop-pair.invariant
    (added_then (room_added (rw c.from.ensures at c.octet.ensures)) (room_added (rw c.from-in-loop-pair.ensures at c.octet-in-loop-pair.ensures)))

pub returns : goal.returns
returns c = rw (take_all c.loop-pair.pair-index (take c.args.n c.args.renumbering.levels) c.loop-pair-test.false) at c.loop-pair.invariant
