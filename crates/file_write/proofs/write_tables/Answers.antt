-- `file_write::write_tables` meets its contract.
use native.Mathlib.Omega.{arith}
use mathlib.Core.Path.{ap}
use lib.ListN.{take, drop}
use Rattle.file_format.specs.Laws.{flat}
use Rattle.file_write.specs.Stages.{table_octets}
use Rattle.file_format.proofs.Writing.{room_added}
use Rattle.file_write.proofs.Sizes.{goes_begins, goes_turn, goes_ends, none_left}
use Rattle.file_write.proofs.write_tables.Goals as goal

pub loop-renumbering-init : goal.loop-renumbering-init
loop-renumbering-init c = (omega arith, goes_begins)

pub end_of-end-requires : goal.end_of-end-requires
end_of-end-requires c = c.loop-renumbering.invariant.0

pub loop-renumbering-preserved : goal.loop-renumbering-preserved
unfolding table_octets
loop-renumbering-preserved c =
    let l = c.loop-renumbering in
    let e = c.end_of-end in
    (e.ensures.1, goes_turn (take c.args.n c.args.tables) l.renumbering-index c.args.rows.now l.from e.result c.loop-renumbering-test.true l.invariant.0 e.ensures.2 l.invariant.1 (room_added c.write_table.ensures))

pub returns : goal.returns
returns c =
    let l = c.loop-renumbering in
    goes_ends l.invariant.1 (ap (flat table_octets) (none_left (take c.args.n c.args.tables) l.renumbering-index (drop l.from c.args.rows.now) c.loop-renumbering-test.false))
