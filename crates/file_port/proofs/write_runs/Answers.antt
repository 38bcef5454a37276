-- `file_port::write_runs` meets its contract.
use lib.ListN.{take}
use Rattle.std.proofs.Common.{take_all}
use Rattle.label.specs.Label.{no_run}
use Rattle.file_format.proofs.Writing.{room_added, added_none, added_then, added_turn}
use Rattle.file_port.proofs.LabelLaws.{run_octets, runs_octets}
use Rattle.file_port.proofs.write_runs.Goals as goal

pub loop-run-init : goal.loop-run-init
loop-run-init c = added_none

pub loop-run-preserved : goal.loop-run-preserved
loop-run-preserved c =
    added_turn run_octets no_run (take c.args.n c.args.label.runs) c.loop-run-test.true c.loop-run.invariant
    (added_then (room_added (rw c.from.ensures at c.two.ensures)) (room_added (rw c.from-in-loop-run.ensures at c.two-in-loop-run.ensures)))

pub returns : goal.returns
returns c =
    let xs = take c.args.n c.args.label.runs in
    rw (runs_octets c.args.n xs) (rw (take_all c.loop-run.run-index xs c.loop-run-test.false) at c.loop-run.invariant)
