-- `renumber_search::cut_runs` meets its contract.
use borrow.Author.Rules.{rules}
use native.Mathlib.Omega.{arith}
use mathlib.Core.Path.{◌≡◌}
use lib.ListN.{length, get_or, length-map}
use Rattle.std.specs.Prelude.{None}
use Rattle.std.proofs.lemmas.Option.{MatchOption-at_none, MatchOption-at_some}
use Rattle.label_keys.specs.Keys.{key_run, key_runs}
use Rattle.table.specs.Table.{rows_from}
use Rattle.renumber_search.proofs.Cuts.{all_start, all_stop, all_again, run_room, run_at_hand}
use Rattle.renumber_search.proofs.cut_runs.Goals as goal

pub loop-run-init : goal.loop-run-init
loop-run-init c = all_start (rows_from c.args.rows.now) (key_runs c.args.own.now) c.args.far.now

pub cut_run-requires : goal.cut_run-requires
cut_run-requires c =
    let keys = c.args.own.now in
    let v = c.loop-run in
    let long = length-map keys key_run in
    run_room (rows_from c.args.rows.now) (key_runs keys) c.args.far.now v.w v.run-index v.j v.far v.invariant (key_run (get_or keys v.run-index 0)) (run_at_hand keys v.run-index c.loop-run-test.true)
    c.find_row-first.result c.find_row-first.ensures (omega (arith, long, c.loop-run-test.true)) (omega (arith, long, c.requires))

pub returns-in_err-cut : goal.returns-in_err-cut
returns-in_err-cut c =
    let keys = c.args.own.now in
    let v = c.loop-run in
    let long = length-map keys key_run in
    let none : c.from_residual.result ≡ None = search rules in
    rw none
    (all_stop (rows_from c.args.rows.now) (key_runs keys) c.args.far.now v.w v.run-index v.j v.far v.invariant (key_run (get_or keys v.run-index 0)) (run_at_hand keys v.run-index c.loop-run-test.true)
    c.find_row-first.result c.find_row-first.ensures (omega (arith, long, c.loop-run-test.true)) (omega (arith, long, c.requires))
    c.cut_run.new.far (MatchOption-at_none _ _ c.in_err-cut.was c.cut_run.ensures))

pub loop-run-preserved : goal.loop-run-preserved
loop-run-preserved c =
    let keys = c.args.own.now in
    let v = c.loop-run in
    let long = length-map keys key_run in
    let cut = c.in_ok-cut.cut in
    let n : length c.cut_run.new.far ≡ length v.far = search rules in
    all_again (rows_from c.args.rows.now) (key_runs keys) c.args.far.now v.w v.run-index v.j v.far v.invariant (key_run (get_or keys v.run-index 0)) (run_at_hand keys v.run-index c.loop-run-test.true)
    c.find_row-first.result c.find_row-first.ensures (omega (arith, long, c.loop-run-test.true)) (omega (arith, long, c.requires))
    c.cut_run.new.far cut.row cut.count (MatchOption-at_some _ _ _ c.in_ok-cut.was c.cut_run.ensures) n
