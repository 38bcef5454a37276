-- `label_keys::write_keys` meets its contract.
use Rattle.std.proofs.Common.{arith}
use Rattle.std.proofs.lemmas.List.{length-take}
use Rattle.label.specs.Label.{no_run}
use Rattle.label_keys.specs.Keys.{run_key}
use Rattle.label_keys.proofs.Keys.{keys_next}
use Rattle.label_keys.proofs.write_keys.Goals as goal

pub loop-i-preserved : goal.loop-i-preserved
loop-i-preserved c =
    let l = c.args.label in
    rw (c.from.ensures, c.loop-i.invariant)
    (keys_next run_key _ _ c.loop-i.i no_run c.loop-i-test.true (omega (arith, c.loop-i-test.true, length-take l.count l.runs)))
