-- `label_keys::to_label` meets its contract.
use native.Mathlib.Omega.{arith}
use mathlib.Core.Path.{◌∙◌}
use lib.ListN.{length-take}
use Rattle.label_keys.proofs.Keys.{label_over, label_fits}
use Rattle.label_keys.proofs.to_label.Goals as goal
use Rattle.label_keys.proofs.to_label.Goals.{then-count-gt-MAX_RUNS, else-count-gt-MAX_RUNS}

pub fill_label-requires : goal.fill_label-requires
fill_label-requires c =
    let k = length-take c.if-count-gt-MAX_RUNS.count c.args.keys.now in
    elim c.if-count-gt-MAX_RUNS.branch [ then-count-gt-MAX_RUNS w ↦ omega (arith, k) | else-count-gt-MAX_RUNS w ↦ omega (arith, k) ]

pub returns : goal.returns
returns c =
    let a = c.args in
    elim c.if-count-gt-MAX_RUNS.branch [
      | then-count-gt-MAX_RUNS w ↦ rw (w.count-is, w.owner-is, w.rank-is) at c.fill_label.ensures
          ∙ label_over a.domain a.level a.keys.now a.n c.min-count.result c.min-count.ensures w.if-count-gt-MAX_RUNS.true
      | else-count-gt-MAX_RUNS w ↦ rw (w.count-is, w.owner-is, w.rank-is) at c.fill_label.ensures
          ∙ label_fits a.domain a.level a.keys.now a.n c.min-count.result c.min-count.ensures w.if-count-gt-MAX_RUNS.false
    ]
