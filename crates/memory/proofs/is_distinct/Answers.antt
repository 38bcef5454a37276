-- `memory::is_distinct` meets its contract.
use mathlib.Core.Path.{sym, ◌∙◌}
use Rattle.memory.proofs.Laws.{distinct_step}
use Rattle.memory.proofs.is_distinct.Goals as goal

pub returns-then-contains : goal.returns-then-contains
returns-then-contains c =
    let e = distinct_step c.args.list.now c.loop-i.i c.contains.result c.loop-i-test.true c.contains.ensures.value in
    sym (c.loop-i.invariant ∙ e ∙ rw c.if-contains.true)

pub loop-i-preserved : goal.loop-i-preserved
loop-i-preserved c =
    let e = distinct_step c.args.list.now c.loop-i.i c.contains.result c.loop-i-test.true c.contains.ensures.value in
    c.loop-i.invariant ∙ e ∙ rw c.if-contains.false
