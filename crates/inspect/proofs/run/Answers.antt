-- `inspect::run` meets its contract.
use Rattle.inspect.proofs.Laws.{begun}
use Rattle.inspect.proofs.run.Goals as goal

pub loop-init : goal.loop-init
loop-init c = begun _ _ c.begin.ensures

pub turn-last-requires-clause-window_value : goal.turn-last-requires-clause-window_value
turn-last-requires-clause-window_value c = rw c.in-Continue.is at c.loop.invariant

pub loop-preserved : goal.loop-preserved
loop-preserved c = c.turn-last.ensures.partial
