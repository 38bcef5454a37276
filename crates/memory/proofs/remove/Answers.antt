-- `memory::remove` meets its contract.
use native.Mathlib.Omega.{arith}
use Rattle.memory.proofs.Laws.{removed}
use Rattle.memory.proofs.remove.Goals as goal

pub returns : goal.returns
returns c = removed c.args.memory c.args.at c.close_gap.new.kept (omega arith) c.requires.1 c.requires.0 c.close_gap.ensures
