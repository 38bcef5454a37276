-- `memory::push` meets its contract.
use Rattle.memory.proofs.Laws.{pushed_of}
use Rattle.memory.proofs.push.Goals as goal

pub returns : goal.returns
returns c = pushed_of c.args.memory c.args.address c.requires.0 c.requires.1
