-- `memory::close_gap` meets its contract.
use Rattle.memory.proofs.Laws.{closed_written}
use Rattle.memory.proofs.close_gap.Goals as goal

pub returns : goal.returns
returns c =
    closed_written c.args.addresses.now c.args.kept.now c.args.at c.requires.0 c.requires.1 c.copy_list.new.dst c.copy_list-2.new.dst c.copy_list.ensures c.copy_list-2.ensures
