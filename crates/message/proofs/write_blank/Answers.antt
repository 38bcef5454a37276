-- `message::write_blank` meets its contract.
use Rattle.message.proofs.Laws.{blank_written}
use Rattle.message.proofs.write_blank.Goals as goal

pub returns : goal.returns
returns c =
    blank_written c.args.kind c.args.code c.args.pointer c.args.header.now c.args.payload.now c.args.out.now c.requires
    c.copy_list.new.dst c.copy_list-2.new.dst c.copy_list-3.new.dst c.copy_list.ensures c.copy_list-2.ensures c.copy_list-3.ensures
