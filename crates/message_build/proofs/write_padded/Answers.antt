-- `message_build::write_padded` meets its contract.
use Rattle.message_build.proofs.Laws.{padded_written}
use Rattle.message_build.proofs.write_padded.Goals as goal

pub returns : goal.returns
returns c =
    padded_written c.args.option.now c.args.out.now c.copy_list.new.dst c.fill.new.self c.args.size c.requires.0 c.requires.1 c.copy_list.ensures (c.fill.ensures.after (λ y e. e))
