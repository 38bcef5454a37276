-- `forward_batch::forward_one` meets its contract.
use Rattle.table.specs.Table.{lent}
use Rattle.forward_batch.proofs.Slots.{one}
use Rattle.forward_batch.proofs.forward_one.Goals as goal

pub returns : goal.returns
returns c = (
  one
      (record { arriving = c.args.arriving; leaving = c.args.leaving; table = lent c.args.table c.args.rows.now; levels = c.args.levels })
      c.args.datagram.now
      c.args.slot.now
      c.read_facts-facts.result
      c.capped-end.result
      c.forward-d.result
      c.forward-d.new.out
      _
      c.requires.0
      c.requires.1
      c.read_facts-facts.ensures
      c.capped-end.ensures.2
      c.capped-end.ensures.3
      c.forward-d.ensures.value
      c.forward-d.ensures.out_after
      c.put_head.ensures.0,
  c.put_head.ensures.1,
)
