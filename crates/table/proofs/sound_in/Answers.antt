-- `table::sound_in` meets its contract.
use mathlib.Core.Path.{◌∙◌}
use lib.ListN.{length-replicate}
use Rattle.table.specs.Table.{lent}
use Rattle.table.proofs.Order.{sound_room}
use Rattle.table.proofs.sound_in.Goals as goal

pub returns : goal.returns
returns g c =
    (rw length-replicate at c.table_order.ensures.0) ∙ sound_room (lent c.args.table c.args.rows.now) c.args.levels g.row.PLACES c.requires.0
