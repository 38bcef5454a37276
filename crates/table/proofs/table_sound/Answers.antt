-- `table::table_sound` meets its contract.
use Rattle.table.proofs.table_sound.Goals as goal

pub returns-then-table-le-FEW_ROWS : goal.returns-then-table-le-FEW_ROWS
returns-then-table-le-FEW_ROWS c = c.sound_in.ensures

pub returns : goal.returns
returns c = c.sound_in-2.ensures
