-- `file_set::table_fits` meets its contract.
use mathlib.Core.Path.{sym, ◌∙◌}
use Rattle.file_set.proofs.Sets.{unused_table_lem}
use Rattle.file_set.proofs.table_fits.Goals as goal

pub returns-then-used : goal.returns-then-used
returns-then-used c = let e = c.levels_of-levels.ensures in rw c.if-used.true (sym e.1)

pub returns : goal.returns
returns c =
    let e = c.levels_of-levels.ensures in
    rw c.if-used.false (c.table_zero.ensures ∙ rw e.0 (unused_table_lem c.args.renumbering e.1))
