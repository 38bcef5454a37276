-- `file_set::table_zero` meets its contract.
use mathlib.Core.Path.{refl}
use Rattle.file_set.specs.Set.{zero_table}
use Rattle.file_set.proofs.Sets.{pairs_zero}
use Rattle.file_set.proofs.table_zero.Goals as goal

pub returns : goal.returns
unfolding zero_table
returns c = rw (c.levels_sound-places.ensures, pairs_zero c.args.levels) refl
