-- `file_table::read_pairs` meets its contract.
use borrow.Author.Rules.{rules}
use mathlib.Core.Path.{◌≡◌, refl}
use lib.ListN.{length}
use Rattle.file_format.proofs.Places.{front_filled}
use Rattle.table_levels.specs.Levels.{no_pair}
use Rattle.file_table.proofs.read_pairs.Goals as goal

pub returns-clause-filled : goal.returns-clause-filled
returns-clause-filled c =
    let n : length c.fill_pairs.new.pairs ≡ c.args.count = search rules in
    front_filled 256 c.args.count no_pair c.fill_pairs.new.pairs _ n refl c.requires
