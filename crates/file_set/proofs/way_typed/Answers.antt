-- `file_set::way_typed` meets its contract.
use borrow.Author.Rules.{rules}
use mathlib.Core.Path.{◌≡◌}
use lib.ListN.{length}
use Rattle.label.proofs.Steps.{length_mapped}
use Rattle.file_set.proofs.Sets.{way_all}
use Rattle.file_set.proofs.way_typed.Goals as goal

pub returns : goal.returns
returns c = let sized : length c.args.way.flags ≡ 256 = search (length_mapped, rules) in way_all c.args.way c.small.result sized c.small.ensures
