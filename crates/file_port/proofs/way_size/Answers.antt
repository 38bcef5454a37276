-- `file_port::way_size` meets its contract.
use borrow.Author.Rules.{rules}
use native.Mathlib.Omega.{arith}
use mathlib.Core.Bool.{true}
use mathlib.Core.Path.{◌≡◌}
use lib.ListN.{length}
use Rattle.label.proofs.Steps.{length_mapped}
use Rattle.file_port.proofs.LabelLaws.{way_length}
use Rattle.file_port.proofs.way_size.Goals as goal

sized : (c : goal.After-count_used) → length c.args.way.flags ≡ 256
sized c = search (length_mapped, rules)

pub returns : goal.returns
returns c =
    let l = c.args.way in
    (omega (arith, way_length true l (sized c), c.count_used.ensures.0), omega (arith, c.count_used.ensures.1))
