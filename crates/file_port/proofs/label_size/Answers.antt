-- `file_port::label_size` meets its contract.
use borrow.Author.Rules.{rules}
use native.Mathlib.Omega.{arith}
use mathlib.Core.Path.{◌≡◌}
use lib.ListN.{length}
use Rattle.label.proofs.Steps.{length_mapped}
use Rattle.file_port.proofs.LabelLaws.{label_length}
use Rattle.file_port.proofs.label_size.Goals as goal

sized : (c : goal.After-count_used) → length c.args.label.runs ≡ 120
sized c = search (length_mapped, rules)

pub returns : goal.returns
returns c =
    let l = c.args.label in
    (omega (arith, label_length l.domain l (sized c), c.count_used.ensures.0), omega (arith, c.count_used.ensures.1))
