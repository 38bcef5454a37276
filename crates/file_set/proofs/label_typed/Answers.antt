-- `file_set::label_typed` meets its contract.
use borrow.Author.Rules.{rules}
use borrow.Author.Tests.{eq-eqb}
use mathlib.Core.Path.{◌≡◌, sym}
use lib.ListN.{length}
use Rattle.label.proofs.Steps.{length_mapped}
use Rattle.file_set.proofs.label_typed.Goals as goal

sized : (c : goal.Start) → length c.args.label.runs ≡ 120
sized c = search (length_mapped, rules)

pub returns : goal.returns
returns c = sym (eq-eqb _ _ (sized c))
