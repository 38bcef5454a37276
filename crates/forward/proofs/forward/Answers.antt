-- `forward::forward` meets its contract.
use borrow.Author.Tests.{leb-true}
use mathlib.Core.Path.{sym, ◌∙◌}
use Rattle.forward.proofs.forward.Goals as goal

pub forward_usual-requires : goal.forward_usual-requires
forward_usual-requires c =
    (sym c.is_usual.ensures ∙ c.if-is_usual.true, sym c.is_usual-then-is_usual.ensures ∙ c.if-is_usual-2.true, leb-true _ _ c.if-table-le-FEW_ROWS.true-raw)
