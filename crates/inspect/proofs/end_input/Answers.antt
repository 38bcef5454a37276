-- `inspect::end_input` meets its contract.
use borrow.Author.Rules.{rules}
use Rattle.inspect.proofs.Laws.{ends_clean, ends_cut}
use Rattle.inspect.proofs.end_input.Goals as goal

pub returns-then-left-eq0 : goal.returns-then-left-eq0
returns-then-left-eq0 c =
    (ends_clean c.args.out.now c.args.left c.if-left-eq0.true, c.requires)

pub returns : goal.returns
returns c = ends_cut c.args.out.now _ c.args.left _ c.if-left-eq0.false c.requires (search rules)
