-- `label::Label::well_formed` meets its contract.
use Rattle.std.proofs.Common.{rules, sym}
use Rattle.std.proofs.lemmas.List.{take_rest}
use borrow.Author.Tests.{le-leb}
use Rattle.label.proofs.Labels.{first_formed}
use Rattle.label.proofs.Label.well_formed.Goals as goal

pub returns-then-n-le1 : goal.returns-then-n-le1
returns-then-n-le1 c =
    let l = c.args.self in
    rw (c.one_formed.ensures, c.all_unused.ensures, take_rest l.runs 1, le-leb l.count 1 c.if-n-le1.true)
    (sym (first_formed l c.if-self-eq0.false c.if-n-le1.true (search rules) (search rules) (search rules)))
