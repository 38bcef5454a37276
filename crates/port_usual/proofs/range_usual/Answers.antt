-- `port_usual::range_usual` meets its contract.
use borrow.Author.Rules.{rules}
use Rattle.label.proofs.Labels.{typed_yes}
use Rattle.label.proofs.Steps.{length_mapped}
use Rattle.port_usual.proofs.Usual.{range_usual_lem}
use Rattle.port_usual.proofs.range_usual.Goals as goal

pub returns : goal.returns
returns c =
    let low = typed_yes c.args.lowest.now (search rules) (search rules) (search (length_mapped, rules)) in
    let high = typed_yes c.args.highest.now (search rules) (search rules) (search (length_mapped, rules)) in
    rw (c.runs_unused-rest.ensures, c.word.ensures, c.one_formed-high.ensures)
    (range_usual_lem c.args.lowest.now c.args.highest.now c.args.domain low high)
