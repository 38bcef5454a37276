-- `port_usual::looks_usual` meets its contract.
use borrow.Author.Rules.{rules}
use Rattle.port_usual.specs.Usual.{looks_usual}
use Rattle.port_usual.proofs.looks_usual.Goals as goal

pub returns : goal.returns
unfolding looks_usual
returns c = search rules
