-- `inspect_line::put_line` meets its contract.
use borrow.Author.Tests.{not-true, not-false}
use Rattle.inspect_line.proofs.Laws.{broken_line_lem, parsed_line}
use Rattle.inspect_line.proofs.put_line.Goals as goal

pub returns-then-not-said : goal.returns-then-not-said
returns-then-not-said c =
    rw (broken_line_lem c.args.a c.args.l c.args.tables c.args.rows.now c.args.said c.args.octets.now (not-true _ c.if-not-said.true)) c.put_broken.ensures

pub find_claimed-finding-requires : goal.find_claimed-finding-requires
find_claimed-finding-requires c = c.requires (not-false _ c.if-not-said.false)

pub returns : goal.returns
returns c =
    rw (parsed_line c.args.a c.args.l c.args.tables c.args.rows.now c.args.said c.args.octets.now c.find_claimed-finding.result (not-false _ c.if-not-said.false) c.find_claimed-finding.ensures) c.put_finding.ensures
