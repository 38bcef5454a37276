-- `message::reports_refusal` meets its contract.
use borrow.Author.Tests.{eq-eqb, ne_eqb}
use Rattle.message.proofs.reports_refusal.Goals as goal

pub returns-then-kind-eq12 : goal.returns-then-kind-eq12
returns-then-kind-eq12 c = rw (eq-eqb c.args.kind 12 c.if-kind-eq12.true)

pub returns : goal.returns
returns c = rw (ne_eqb c.args.kind 12 c.if-kind-eq12.false)
