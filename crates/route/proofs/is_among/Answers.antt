-- `route::is_among` meets its contract.
use Rattle.route.proofs.is_among.Goals as goal

pub returns-then-hosts : goal.returns-then-hosts
returns-then-hosts c = simp c.if-hosts.true

pub returns : goal.returns
returns c = simp c.if-hosts.false
