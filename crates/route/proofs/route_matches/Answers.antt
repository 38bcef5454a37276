-- `route::route_matches` meets its contract.
use Rattle.route.proofs.Laws.{uncut}
use Rattle.route.proofs.route_matches.Goals as goal

pub returns-then-length-ge32 : goal.returns-then-length-ge32
returns-then-length-ge32 c = simp (uncut c.args.r.prefix c.args.r.length c.if-length-ge32.true, uncut c.args.address c.args.r.length c.if-length-ge32.true)
