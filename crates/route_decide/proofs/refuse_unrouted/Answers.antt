-- `route_decide::refuse_unrouted` meets its contract.
use mathlib.Core.Path.{refl}
use Rattle.route_decide.proofs.Unrouted.{concludes}
use Rattle.route_decide.proofs.refuse_unrouted.Goals as goal

pub returns : goal.returns
returns c =
    concludes c.args.a c.args.facts c.args.area.now c.args.room c.arrive-arrived.ensures c.find_no_route-verdict.ensures c.conclude.ensures refl
