-- `deliver::deliver` meets its contract.
use native.Mathlib.Omega.{arith}
use mathlib.Core.Path.{◌∙◌}
use Rattle.deliver.proofs.Deliveries.{delivered}
use Rattle.deliver.specs.Delivery.{delivery_of}
use Rattle.deliver.proofs.deliver.Goals as goal

pub returns : goal.returns
returns c =
    c.conclude.ensures
    ∙ delivered (delivery_of c.args.port c.args.host c.args.facts c.args.area.now) _ _ c.arrive-arrived.result c.reach_host-verdict.result (omega arith) c.arrive-arrived.ensures c.reach_host-verdict.ensures
