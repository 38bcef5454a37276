-- `route_decide::decide` meets its contract.
use mathlib.Core.Path.{sym, ◌∙◌}
use lib.ListN.{length}
use Rattle.route_decide.proofs.Gone.{unsound_gone, unrouted_gone, routed_gone}
use Rattle.route_decide.proofs.decide.Goals as goal

pub returns-then-not-set_sound : goal.returns-then-not-set_sound
returns-then-not-set_sound c =
    unsound_gone c.args.ports.now c.args.tables c.args.rows.now c.args.routes.now c.args.arriving c.args.destination c.args.facts c.args.area.now (length c.args.out.now)
    c.survey_ports-known.result c.survey_ports-known.ensures (sym c.set_sound.ensures ∙ c.if-not-set_sound.true) c.no_port.result c.no_port.ensures c.refuse_unrouted.result c.refuse_unrouted.ensures c.args.out.now

pub returns-in-None : goal.returns-in-None
returns-in-None c =
    unrouted_gone c.args.ports.now c.args.tables c.args.rows.now c.args.routes.now c.args.arriving c.args.destination c.args.facts c.args.area.now (length c.args.out.now)
    c.survey_ports-known.result c.survey_ports-known.ensures (sym c.set_sound.ensures ∙ c.if-not-set_sound.false) (sym c.choose_route.ensures ∙ c.in-None.is)
    c.pick_port-a.result c.pick_port-a.ensures c.refuse_unrouted-in-None.result c.refuse_unrouted-in-None.ensures c.args.out.now

pub returns-in-Some : goal.returns-in-Some
returns-in-Some c =
    routed_gone c.args.ports.now c.args.tables c.args.rows.now c.args.routes.now c.args.arriving c.args.destination c.args.facts c.args.area.now (length c.args.out.now)
    c.survey_ports-known.result c.survey_ports-known.ensures (sym c.set_sound.ensures ∙ c.if-not-set_sound.false) c.in-Some.route (sym c.choose_route.ensures ∙ c.in-Some.is)
    c.pick_port-a.result c.pick_port-l.result c.pick_port-a.ensures c.pick_port-l.ensures c.forward_between.result c.args.out.now c.forward_between.new.out c.forward_between.ensures
