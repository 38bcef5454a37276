-- `route::route_sound` meets its contract.
use mathlib.Core.Path.{sym, ◌∙◌}
use Rattle.route.proofs.Laws.{bad_prefix, port_missing, by_domain}
use Rattle.route.proofs.route_sound.Goals as goal

pub returns-then-not-prefix_sound : goal.returns-then-not-prefix_sound
returns-then-not-prefix_sound c =
    bad_prefix c.args.domains.now c.args.r (sym c.prefix_sound.ensures ∙ c.if-not-prefix_sound.true)

pub returns-then-domains-port : goal.returns-then-domains-port
returns-then-domains-port c =
    port_missing c.args.domains.now c.args.r (sym c.prefix_sound.ensures ∙ c.if-not-prefix_sound.false) c.if-domains-port.true

pub returns : goal.returns
returns c =
    by_domain c.args.domains.now c.args.r (sym c.prefix_sound.ensures ∙ c.if-not-prefix_sound.false) c.if-domains-port.false
