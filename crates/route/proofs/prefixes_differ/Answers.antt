-- `route::prefixes_differ` meets its contract.
use mathlib.Core.Path.{sym, ◌∙◌}
use Rattle.route.specs.Route.{routes_of}
use Rattle.route.proofs.Keys.{hosts_repeat, by_others}
use Rattle.route.proofs.prefixes_differ.Goals as goal

pub returns-then-not-keys_differ : goal.returns-then-not-keys_differ
returns-then-not-keys_differ c =
    hosts_repeat (routes_of c.args.routes.now) c.requires.1 (sym c.keys_differ.ensures ∙ c.if-not-keys_differ.true)

pub returns : goal.returns
returns c =
    by_others (routes_of c.args.routes.now) c.requires.1 (sym c.keys_differ.ensures ∙ c.if-not-keys_differ.false) c.keys_differ-2.ensures
