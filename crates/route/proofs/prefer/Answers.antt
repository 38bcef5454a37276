-- `route::prefer` meets its contract.
use borrow.Author.Tests.{lt-ltb, le-ltb}
use mathlib.Core.Path.{sym, ◌∙◌}
use Rattle.route.proofs.prefer.Goals as goal

pub returns-then-not-route_matches : goal.returns-then-not-route_matches
returns-then-not-route_matches c = simp (sym c.route_matches.ensures ∙ c.if-not-route_matches.true)

pub returns-then-b-r : goal.returns-then-b-r
returns-then-b-r c = simp (sym c.route_matches.ensures ∙ c.if-not-route_matches.false, c.in-Some.is, lt-ltb _ _ c.if-b-r.true)

pub returns-in-None : goal.returns-in-None
returns-in-None c = simp (sym c.route_matches.ensures ∙ c.if-not-route_matches.false, c.in-None.is)

pub returns-else-b-r : goal.returns-else-b-r
returns-else-b-r c = simp (sym c.route_matches.ensures ∙ c.if-not-route_matches.false, c.in-Some.is, le-ltb _ _ c.if-b-r.false)
