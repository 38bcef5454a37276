-- `route::routes_sound` meets its contract.
use borrow.Author.Tests.{lt-leb, le-leb, eq-eqb, ne_eqb}
use mathlib.Core.Path.{sym, ◌∙◌}
use Rattle.route.proofs.Keys.{every_prefix}
use Rattle.route.specs.Route.{routes_of, routes_sound}
use Rattle.route.proofs.routes_sound.Goals as goal

pub returns-then-n-gt1024 : goal.returns-then-n-gt1024
unfolding routes_sound
returns-then-n-gt1024 c = simp (lt-leb _ _ c.if-n-gt1024.true)

pub returns-then-n-ne0 : goal.returns-then-n-ne0
unfolding routes_sound
returns-then-n-ne0 c = simp (le-leb _ _ c.if-n-gt1024.false, ne_eqb _ _ c.if-n-ne0.true)

pub returns-then-not-each_sound : goal.returns-then-not-each_sound
unfolding routes_sound
returns-then-not-each_sound c = simp (le-leb _ _ c.if-n-gt1024.false, eq-eqb _ _ c.if-n-ne0.false, sym c.each_sound.ensures ∙ c.if-not-each_sound.true)

pub prefixes_differ-requires : goal.prefixes_differ-requires
prefixes_differ-requires c = (c.if-n-gt1024.false, every_prefix c.args.domains.now (routes_of c.args.routes.now) (sym c.each_sound.ensures ∙ c.if-not-each_sound.false))

pub returns : goal.returns
unfolding routes_sound
returns c = simp (le-leb _ _ c.if-n-gt1024.false, eq-eqb _ _ c.if-n-ne0.false, sym c.each_sound.ensures ∙ c.if-not-each_sound.false, c.prefixes_differ.ensures)
