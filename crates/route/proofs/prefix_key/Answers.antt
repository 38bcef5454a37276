-- `route::prefix_key` meets its contract.
use borrow.Author.Tests.{eq-eqb, ne_eqb}
use Rattle.route.specs.Stages.{bare_route}
use Rattle.route.proofs.Keys.{long, key_fits}
use Rattle.route.proofs.prefix_key.Goals as goal

pub returns-then-length-eq32 : goal.returns-then-length-eq32
returns-then-length-eq32 c = simp (eq-eqb _ _ c.if-length-eq32.true)

pub overflow_add-result : goal.overflow_add-result
overflow_add-result c =
    let r = bare_route c.args.prefix c.args.length in
    record { fits = rw c.marker.ensures (key_fits r c.requires (long r c.requires (ne_eqb _ _ c.if-length-eq32.false)) c.ranges.prefix.fits) }

pub returns : goal.returns
returns c = simp (ne_eqb _ _ c.if-length-eq32.false, c.marker.ensures)
