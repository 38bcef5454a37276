-- `route_index::better_code` meets its contract.
use mathlib.Core.Path.{sym}
use borrow.Author.Tests.{lt-ltb, le-ltb, eq-eqb, ne_eqb}
use Rattle.route_index.proofs.better_code.Goals as goal

pub returns-then-code-eq0 : goal.returns-then-code-eq0
returns-then-code-eq0 c = sym (rw (eq-eqb _ _ c.if-code-eq0.true))

pub returns-then-routes-place : goal.returns-then-routes-place
returns-then-routes-place c = sym (rw (ne_eqb _ _ c.if-code-eq0.false, lt-ltb _ _ c.if-routes-place.true))

pub returns : goal.returns
returns c = sym (rw (ne_eqb _ _ c.if-code-eq0.false, le-ltb _ _ c.if-routes-place.false))
