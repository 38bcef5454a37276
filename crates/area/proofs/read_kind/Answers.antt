-- `area::read_kind` meets its contract.
use borrow.Author.Tests.{ne_eqb}
use Rattle.area.proofs.read_kind.Goals as goal

pub returns-in-0 : goal.returns-in-0
returns-in-0 c = rw c.in-0.is

pub returns-in-1 : goal.returns-in-1
returns-in-1 c = rw c.in-1.is

pub returns-in-130 : goal.returns-in-130
returns-in-130 c = rw c.in-130.is

pub returns-in-133 : goal.returns-in-133
returns-in-133 c = rw c.in-133.is

pub returns-in-134 : goal.returns-in-134
returns-in-134 c = rw c.in-134.is

pub returns-in-2-to-129 : goal.returns-in-2-to-129
returns-in-2-to-129 c = simp (ne_eqb _ _ c.in-2-to-129.in-2-to-129-own.rest.1, ne_eqb _ _ c.in-2-to-129.in-2-to-129-own.rest.0.1, ne_eqb _ _ c.in-2-to-129.in-2-to-129-own.rest.0.0.1, ne_eqb _ _ c.in-2-to-129.in-2-to-129-own.rest.0.0.0.1, ne_eqb _ _ c.in-2-to-129.in-2-to-129-own.rest.0.0.0.0.1)
