-- `table_rows::row_rises` meets its contract.
use borrow.Author.Tests.{le-leb, lt-leb}
use Rattle.table_rows.proofs.row_rises.Goals as goal

pub returns-then-low-floor : goal.returns-then-low-floor
returns-then-low-floor c = simp (lt-leb _ _ (rw c.from-low.ensures at c.if-low-floor.true))

pub returns-then-high-low : goal.returns-then-high-low
returns-then-high-low c =
    simp (le-leb _ _ (rw c.from-low.ensures at c.if-low-floor.false), lt-leb _ _ (rw (c.from-high.ensures, c.from-low.ensures) at c.if-high-low.true))

pub returns-then-high-gt65534 : goal.returns-then-high-gt65534
returns-then-high-gt65534 c =
    simp (
      le-leb _ _ (rw c.from-low.ensures at c.if-low-floor.false),
      le-leb _ _ (rw (c.from-high.ensures, c.from-low.ensures) at c.if-high-low.false),
      lt-leb _ _ (rw c.from-high.ensures at c.if-high-gt65534.true),
    )

pub returns : goal.returns
returns c =
    rw (c.from.ensures, c.from-high.ensures, c.from-low.ensures)
    (simp (
      le-leb _ _ (rw c.from-low.ensures at c.if-low-floor.false),
      le-leb _ _ (rw (c.from-high.ensures, c.from-low.ensures) at c.if-high-low.false),
      le-leb _ _ (rw c.from-high.ensures at c.if-high-gt65534.false),
    ))
