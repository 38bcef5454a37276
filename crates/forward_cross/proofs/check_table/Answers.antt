-- `forward_cross::check_table` meets its contract.
use borrow.Author.Tests.{le-leb, lt-leb}
use mathlib.Core.Path.{sym, ◌∙◌}
use Rattle.forward_cross.specs.Crossed.{tabled_by}
use Rattle.forward_cross.proofs.check_table.Goals as goal

pub returns-then-refusal-le2 : goal.returns-then-refusal-le2
unfolding tabled_by
returns-then-refusal-le2 c = rw (le-leb _ 2 c.if-refusal-le2.true)

pub returns-then-not-table_sound : goal.returns-then-not-table_sound
unfolding tabled_by
returns-then-not-table_sound c =
    rw (lt-leb _ 2 c.if-refusal-le2.false, sym c.table_sound.ensures ∙ c.if-not-table_sound.true) c.silent.ensures

pub returns : goal.returns
unfolding tabled_by
returns c =
    rw (lt-leb _ 2 c.if-refusal-le2.false, sym c.table_sound.ensures ∙ c.if-not-table_sound.false)
