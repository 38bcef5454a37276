-- `memory::Memory::stands` meets its contract.
use mathlib.Core.Path.{sym, ◌∙◌}
use Rattle.memory.proofs.Laws.{stands_over, stands_twice, stands_rest}
use Rattle.memory.proofs.Memory.stands.Goals as goal

pub returns-then-self-gt-MOST : goal.returns-then-self-gt-MOST
returns-then-self-gt-MOST c = sym (stands_over c.args.self c.if-self-gt-MOST.true)

pub returns-then-is_distinct : goal.returns-then-is_distinct
returns-then-is_distinct c =
    c.is_zero.ensures ∙ rw c.split_at.ensures.back (sym (stands_rest c.args.self c.if-self-gt-MOST.false (rw c.split_at.ensures.front at (sym c.is_distinct.ensures ∙ c.if-is_distinct.true))))

pub returns-else-is_distinct : goal.returns-else-is_distinct
returns-else-is_distinct c =
    c.if-is_distinct.false ∙ sym (stands_twice c.args.self c.if-self-gt-MOST.false (rw c.split_at.ensures.front at (sym c.is_distinct.ensures ∙ c.if-is_distinct.false)))
