-- `sample::answer_record` meets its contract.
use borrow.Author.Rules.{rules}
use native.Mathlib.Omega.{arith}
use Prim.Native.Nat.{◌≤◌, ◌<◌}
use lib.ListN.{length}
use Rattle.sample.proofs.answer_record.Goals as goal

-- what is known where the function begins
short : (c : goal.Else-end-at) → length c.args.input.now < 18446744073709551615
short c = search rules

window : (c : goal.Else-end-at) → c.args.place.window.end ≤ length c.args.input.now
window c = search rules

ahead : (c : goal.Else-end-at) → c.args.place.window.at ≤ c.args.place.window.end
ahead c = search rules

pub overflow_add-next : goal.overflow_add-next
overflow_add-next c =
    record { fits = omega (arith, short c, window c, ahead c, c.if-end-at.false) }

pub overflow_add-at : goal.overflow_add-at
overflow_add-at c =
    record { fits = omega (arith, short c, window c, ahead c) }

pub answer-requires : goal.answer-requires
answer-requires c =
    omega (arith, c.in_ok-ready.ensures.spare (omega arith))
