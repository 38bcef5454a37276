-- `sample::answer` meets its contract.
use borrow.Author.Rules.{rules}
use Prim.Native.Nat.{◌≤◌}
use native.Mathlib.Omega.{arith}
use lib.ListN.{length}
use Rattle.sample.proofs.Laws.{refused_whole, forwarded_whole}
use Rattle.sample.proofs.answer.Goals as goal

pub returns-then-d-ne0-clause-whole : goal.returns-then-d-ne0-clause-whole
returns-then-d-ne0-clause-whole c =
    refused_whole _ c.forward-d.result _ _ _ _ (omega arith) c.forward-d.ensures.value c.if-d-ne0.true c.put_drop.ensures.puts

pub returns-else-d-ne0-clause-whole : goal.returns-else-d-ne0-clause-whole
returns-else-d-ne0-clause-whole c =
    let area = c.forward-d.new.out in
    let sized : length area ≤ 40 = search rules in
    forwarded_whole _ c.forward-d.result area _ _ _ _ (omega arith) sized c.forward-d.ensures.value c.forward-d.ensures.out_after c.if-d-ne0.false c.put_forward.ensures.puts
