-- `inspect_claim::compare::compare_claim` meets its contract: a place that differs ends it, and the places before it agree.
use native.Mathlib.Omega.{arith}
use native.Mathlib.Numerals.{add-one}
use mathlib.Core.Path.{◌≡◌, sym, ◌∙◌}
use mathlib.Core.List.{List, [], ◌∷◌}
use Prim.Native.Nat.{ℕ}
use lib.ListN.{take}
use Rattle.decision.specs.declared.Decision.{Decision}
use Rattle.inspect_claim.specs.Compare.{finding_of}
use Rattle.inspect_claim.proofs.Finds.{said, unsaid}
use Rattle.inspect_claim.proofs.compare.compare_claim.Goals as goal

head : Decision → List ℕ
head d = d.number ∷ d.kind ∷ d.code ∷ d.pointer ∷ d.count ∷ []

pub returns-then-not-says : goal.returns-then-not-says
unfolding finding_of head
returns-then-not-says c =
    unsaid (head c.args.d) (take c.args.d.count c.args.leaving.now) c.args.claimed.now c.loop-k.k c.says.result c.loop-k-test.true c.says.ensures c.if-not-says.true
    ∙ sym c.loop-k.invariant.agreed

pub loop-k-preserved : goal.loop-k-preserved
unfolding head
loop-k-preserved c =
    let s = said (head c.args.d) (take c.args.d.count c.args.leaving.now) c.args.claimed.now c.loop-k.k c.says.result c.loop-k-test.true c.says.ensures c.if-not-says.false in
    record { reached = omega (arith, s.0); agreed = rw add-one (c.loop-k.invariant.agreed ∙ s.1) }

pub returns : goal.returns
unfolding finding_of
returns c =
    let e : c.loop-k.k ≡ 5 = omega arith in
    c.compare_area.ensures ∙ sym (rw e at c.loop-k.invariant.agreed)
