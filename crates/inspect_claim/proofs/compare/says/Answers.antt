-- `inspect_claim::compare::says` meets its contract.
use borrow.Author.Tests.{lt-ltb, le-ltb}
use Prim.Native.Nat.{◌≤◌, ◌<◌}
use mathlib.Core.Path.{sym, ap}
use mathlib.Core.Bool.{Bool, ◌&&◌}
use native.Mathlib.Omega.{arith}
use lib.Dec.{eqb}
use lib.ListN.{length, get_or}
use Rattle.inspect_claim.proofs.compare.says.Goals as goal

-- src/compare.rt:51:9
pub returns-then-claimed-k : goal.returns-then-claimed-k
returns-then-claimed-k c =
    let h : length c.args.claimed.now ≤ c.args.k = omega arith in
    sym (ap (λ (t : Bool). t && eqb c.args.x (get_or c.args.claimed.now c.args.k 0)) (le-ltb _ _ h))

-- src/compare.rt:47:1
pub returns : goal.returns
returns c =
    let h : c.args.k < length c.args.claimed.now = omega arith in
    rw (lt-ltb c.args.k (length c.args.claimed.now) h)
