-- `file_set::small` meets its contract.
use native.Mathlib.Omega.{arith}
use Rattle.file_set.proofs.Sets.{small_all}
use Rattle.file_set.proofs.small.Goals as goal

pub returns : goal.returns
returns c = small_all c.args.flags.now (λ k. omega (arith, c.type_inv.flags k))
