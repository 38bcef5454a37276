-- `route_index::behind_address` meets its contract.
use native.Mathlib.Omega.{arith}
use native.Mathlib.Nat.{div-mul-le_self}
use Rattle.route_index.proofs.behind_address.Goals as goal

pub overflow_mul-first : goal.overflow_mul-first
overflow_mul-first c = omega (arith, div-mul-le_self c.args.prefix c.block-size.result)

pub overflow_add-result : goal.overflow_add-result
overflow_add-result c = omega (arith, div-mul-le_self c.args.prefix c.block-size.result, c.block-size.ensures.2)

pub returns : goal.returns
returns c = rw c.block-size.ensures.0
