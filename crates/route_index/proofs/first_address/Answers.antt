-- `route_index::first_address` meets its contract.
use native.Mathlib.Omega.{arith}
use native.Mathlib.Nat.{div-mul-le_self}
use Rattle.route_index.proofs.first_address.Goals as goal

pub overflow_mul-first : goal.overflow_mul-first
overflow_mul-first c = omega (arith, div-mul-le_self c.args.prefix c.block-size.result)

pub overflow_cast-result : goal.overflow_cast-result
overflow_cast-result c = omega (arith, div-mul-le_self c.args.prefix c.block-size.result)

pub returns : goal.returns
returns c = rw c.block-size.ensures.0
