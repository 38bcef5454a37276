-- `route_index::port_of` meets its contract.
use native.Mathlib.Omega.{arith}
use mathlib.Core.Path.{◌≡◌, refl, ap}
use mathlib.Core.List.{List}
use Prim.Native.Nat.{ℕ, zero, suc, ◌+◌, ◌-◌, ◌*◌}
use lib.ListN.{get_or}
use Rattle.route_index.specs.Stages.{code_port}
use Rattle.route_index.proofs.port_of.Goals as goal

-- the port of the route that the number names
some : (routes : List ℕ) (k : ℕ) → (k ≡ 0 → ⊥) → get_or routes ((k - 1) * 4 + 2) 0 ≡ code_port routes k
some routes zero h = absurd (h refl)
some routes (suc m) h = let z : (suc m - 1) * 4 + 2 ≡ m * 4 + 2 = omega arith in ap (λ (i : ℕ). get_or routes i 0) z

pub returns : goal.returns
returns c = some c.args.routes.now c.args.code c.if-code-eq0.false
