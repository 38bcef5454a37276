-- `message_checksum::make_checksum` meets its contract.
use Prim.Native.Nat.{ℕ, ◌-◌}
use mathlib.Core.Path.{ap}
use Rattle.message_checksum.specs.Checksum.{ones_sum, checksum_of}
use Rattle.message_checksum.proofs.make_checksum.Goals as goal

pub returns : goal.returns
unfolding checksum_of ones_sum
returns c = ap (λ (x : ℕ). 65535 - x) c.add_octets.ensures
