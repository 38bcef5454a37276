-- `memory_message::destination_in` meets its contract.
use native.Mathlib.Omega.{arith}
use Rattle.memory_message.proofs.Laws.{destination_at}
use Rattle.memory_message.proofs.destination_in.Goals as goal

pub returns : goal.returns
returns c = omega (arith, destination_at c.args.octets.now, c.from_be_bytes.ensures)
