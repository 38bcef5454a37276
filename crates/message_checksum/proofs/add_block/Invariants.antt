-- `message_checksum::add_block` meets its contract.
use Prim.Native.Nat.{◌+◌, ◌*◌, ◌≤◌}
use mathlib.Core.Path.{◌≡◌}
use lib.ListN.{drop}
use Rattle.message_checksum.specs.Checksum.{words_in, ones_from}
use Rattle.message_checksum.specs.Stages.{folded}
use Rattle.message_checksum.proofs.add_block.Given as goal

abbrev pub invariant-loop-pair : goal.invariant-loop-pair
invariant-loop-pair l =
    (l.s ≤ 65535 * (l.pair-index + 1)) × (ones_from l.sum (words_in l.octets) ≡ ones_from (folded l.s) (words_in (drop (l.pair-index * 2) l.octets)))
