-- `message_checksum::add_octets` meets its contract.
use Prim.Native.Nat.{◌*◌}
use mathlib.Core.Path.{◌≡◌}
use lib.ListN.{drop}
use Rattle.message_checksum.specs.Checksum.{words_in, ones_from}
use Rattle.message_checksum.proofs.add_octets.Given as goal

abbrev pub invariant-loop-block : goal.invariant-loop-block
invariant-loop-block l =
    ones_from l.sum (words_in l.octets) ≡ ones_from l.s (words_in (drop (l.block-index * 65536) l.octets))
