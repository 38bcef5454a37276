-- `text::put_hex` meets its contract.
use lib.ListN.{take}
use Rattle.text.specs.Put.{Puts}
use Rattle.text.specs.Text.{hex_of}
use Rattle.text.proofs.put_hex.Given as goal

abbrev pub invariant-loop-x : goal.invariant-loop-x
invariant-loop-x l = Puts l.initial.out l.n (hex_of (take l.x-index l.octets)) l.out l.k
