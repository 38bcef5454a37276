-- `text::put_word` meets its contract.
use lib.ListN.{take}
use Rattle.text.specs.Put.{Puts}
use Rattle.text.proofs.put_word.Given as goal

abbrev pub invariant-loop-x : goal.invariant-loop-x
invariant-loop-x l = Puts l.initial.out l.n (take l.x-index l.word) l.out l.k
