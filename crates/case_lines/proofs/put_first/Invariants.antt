-- `case_lines::put_first` meets its contract.
use lib.ListN.{take}
use Rattle.text.specs.Put.{Writes}
use Rattle.case_lines.specs.Line.{each}
use Rattle.case_lines.proofs.put_first.Given as goal

abbrev pub invariant-loop-item : goal.invariant-loop-item
invariant-loop-item g l = Writes l.initial.line (each g.T.Words.words (take l.item-index l.item-items)) l.line
