-- `case_lines::put_first` meets its contract.
use Rattle.std.proofs.lemmas.List.{take_min}
use lib.Seq.{take_all}
use Rattle.text.proofs.Laws.{writes_then, writes_none}
use Rattle.case_lines.specs.Line.{each}
use Rattle.case_lines.proofs.Laws.{each_more}
use Rattle.case_lines.proofs.put_first.Goals as goal

pub loop-item-init : goal.loop-item-init
unfolding each
loop-item-init g c = writes_none

pub loop-item-preserved : goal.loop-item-preserved
loop-item-preserved g c =
    rw (each_more g.T.Words.words _ c.loop-item.item-index c.item-item.result c.loop-item-test.true, ← c.item-item.is)
    (writes_then c.loop-item.invariant c.put.ensures)

pub returns : goal.returns
returns g c = rw (take_all _ _ c.loop-item-test.false, c.min.ensures, take_min) at c.loop-item.invariant
