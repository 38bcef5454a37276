-- `case_lines::put_output` meets its contract.
use mathlib.Core.Path.{◌≡◌, sym, ◌∙◌}
use mathlib.Core.Bool.{true, false}
use lib.Dec.{eqb}
use lib.ListN.{length}
use Rattle.text.proofs.Laws.{writes_then}
use Rattle.case_lines.specs.Line.{output_word}
use Rattle.case_lines.proofs.put_output.Goals as goal

pub returns-then-is_empty : goal.returns-then-is_empty
unfolding output_word
returns-then-is_empty c =
    let e : eqb (length c.args.octets.now) 0 ≡ true = sym c.is_empty.ensures ∙ c.if-is_empty.true in
    rw e (writes_then c.octet.ensures c.octet-then-is_empty.ensures)

pub returns-else-is_empty : goal.returns-else-is_empty
unfolding output_word
returns-else-is_empty c =
    let e : eqb (length c.args.octets.now) 0 ≡ false = sym c.is_empty.ensures ∙ c.if-is_empty.false in
    rw e (writes_then c.octet.ensures c.hex.ensures)
