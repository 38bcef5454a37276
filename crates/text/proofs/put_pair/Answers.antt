-- `text::put_pair` meets its contract.
use Rattle.text.specs.Text.{hex_of}
use Rattle.text.proofs.Laws.{puts_then}
use Rattle.text.proofs.put_pair.Goals as goal

pub returns : goal.returns
unfolding hex_of
returns c =
    puts_then
    (rw c.hex_digit.ensures at c.put_octet-k.ensures)
    (rw c.hex_digit-2.ensures at c.put_octet.ensures)
