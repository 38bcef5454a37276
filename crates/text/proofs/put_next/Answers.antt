-- `text::put_next` meets its contract.
use Rattle.text.proofs.Laws.{puts_then}
use Rattle.text.proofs.put_next.Goals as goal

pub returns : goal.returns
returns c =
    puts_then c.put_octet-k.ensures c.put_decimal.ensures
