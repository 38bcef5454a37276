-- `option_read::read_keys` meets its contract.
use Rattle.option_read.proofs.Keys.{checked_for}
use Rattle.option_read.proofs.read_keys.Goals as goal

pub returns : goal.returns
returns c =
    let a = c.args in
    let t = checked_for a.domain a.octets.now a.keys.now _ _ c.read_checked.ensures in
    record { read = t.0; refused = t.1 }
