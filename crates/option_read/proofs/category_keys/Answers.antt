-- `option_read::category_keys` meets its contract.
use native.Mathlib.Omega.{arith}
use Rattle.option_read.proofs.Loops.{pass_pairs}
use Rattle.option_read.proofs.category_keys.Goals as goal

pub returns-then-tag-eq-PAIRS : goal.returns-then-tag-eq-PAIRS
returns-then-tag-eq-PAIRS c =
    let five = c.if-tag-eq-PAIRS.true in
    rw five (pass_pairs c.args.octets.now c.args.keys.now c.requires.0 (c.requires.1 (λ z. omega (arith, five))) c.requires.2 c.read_pairs.ensures)
