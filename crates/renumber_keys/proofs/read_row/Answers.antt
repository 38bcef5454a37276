-- `renumber_keys::read_row` meets its contract.
use native.Mathlib.Omega.{arith}
use mathlib.Core.Path.{sym}
use Rattle.table.proofs.Lent.{row_read}
use Rattle.renumber_keys.proofs.read_row.Goals as goal

pub returns : goal.returns
returns c = sym (row_read c.args.rows.now c.args.i (omega (arith, c.requires)))
