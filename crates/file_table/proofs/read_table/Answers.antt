-- `file_table::read_table` meets its contract.
use borrow.Author.Rules.{rules}
use native.Mathlib.Omega.{arith}
use mathlib.Core.Path.{◌≡◌}
use lib.ListN.{length}
use Rattle.std.proofs.lemmas.Result.{err_from_is_err_and}
use Rattle.file_table.proofs.Rows.{table_refused, table_read}
use Rattle.file_table.proofs.read_table.Goals as goal

pub returns-in_err-renumbering : goal.returns-in_err-renumbering
returns-in_err-renumbering c =
    let a = c.args in
    let p = err_from_is_err_and c.from_residual.result c.from_residual.ensures.1 in
    let e = c.in_err-renumbering.ensures.read in
    let t = table_refused a.version a.octets.now a.at a.rows.now a.from _ e in
    rw (p.1, p.2) (record { read = e; table = tt; rows_after = t.0; few = t.1 })

pub returns : goal.returns
returns c =
    let a = c.args in
    let e = c.in_ok-renumbering.ensures in
    let n : length c.read_fields.new.kept ≡ 3072 = search rules in
    let t = table_read a.version a.octets.now a.at a.rows.now a.from c.read_fields.new.kept e.read e.filled e.few (omega (arith, n, e.few)) c.write_numbers.ensures in
    record { read = t.read; table = t.table; rows_after = t.rows_after; few = t.few }
