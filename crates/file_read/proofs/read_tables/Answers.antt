-- `file_read::read_tables` meets its contract.
use Rattle.file_read.proofs.Tables.{tables_counted}
use Rattle.file_read.proofs.read_tables.Goals as goal

pub returns : goal.returns
returns c =
    let a = c.args in
    tables_counted a.version c.in_ok-count.count a.octets.now a.at c.in_ok-count.at _ _ c.in_ok-count.ensures.read _ c.read_each_table.ensures
