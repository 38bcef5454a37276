-- `file_table::table_size` meets its contract.
use borrow.Author.Rules.{rules}
use native.Mathlib.Omega.{arith}
use mathlib.Core.Path.{◌≡◌, sym}
use lib.ListN.{length}
use Rattle.label.proofs.Steps.{length_mapped}
use Rattle.file_table.proofs.Octets.{table_length}
use Rattle.file_table.proofs.table_size.Goals as goal

sized : (c : goal.After-count_used-2) → length c.args.renumbering.levels ≡ 256
sized c = search (length_mapped, rules)

pub returns : goal.returns
returns c =
    let e = c.count_used.ensures in
    let f = c.count_used-2.ensures in
    (sym (table_length c.args.renumbering c.args.rows.now _ _ (sized c) e.0 f.0), omega (arith, e.1, f.1))
