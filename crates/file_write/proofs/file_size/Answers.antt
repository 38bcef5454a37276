-- `file_write::file_size` meets its contract.
use native.Mathlib.Omega.{arith}
use mathlib.Core.Path.{sym}
use Rattle.file_read.proofs.Sets.{parts}
use Rattle.file_write.proofs.Sizes.{total_is}
use Rattle.file_write.proofs.file_size.Goals as goal

pub ports_size-requires : goal.ports_size-requires
ports_size-requires c = (parts c.args.set c.args.rows.now c.requires).ports_held

pub overflow_add-result : goal.overflow_add-result
overflow_add-result c = omega (arith, c.ports_size.ensures.1, (parts c.args.set c.args.rows.now c.requires).ports_held)

pub tables_size-requires : goal.tables_size-requires
tables_size-requires c = (parts c.args.set c.args.rows.now c.requires).tables_held

pub overflow_add-result-2 : goal.overflow_add-result-2
overflow_add-result-2 c = let p = parts c.args.set c.args.rows.now c.requires in omega (arith, c.ports_size.ensures.1, c.tables_size.ensures.1, p.ports_held, p.tables_held)

pub returns : goal.returns
returns c =
    let p = parts c.args.set c.args.rows.now c.requires in
    let a = c.ports_size.ensures in
    let b = c.tables_size.ensures in
    (rw (a.0, b.0) (sym (total_is c.args.set c.args.rows.now p)), omega (arith, a.1, b.1, p.ports_held, p.tables_held))
