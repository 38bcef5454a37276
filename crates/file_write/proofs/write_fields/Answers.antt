-- `file_write::write_fields` meets its contract.
use native.Mathlib.Omega.{arith}
use Rattle.file_format.proofs.Writing.{room_added, added_then}
use Rattle.file_read.proofs.Sets.{parts}
use Rattle.file_write.proofs.Sizes.{fields_written}
use Rattle.file_write.proofs.write_fields.Goals as goal

pub overflow_cast-total : goal.overflow_cast-total
overflow_cast-total c = omega (arith, c.requires.2)

pub overflow_cast-n : goal.overflow_cast-n
overflow_cast-n c = omega (arith, (parts c.args.set c.args.rows.now c.requires.0).ports_held)

pub write_ports-requires : goal.write_ports-requires
write_ports-requires c = (parts c.args.set c.args.rows.now c.requires.0).ports_held

pub overflow_cast-m : goal.overflow_cast-m
overflow_cast-m c = omega (arith, (parts c.args.set c.args.rows.now c.requires.0).tables_held)

pub write_tables-requires : goal.write_tables-requires
write_tables-requires c = (parts c.args.set c.args.rows.now c.requires.0).tables_held

pub returns : goal.returns
returns c =
    fields_written c.args.set c.args.rows.now (parts c.args.set c.args.rows.now c.requires.0)
    (added_then (added_then (room_added (rw c.requires.1 at c.two.ensures)) (room_added c.octet.ensures))
    (added_then (added_then (room_added c.octet-2.ensures) c.write_ports.ensures) (added_then (room_added c.octet-3.ensures) c.write_tables.ensures)))
