-- `file_table::write_table` meets its contract.
use borrow.Author.Rules.{rules}
use mathlib.Core.Path.{◌≡◌, sym, ap, ◌∙◌}
use lib.ListN.{length}
use Rattle.label.proofs.Steps.{length_mapped}
use Rattle.file_format.proofs.Writing.{stops_short, goes_on, room_added, added_then}
use Rattle.file_table.proofs.Octets.{table_written}
use Rattle.file_table.proofs.write_table.Goals as goal

pub returns-then-not-has_room : goal.returns-then-not-has_room
returns-then-not-has_room c = stops_short c.has_room.result c.table_size.result c.has_room.ensures (sym c.table_size.ensures.0) c.if-not-has_room.true

pub returns : goal.returns
returns c =
    let sized : length c.args.renumbering.levels ≡ 256 = search (length_mapped, rules) in
    let e = table_written c.args.renumbering c.args.rows.now _ _ sized c.count_used-n.ensures.0 c.count_used-m.ensures.0 in
    rw e
    (goes_on c.has_room.result c.table_size.result c.has_room.ensures (sym (ap length e) ∙ sym c.table_size.ensures.0) c.if-not-has_room.false
    (added_then (room_added c.four.ensures)
    (added_then (room_added c.four-2.ensures)
    (added_then (added_then (room_added c.two.ensures) c.write_pairs.ensures)
    (added_then (room_added c.two-2.ensures) c.write_rows.ensures)))))
