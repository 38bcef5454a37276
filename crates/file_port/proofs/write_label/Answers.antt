-- `file_port::write_label` meets its contract.
use borrow.Author.Rules.{rules}
use mathlib.Core.Path.{◌≡◌, sym, ap, ◌∙◌}
use lib.ListN.{length}
use Rattle.label.proofs.Steps.{length_mapped}
use Rattle.file_format.proofs.Writing.{stops_short, goes_on, room_added, added_then}
use Rattle.file_port.proofs.LabelLaws.{label_octets}
use Rattle.file_port.proofs.write_label.Goals as goal

pub returns-then-not-has_room : goal.returns-then-not-has_room
returns-then-not-has_room c =
    stops_short c.has_room.result c.label_size.result c.has_room.ensures (sym c.label_size.ensures.0) c.if-not-has_room.true

pub returns : goal.returns
returns c =
    let l = c.args.label in
    let sized : length c.args.label.runs ≡ 120 = search (length_mapped, rules) in
    let e = label_octets l.domain l c.count_used-n.result sized c.count_used-n.ensures.0 in
    let n = sym c.label_size.ensures.0 in
    rw e
    (goes_on c.has_room.result c.label_size.result c.has_room.ensures
    (sym (ap length e) ∙ n) c.if-not-has_room.false
    (added_then (room_added c.four.ensures)
    (added_then (room_added (rw c.from.ensures at c.octet.ensures))
    (added_then (room_added c.octet-2.ensures) c.write_runs.ensures))))
