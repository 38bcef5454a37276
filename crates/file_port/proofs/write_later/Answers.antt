-- `file_port::write_later` meets its contract.
use Rattle.file_format.specs.Format.{octets}
use Rattle.file_format.proofs.Writing.{room_added, added_then}
use Rattle.file_port.specs.LabelFormat.{label_format}
use Rattle.file_port.specs.PortFormat.{given_format, way_format, spellings_format, later_format}
use Rattle.file_port.proofs.write_later.Goals as goal

pub returns : goal.returns
unfolding octets label_format given_format way_format spellings_format later_format
returns c =
    added_then (room_added (rw c.flag_of.ensures.0 at c.octet.ensures))
    (added_then c.write_way.ensures
    (added_then c.write_way-2.ensures
    (added_then (room_added (rw c.sum_of.ensures at c.octet-2.ensures))
    (added_then (room_added (rw c.flag_of-2.ensures.0 at c.octet-3.ensures)) (room_added c.write_label.ensures)))))
