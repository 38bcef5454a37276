-- `file_port::write_plain` meets its contract.
use Rattle.file_format.specs.Format.{octets}
use Rattle.file_format.proofs.Writing.{room_added, added_then}
use Rattle.file_port.specs.LabelFormat.{label_format}
use Rattle.file_port.specs.PortFormat.{given_format, plain_format}
use Rattle.file_port.proofs.write_plain.Goals as goal

pub returns : goal.returns
unfolding octets label_format given_format plain_format
returns c =
    added_then (room_added c.four.ensures)
    (added_then (room_added c.write_label.ensures)
    (added_then (room_added c.write_label-2.ensures)
    (added_then (room_added (rw c.flag_of.ensures.0 at c.octet.ensures)) (room_added c.write_label-3.ensures))))
