-- `file_port::write_port` meets its contract.
use mathlib.Core.Path.{sym}
use Rattle.file_format.specs.Format.{octets}
use Rattle.file_format.proofs.Writing.{stops_short, goes_on, room_added, added_then}
use Rattle.file_port.specs.PortFormat.{third_port, port_format}
use Rattle.file_port.proofs.write_port.Goals as goal

pub returns-then-not-has_room : goal.returns-then-not-has_room
returns-then-not-has_room c =
    stops_short c.has_room.result c.port_size.result c.has_room.ensures (sym c.port_size.ensures.0) c.if-not-has_room.true

pub returns : goal.returns
unfolding octets port_format third_port
returns c =
    goes_on c.has_room.result c.port_size.result c.has_room.ensures (sym c.port_size.ensures.0) c.if-not-has_room.false
    (added_then c.write_plain.ensures (added_then c.write_later.ensures (room_added (rw c.flag_of.ensures.0 at c.octet.ensures))))
