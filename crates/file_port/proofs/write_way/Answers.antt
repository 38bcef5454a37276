-- `file_port::write_way` meets its contract.
use borrow.Author.Rules.{rules}
use mathlib.Core.Bool.{true}
use mathlib.Core.Path.{◌≡◌}
use lib.ListN.{length}
use Rattle.label.proofs.Steps.{length_mapped}
use Rattle.file_format.proofs.Writing.{room_added, added_then}
use Rattle.file_port.proofs.LabelLaws.{way_octets}
use Rattle.file_port.proofs.write_way.Goals as goal

pub returns : goal.returns
returns c =
    let w = c.args.way in
    let sized : length c.args.way.flags ≡ 256 = search (length_mapped, rules) in
    rw (way_octets true w c.count_used-n.result sized c.count_used-n.ensures.0)
    (added_then (room_added (rw c.from.ensures at c.octet.ensures))
    (added_then (room_added (rw c.from-2.ensures at c.octet-2.ensures))
    (added_then (room_added c.two.ensures) c.write_flags.ensures)))
