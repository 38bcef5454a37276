-- `file_read::read_each_table` meets its contract.
use mathlib.Core.Path.{◌≡◌}
use lib.ListN.{length}
use Rattle.file_read.proofs.Tables.{Kept}
use Rattle.file_read.proofs.read_each_table.Given as goal

abbrev pub invariant-loop-i : goal.invariant-loop-i
invariant-loop-i l = (length l.work ≡ 24576) × Kept l.version l.octets l.count l.at l.i l.place l.used l.tables l.work
