-- `file_format::Output::number` meets its contract.
use Prim.Native.Nat.{◌≤◌}
use mathlib.Core.Path.{◌≡◌}
use lib.ListN.{length}
use Rattle.lists.specs.Lists.{paint}
use Rattle.file_format.specs.Format.{digits}
use Rattle.file_format.proofs.Output.number.Given as goal

abbrev pub invariant-loop-i : goal.invariant-loop-i
invariant-loop-i l =
    (l.i ≤ l.width)
    × (l.self.octets.ghost_name ≡ l.initial.self.octets.ghost_name)
    × (l.self.end ≡ l.initial.self.end)
    × (length l.self.octets.now ≡ length l.initial.self.octets.now)
    × (paint l.initial.self.end (digits l.width l.value) l.initial.self.octets.now ≡ paint l.initial.self.end (digits l.i l.rest) l.self.octets.now)

abbrev pub decreases-loop-i : goal.decreases-loop-i
decreases-loop-i l = l.i
