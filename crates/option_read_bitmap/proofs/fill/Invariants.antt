-- `option_read_bitmap::fill` meets its contract. The invariant: the keys of the runs of the first i octets are written, and what stands after them is as at entry.
use Prim.Native.Nat.{◌*◌}
use mathlib.Core.Path.{◌≡◌}
use lib.ListN.{drop, length}
use Rattle.option_read_bitmap.specs.Stages.{Stands}
use Rattle.option_read_bitmap.proofs.fill.Given as goal

abbrev pub invariant-loop-i : goal.invariant-loop-i
invariant-loop-i l = Stands l.octets (8 * l.i) l.keys l.last × (drop l.last.count l.keys ≡ drop l.last.count l.initial.keys) × (length l.keys ≡ length l.initial.keys) × (l.base ≡ l.i * 524296)
