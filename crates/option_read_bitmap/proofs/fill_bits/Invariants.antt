-- `option_read_bitmap::fill_bits` meets its contract. The invariant: the keys of the runs below category c are written, and what stands after them is as at entry.
use Prim.Native.Nat.{◌*◌}
use mathlib.Core.Path.{◌≡◌}
use lib.ListN.{drop, length}
use Rattle.option_read_bitmap.specs.Stages.{Stands}
use Rattle.option_read_bitmap.proofs.fill_bits.Given as goal

abbrev pub invariant-loop-c : goal.invariant-loop-c
invariant-loop-c l = Stands l.octets l.c l.keys l.last × (drop l.last.count l.keys ≡ drop l.last.count l.initial.keys) × (length l.keys ≡ length l.initial.keys) × (l.base ≡ l.c * 65537)
