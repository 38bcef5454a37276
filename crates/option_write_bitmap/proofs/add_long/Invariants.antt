-- `option_write_bitmap::add_long` meets its contract.
use Prim.Native.Nat.{◌+◌, ◌-◌, ◌*◌, ◌/◌, ◌^◌, ◌≤◌}
use mathlib.Core.Path.{◌≡◌}
use Rattle.label.specs.Runs.{run}
use Rattle.option_write_bitmap.proofs.Octets.{Adding}
use Rattle.option_write_bitmap.proofs.add_long.Given as goal

abbrev pub invariant-loop-o : goal.invariant-loop-o
invariant-loop-o l =
    (l.low ≤ 8 * l.o + 7) × (8 * l.o ≤ l.high) × (l.ones ≡ 255 / 2 ^ (l.low - 8 * l.o)) × Adding (run l.low l.high) l.o l.initial.out l.out
