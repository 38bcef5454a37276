-- `option_read_numbers::number_keys` meets its contract.
use Prim.Native.Nat.{ℕ, ◌/◌, ◌<◌}
use mathlib.Core.Bool.{false}
use mathlib.Core.Path.{◌≡◌}
use lib.ListN.{length}
use Rattle.option.specs.Index.{range_runs, number_at, bad_number}
use Rattle.option_read_numbers.specs.Numbers.{whole}
use Rattle.option_read_numbers.proofs.Building.{Numbered}
use Rattle.option_read_numbers.proofs.number_keys.Given as goal

abbrev pub invariant-loop-k : goal.invariant-loop-k
invariant-loop-k l =
    (l.n ≡ length (whole l.octets) / 2) × (length l.keys ≡ length l.initial.keys) × ((j : ℕ) → j < l.k → bad_number (whole l.octets) j ≡ false) × Numbered l.initial.keys (range_runs (number_at (whole l.octets)) (number_at (whole l.octets)) l.k) l.keys l.count l.next
