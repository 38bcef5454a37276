-- `option_read_numbers::pair_keys` meets its contract.
use Prim.Native.Nat.{◌-◌, ◌<◌}
use mathlib.Core.Path.{◌≡◌}
use lib.ListN.{length}
use Rattle.option_read_numbers.specs.Numbers.{whole}
use Rattle.option.specs.Index.{range_runs, pairs_of, low_pair, high_pair, bad_pair, bottom_at}
use Rattle.option_read_numbers.proofs.Building.{Stands}
use Rattle.option_read_numbers.proofs.Loops.{FirstFrom}
use Rattle.option_read_numbers.proofs.pair_keys.Given as goal

abbrev pub invariant-loop-j : goal.invariant-loop-j
invariant-loop-j l =
    (l.n ≡ pairs_of (whole l.octets)) × (length l.keys ≡ length l.initial.keys) × FirstFrom (bad_pair (whole l.octets)) l.n l.j l.bad × Stands l.initial.keys (range_runs (low_pair (whole l.octets)) (high_pair (whole l.octets)) (l.n - l.j)) l.keys l.last × (0 < l.j → l.bottom ≡ bottom_at (whole l.octets) (l.j - 1))
