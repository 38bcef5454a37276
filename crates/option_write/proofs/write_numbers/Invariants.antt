-- `option_write::write_numbers` meets its contract. The loops' invariant: so many categories of the run that a turn has are written, and k in all.
use Prim.Native.Nat.{◌-◌, ◌*◌, ◌≤◌}
use mathlib.Core.Path.{◌≡◌}
use mathlib.Core.List.{◌++◌}
use lib.ListN.{length, drop}
use Rattle.label.specs.Runs.{count_of}
use Rattle.label_keys.specs.Keys.{key_runs}
use Rattle.option.specs.Spelling.{numbers_of}
use Rattle.option.specs.Index.{numbers_out, rank_number}
use Rattle.option_write.proofs.Numbers.{Written}
use Rattle.option_write.proofs.write_numbers.Given as goal

abbrev pub invariant-loop-key : goal.invariant-loop-key
invariant-loop-key l =
    (l.k ≤ count_of (key_runs l.keys)) × (length l.out ≡ length l.fn.out)
    × Written (numbers_of (key_runs l.keys)) (drop l.key-index (key_runs l.keys)) 0 l.k
    × (l.out ≡ numbers_out (rank_number (key_runs l.keys)) l.k ++ drop (2 * l.k) l.fn.out)

abbrev pub invariant-loop-x : goal.invariant-loop-x
invariant-loop-x l =
    (l.k ≤ count_of (key_runs l.keys)) × (length l.out ≡ length l.fn.out)
    × Written (numbers_of (key_runs l.keys)) (drop l.key-index (key_runs l.keys)) (l.x - l.low) l.k
    × (l.out ≡ numbers_out (rank_number (key_runs l.keys)) l.k ++ drop (2 * l.k) l.fn.out)
