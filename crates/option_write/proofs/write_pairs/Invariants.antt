-- `option_write::write_pairs` meets its contract.
use Prim.Native.Nat.{◌*◌}
use mathlib.Core.Path.{◌≡◌}
use mathlib.Core.List.{◌++◌}
use lib.ListN.{length, drop}
use Rattle.label_keys.specs.Keys.{key_runs}
use Rattle.option.specs.Index.{numbers_out, pair_number}
use Rattle.option_write.proofs.write_pairs.Given as goal

abbrev pub invariant-loop-j : goal.invariant-loop-j
invariant-loop-j l =
    (length l.out ≡ length l.initial.out) × (l.out ≡ numbers_out (pair_number (key_runs l.keys)) (2 * l.j) ++ drop (2 * (2 * l.j)) l.initial.out)
