-- `file_table::fill_pairs` meets its contract.
use Prim.Native.Nat.{ℕ}
use mathlib.Core.List.{List}
use lib.ListN.{length, take}
use Rattle.file_format.specs.Format.{Found, read_at}
use Rattle.file_format.proofs.Loops.{Passed}
use Rattle.table_levels.specs.declared.LevelPair.{LevelPair}
use Rattle.file_table.specs.TableFormat.{pair_format, next_least}
use Rattle.file_table.proofs.fill_pairs.Given as goal

abbrev pub elements : List ℕ → ℕ × ℕ → ℕ → Found LevelPair
elements s least at = read_at (pair_format least) s at

abbrev pub invariant-loop-pair : goal.invariant-loop-pair
invariant-loop-pair l = Passed (elements l.octets) next_least (length l.initial.pairs) (0, 0) l.at (take l.pair-index l.pairs) l.pair-index (l.first, l.second) l.place
