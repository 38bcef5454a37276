-- What the private functions answer. Nothing here is said by a public contract.
use Rattle.std.specs.Prelude.{ℕ, ◌*◌, ◌<◌, ◌≡◌, List, length, get_or}
use Rattle.std.specs.Int.Bits.{bit_or}
use Rattle.label.specs.declared.Run.{Run}
use Rattle.label.specs.Runs.{in_run}
use Rattle.option.specs.Spelling.{bits_of}

-- a run's bits are added to a bitmap
pub record RunAdded (r : Run) (out out' : List ℕ) : Type 0 where
  pub sized : length out' ≡ length out
  pub added : (j : ℕ) → j < length out → get_or out' j 0 ≡ bit_or (get_or out j 0) (bits_of (in_run r) (8 * j) 8)
