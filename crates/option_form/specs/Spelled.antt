-- Of a spelling, or of none: how long it is, and whether it is lacking.
use Rattle.std.specs.Prelude.{ℕ, Bool, true, false, List, length}
use Rattle.std.proofs.Math.Option.{Option, none, some}

abbrev pub length_of : Option (List ℕ) → ℕ
length_of none = 0
length_of (some s) = length s

abbrev pub lacking : Option (List ℕ) → Bool
lacking none = true
lacking (some s) = false
