-- What cutting octets into records means, and that it does not matter how the input was cut into pieces.
use Rattle.std.specs.Prelude.{ℕ, ◌+◌, ◌*◌, ◌≤◌, ◌≡◌, List, [], ◌++◌, length}
use Rattle.option.specs.Option.{Octets}
use Rattle.inspect_split.specs.Records.{whole_of, split_from, records_of, kept_of, followed, split_pieces, joined_pieces, printed_by, joined}

pub record Splits : Type 0 where
  -- the records as they stand in the input, and behind them what is kept, are the input; what is kept has no whole record in front
  pub same : (s : List ℕ) → Octets s → joined (records_of s) ++ kept_of s ≡ s
  pub kept : (s : List ℕ) → whole_of (kept_of s) ≡ 0
  -- and no other records and rest are: those that are written one after the other are found again
  pub found : (rs : List (List ℕ)) (k : List ℕ) → whole_of k ≡ 0 → (records_of (joined rs ++ k) ≡ rs) × (kept_of (joined rs ++ k) ≡ k)

pub record Cuts : Type 0 where
  -- two pieces
  pub two : (a b : List ℕ) → split_from [] (a ++ b) ≡ followed (split_from [] a) (split_from [] (kept_of a ++ b))
  -- any pieces, empty ones too
  pub any : (ps : List (List ℕ)) → split_pieces [] ps ≡ split_from [] (joined_pieces ps)
  -- so what is printed, the line of a cut-off record at the end too, is that of the input in one piece
  pub lines : (line : List ℕ → List ℕ) (broken : List ℕ) (ps : List (List ℕ)) → printed_by line broken (split_pieces [] ps) ≡ printed_by line broken (split_from [] (joined_pieces ps))

-- how much room the octets that are held want, and the lines of what is held
pub record Bounds : Type 0 where
  -- octets with no whole record in front are at most 65,536, and so is what is kept: a buffer for so many and a piece behind them takes every piece
  pub partial : (k : List ℕ) → Octets k → whole_of k ≡ 0 → length k ≤ 65536
  pub kept : (s : List ℕ) → Octets s → length (kept_of s) ≤ 65536
  -- of the records that end in a piece the first has an octet of it, and each other has two
  pub records : (held piece : List ℕ) → whole_of held ≡ 0 → 2 * length (records_of (held ++ piece)) ≤ length piece + 1
