-- Document 02, wish 12: what is proved of the table.
use Rattle.std.specs.Prelude.{◌≡◌, List, ℕ, ◌<◌, length, get_or}
use Rattle.option_read_octet.specs.Entry.{Right}

-- "The table's rule is shown once for all entries": one for each octet, and it gives the runs inside it
pub record Rule (table : List ℕ) : Type 0 where
  pub entries : length table ≡ 256
  pub each : (x : ℕ) → x < 256 → Right x (get_or table x 0)
