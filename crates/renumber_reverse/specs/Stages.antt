-- What the private functions suppose; no public contract names these.
use Rattle.std.specs.Prelude.{true, List, ◌≡◌, ℕ, ◌≤◌, length, take}
use Rattle.table.specs.declared.Row.{Row}
use Rattle.table.specs.Table.{rising}
use Rattle.table.specs.Order.{row_order}

-- the n rows were checked, and the list has their order
pub record InOrder (rs : List Row) (n : ℕ) (order : List ℕ) : Type 0 where
  pub rise : rising 0 rs ≡ true
  pub held : n ≤ 1024
  pub counted : length rs ≡ n
  pub long : n ≤ length order
  pub along : take n order ≡ row_order rs
