-- What the private functions read.
use Rattle.std.specs.Prelude.{List, map, ◌≡◌, ℕ, ◌≤◌, length, take, Result, MatchResult}
use Rattle.table.specs.declared.Renumbering.{Renumbering}
use Rattle.table.specs.Renumbering.{no_renumbering}
use Rattle.file_format.specs.Format.{Format, got, bad, read_at}
use Rattle.file_format.specs.Places.{padded, Filled}
use Rattle.file_port.specs.PortFormat.{no_port}
use Rattle.file_table.specs.TableFormat.{TableFields, head_of}
use Rattle.file_set.specs.declared.Set.{Set}
use Rattle.file_read.specs.declared.TablesRead.{TablesRead}
use Rattle.file_read.specs.SetFormat.{rows_of}
use Rattle.file_read.specs.File.{file_format}

-- tables that were read one by one into their places, their rows at the head of a working list
pub record TablesTold (f : Format (List TableFields)) (s : List ℕ) (at : ℕ) (t : TablesRead) (at' : ℕ) (tables : List Renumbering) (work : List ℕ) : Type 0 where
  pub said : List TableFields
  pub reads : read_at f s at ≡ got said at'
  pub heads : tables ≡ padded 8 no_renumbering (map head_of said)
  pub counted : t.count ≡ length said
  pub held : length said ≤ 8
  pub numbers : t.used ≡ length (rows_of said)
  pub rows : take t.used work ≡ rows_of said
  pub few : t.used ≤ 24576

-- or the place to blame
abbrev pub ReadsTables : Format (List TableFields) → List ℕ → ℕ → List Renumbering → List ℕ → Result (TablesRead × ℕ) ℕ → Type 0
ReadsTables f s at tables work r = MatchResult r (λ p. TablesTold f s at p.0 p.1 tables work) (λ n. read_at f s at ≡ bad n)

-- all fields of a file that were read, its records in a set
pub record RecordsTold (s : List ℕ) (set : Set) (used at : ℕ) (work : List ℕ) : Type 0 where
  pub head : ℕ × ℕ
  pub said : List TableFields
  pub reads : read_at (file_format (length s)) s 0 ≡ got (head, (take set.portcount set.ports, said)) at
  pub filled : Filled 16 no_port set.portcount set.ports
  pub heads : set.tables ≡ padded 8 no_renumbering (map head_of said)
  pub counted : set.tablecount ≡ length said
  pub numbers : used ≡ length (rows_of said)
  pub rows : take used work ≡ rows_of said
  pub few : used ≤ 24576
