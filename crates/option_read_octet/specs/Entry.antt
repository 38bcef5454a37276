-- Document 02, wish 12: an entry of the table, and the rule that every entry keeps.
use Rattle.std.specs.Prelude.{◌≡◌, List, [], ◌∷◌, ℕ, ◌+◌, ◌*◌, ◌/◌, ◌%◌, ◌≤◌, take}
use Rattle.label.specs.declared.Run.{Run}
use Rattle.option.specs.Bitmap.{bit_at}
use Rattle.option.specs.Index.{set_runs}
use Rattle.label_keys.specs.Keys.{key_runs}

-- the run in an entry's lowest places, as a key: three bits of its high, and 16 bits above them three of its low
abbrev pub part_of : ℕ → ℕ
part_of e = e % 8 + e / 65536 % 8 * 65536

-- how many runs an entry has
abbrev pub count_in : ℕ → ℕ
count_in e = e / 268435456

-- the keys of an entry's runs, three bits from one to the next
abbrev pub parts_in : ℕ → List ℕ
parts_in e = take (count_in e) (part_of e ∷ part_of (e / 8) ∷ part_of (e / 64) ∷ part_of (e / 512) ∷ [])

-- the runs inside an octet, bit by bit
abbrev pub octet_runs : ℕ → List Run
octet_runs x = set_runs (bit_at (x ∷ [])) 8

-- the table's rule: the entry of an octet gives the runs inside it, at most four
pub record Right (x e : ℕ) : Type 0 where
  pub few : count_in e ≤ 4
  pub runs : key_runs (parts_in e) ≡ octet_runs x
