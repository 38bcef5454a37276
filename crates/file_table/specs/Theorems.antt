-- The house file: a table has octets in a file of a version, and is read back, exactly when it is sound with the rows that are lent for it and keeps to the version's limits.
use Rattle.std.specs.Prelude.{true, ◌≡◌, ℕ}
use Rattle.table.specs.Renumbering.{LentTable, lent_sound, typed_pairs}
use Rattle.file_format.specs.Format.{Sound}
use Rattle.file_table.specs.TableFormat.{TableFields, table_format, lent_fields, fields_of, table_sayable}

-- what is said of a table that is sound and typed
pub record Says (version : ℕ) (x : LentTable) : Type 0 where
  pub format : Sound (table_format version) (fields_of x)
  pub again : lent_fields (fields_of x) ≡ x

-- what fields that a format says come to
pub record SaidTable (version : ℕ) (t : TableFields) : Type 0 where
  pub sound : lent_sound (lent_fields t) ≡ true
  pub typed : typed_pairs (lent_fields t).item ≡ true
  pub sayable : table_sayable version (lent_fields t) ≡ true
  pub again : fields_of (lent_fields t) ≡ t

pub record TablesSaid : Type 0 where
  pub says : (version : ℕ) (x : LentTable) → typed_pairs x.item ≡ true → lent_sound x ≡ true → table_sayable version x ≡ true → Says version x
  pub said : (version : ℕ) (t : TableFields) → Sound (table_format version) t → SaidTable version t
