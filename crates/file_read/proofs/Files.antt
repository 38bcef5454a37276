-- How the reader of a file comes to its answer, and to what the room holds.
use mathlib.Core.Bool.{false}
use mathlib.Core.List.{List, map}
use mathlib.Core.Path.{◌≡◌, refl, sym, ◌∙◌}
use Prim.Native.Nat.{ℕ, ◌+◌, ◌≤◌, ◌<◌}
use native.Mathlib.Omega.{arith}
use lib.Dec.{leb}
use lib.ListN.{length, take}
use borrow.Author.Tests.{le-leb, lt-leb, eq-eqb, ne_eqb}
use Rattle.port.specs.declared.Port.{Port}
use Rattle.table.specs.declared.Renumbering.{Renumbering}
use Rattle.table.specs.Renumbering.{no_renumbering}
use Rattle.file_format.specs.Format.{got, bad, one, two, number, value_at, read_at, written}
use Rattle.file_format.specs.Laws.{Octets}
use Rattle.file_format.specs.Places.{padded, Filled}
use Rattle.file_format.proofs.Numbers.{value_below, number_under}
use Rattle.file_port.specs.PortFormat.{no_port}
use Rattle.file_table.specs.TableFormat.{TableFields, head_of}
use Rattle.file_set.specs.declared.Set.{Set}
use Rattle.file_read.specs.declared.FileRead.{FileRead}
use Rattle.file_read.specs.SetFormat.{Records, ports_format, tables_format, set_format, rows_of}
use Rattle.file_read.specs.File.{most_octets, file_format, accepted, file_refused, outgrown, file_answer, file_reading, room_behind, file_room}

-- a length that two octets cannot say agrees with none
pub file_long : (s rows : List ℕ) (r : FileRead) → Octets s → 65535 < length s → r ≡ file_refused 0 → (r ≡ file_reading s (length rows)) × (rows ≡ file_room s rows)
unfolding file_reading file_answer file_format read_at file_room room_behind
file_long s rows r o h e =
    let b : value_at s 0 2 < 65536 = value_below s o 0 2 in
    let n = number_under s 0 2 (length s) (length s) (omega arith) (omega arith) in
    (e ∙ rw n, rw n)

-- the fields one after the other
pub records_read : (s : List ℕ) (x version n₁ n₂ n₃ n₄ : ℕ) (ps : List Port) (said : List TableFields) → read_at (number two (length s) (length s)) s 0 ≡ got x n₁
    → read_at (number one 1 3) s n₁ ≡ got version n₂ → length s ≤ most_octets version → read_at (ports_format version) s n₂ ≡ got ps n₃ → read_at (tables_format version) s n₃ ≡ got said n₄
    → read_at (file_format (length s)) s 0 ≡ got ((x, version), (ps, said)) n₄
unfolding read_at file_format set_format
records_read s x version n₁ n₂ n₃ n₄ ps said e₁ e₂ h e₃ e₄ = rw (e₁, e₂, le-leb (length s) (most_octets version) h, e₃, e₄) refl

module _ (s rows : List ℕ) (r : FileRead) where
  -- a field was bad
  pub file_stops : (any at : ℕ) → read_at (file_format (length s)) s 0 ≡ bad at → r ≡ file_answer (length s) any (bad at) → (r ≡ file_reading s (length rows)) × (rows ≡ file_room s rows)
  unfolding file_reading file_answer file_room room_behind
  file_stops any at g e = (e ∙ rw g refl, rw g refl)

  module _ (v : (ℕ × ℕ) × Records) (at : ℕ) (g : read_at (file_format (length s)) s 0 ≡ got v at) where
    pub file_goes_on : (at ≡ length s → ⊥) → r ≡ file_refused at → (r ≡ file_reading s (length rows)) × (rows ≡ file_room s rows)
    unfolding file_reading file_answer file_room room_behind
    file_goes_on n e = (e ∙ rw (g, ne_eqb at (length s) n) refl, rw (g, ne_eqb at (length s) n) refl)

    pub file_outgrows : at ≡ length s → length rows < length (rows_of v.1.1) → r ≡ outgrown → (r ≡ file_reading s (length rows)) × (rows ≡ file_room s rows)
    unfolding file_reading file_answer file_room room_behind
    file_outgrows n l e =
        let w : leb (0 + length (rows_of v.1.1)) (length rows) ≡ false = lt-leb (0 + length (rows_of v.1.1)) (length rows) (omega arith) in
        (e ∙ rw (g, eq-eqb at (length s) n, lt-leb (length (rows_of v.1.1)) (length rows) l) refl, rw (g, eq-eqb at (length s) n, w) refl)

    pub file_ends : at ≡ length s → length (rows_of v.1.1) ≤ length rows → r ≡ accepted v.1 → (numbers rows' : List ℕ) → numbers ≡ rows_of v.1.1 → rows' ≡ written 0 numbers rows
        → (r ≡ file_reading s (length rows)) × (rows' ≡ file_room s rows)
    unfolding file_reading file_answer file_room room_behind
    file_ends n l e numbers rows' q w =
        (e ∙ rw (g, eq-eqb at (length s) n, le-leb (length (rows_of v.1.1)) (length rows) l) refl, w ∙ rw (q, g, eq-eqb at (length s) n) refl)

-- a set whose records were read into their places
pub set_again : {u : ℕ} (set : Set) (said : List TableFields) → Filled 16 no_port set.portcount set.ports → set.tables ≡ padded 8 no_renumbering (map head_of said) → set.tablecount ≡ length said
    → u ≡ length (rows_of said) → ◌≡◌ {A = FileRead} (record { verdict = 0; at = 0; used = u; set = set }) (accepted (take set.portcount set.ports, said))
set_again set said f g h k = λ i. record { verdict = 0; at = 0; used = k i; set = record { portcount = sym f.size i; ports = sym f.places i; tablecount = h i; tables = g i } }
