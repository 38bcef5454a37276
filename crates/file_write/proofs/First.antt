-- How long a file of version 1 is at most: 26,837 octets.
use mathlib.Core.Bool.{Bool, true, false, cond, ◌&&◌}
use mathlib.Core.List.{List, [], ◌∷◌, ◌++◌, map}
use mathlib.Core.Path.{◌≡◌, refl}
use Prim.Native.Nat.{ℕ, zero, suc, ◌+◌, ◌*◌, ◌≤◌}
use native.Mathlib.Omega.{arith}
use lib.Dec.{leb}
use lib.ListN.{length, take, length-append, length-take}
use borrow.Author.Tests.{leb-true}
use Rattle.label.proofs.Bools.{and_left, and_right}
use Rattle.label.specs.declared.Label.{Label}
use Rattle.port.specs.declared.Port.{Port}
use Rattle.port.specs.Port.{port_sound}
use Rattle.table.specs.Table.{rows_from}
use Rattle.table.specs.Renumbering.{levels_of, LentTable, lent_of, lent_sound}
use Rattle.table.proofs.Sound.{sound}
use Rattle.table_choose.specs.Tables.{tables_from, all_tables_sound}
use Rattle.file_format.specs.Format.{digits, in_turn, octets, alike, same}
use Rattle.file_format.specs.Laws.{flat}
use Rattle.file_format.specs.Places.{places_fit}
use Rattle.file_format.proofs.Writing.{flat_turn, flat_length}
use Rattle.file_port.specs.LabelFormat.{label_format}
use Rattle.file_port.specs.PortFormat.{port_format, first_port, plain_format, plain_of}
use Rattle.file_port.proofs.LabelLaws.{label_length, plain_octets}
use Rattle.file_port.proofs.Soundness.{places}
use Rattle.file_table.specs.TableFormat.{TableFields, table_format, pair_format, next_least, row_format, with_row, fields_of}
use Rattle.file_table.specs.Stages.{pair_octets, row_octets}
use Rattle.file_set.specs.declared.Set.{Set}
use Rattle.file_set.specs.Set.{used_port, unused_port, set_sound}
use Rattle.file_read.specs.SetFormat.{records_of}
use Rattle.file_read.specs.File.{total_of}
use Rattle.file_read.proofs.Sets.{parts}
use Rattle.file_write.specs.Theorems.{all_small}
use Rattle.file_write.proofs.Sizes.{tables_length, all_octets}

-- Ports.

capped : (n : ℕ) → cond (leb n 120) n 120 ≤ 120
capped n = go (leb n 120) refl
  where
    go : (b : Bool) → leb n 120 ≡ b → cond b n 120 ≤ 120
    go true e = leb-true n 120 e
    go false e = omega arith

label_most : (domain : ℕ) (l : Label) → length l.runs ≡ 120 → length (octets (label_format domain) l) ≤ 486
label_most domain l h = omega (arith, label_length domain l h, capped l.count)

plain_port_lem : (p : Port) → octets (port_format 1) p ≡ octets plain_format (plain_of p)
unfolding octets port_format first_port
plain_port_lem p = refl

port_most : (p : Port) → used_port p ≡ true → length (octets (port_format 1) p) ≤ 1463
unfolding used_port
port_most p e =
    let n = places p (and_right (port_sound p) _ e) in
    rw (plain_port_lem p, plain_octets p)
    (simp length-append
    (omega (arith, label_most p.domain p.lowest n.lowest, label_most p.domain p.highest n.highest, label_most (cond p.required 0 p.domain) p.assigned n.assigned)))

abbrev ports_turn : List Port → List ℕ
ports_turn ps = in_turn (λ st p. octets (alike (port_format 1) st) p) same 0 ps

ports_most : (n : ℕ) (ps : List Port) → places_fit used_port unused_port n ps ≡ true → length (ports_turn (take n ps)) ≤ n * 1463
ports_most zero ps e = omega arith
ports_most (suc n) [] e = omega arith
ports_most (suc n) (p ∷ ps) e =
    let a : length (octets (port_format 1) p) ≤ 1463 = port_most p (and_left (used_port p) _ e) in
    let b : length (ports_turn (take n ps)) ≤ n * 1463 = ports_most n ps (and_right (used_port p) _ e) in
    omega (arith, length-append (octets (port_format 1) p) (ports_turn (take n ps)))

-- Tables.

table_length : (t : TableFields) → length (octets (table_format 1) t) ≡ 12 + length t.pairs * 2 + length t.rows * 6
unfolding octets table_format pair_format row_format
table_length t =
    let f : length (flat pair_octets t.pairs) ≡ length t.pairs * 2 = flat_length pair_octets 2 (λ p. refl) t.pairs in
    let g : length (flat row_octets t.rows) ≡ length t.rows * 6 = flat_length row_octets 6 (λ p. refl) t.rows in
    rw (
      flat_turn (λ st p. octets (pair_format st) p) next_least pair_octets (λ st p. refl) (0, 0) t.pairs,
      flat_turn (λ st r. octets (row_format st) r) with_row row_octets (λ st r. refl) [] t.rows,
    )
    (omega (arith, length-append (flat pair_octets t.pairs) (digits 2 (length t.rows) ++ flat row_octets t.rows), f, g))

table_most : (x : LentTable) → lent_sound x ≡ true → (leb x.item.table.pairs 16 && leb x.item.table.count 64) ≡ true → length (octets (table_format 1) (fields_of x)) ≤ 428
table_most x e h =
    let t = sound (lent_of x) (levels_of x.item) e in
    let a : x.item.table.pairs ≤ 16 = leb-true _ _ (and_left (leb x.item.table.pairs 16) _ h) in
    let b : x.item.table.count ≤ 64 = leb-true _ _ (and_right (leb x.item.table.pairs 16) _ h) in
    let c : length (rows_from x.rows) ≡ x.item.table.count = t.counted in
    omega (arith, table_length (fields_of x), length-take x.item.table.pairs x.item.levels, length-take 1024 (rows_from x.rows))

abbrev tables_turn : List LentTable → List ℕ
tables_turn xs = in_turn (λ st t. octets (alike (table_format 1) st) t) same 0 (map fields_of xs)

tables_most : (xs : List LentTable) → all_tables_sound xs ≡ true → all_small xs ≡ true → length (tables_turn xs) ≤ length xs * 428
tables_most [] e h = omega arith
tables_most (x ∷ xs) e h =
    let s : Bool = leb x.item.table.pairs 16 && leb x.item.table.count 64 in
    let a : length (octets (table_format 1) (fields_of x)) ≤ 428 = table_most x (and_left (lent_sound x) _ e) (and_left s _ h) in
    let b : length (tables_turn xs) ≤ length xs * 428 = tables_most xs (and_right (lent_sound x) _ e) (and_right s _ h) in
    omega (arith, length-append (octets (table_format 1) (fields_of x)) (tables_turn xs))

-- The whole.

pub small_first : (s : Set) (rows : List ℕ) → set_sound s rows ≡ true → all_small (tables_from (take s.tablecount s.tables) rows) ≡ true → total_of 1 s rows ≤ 26837
small_first s rows e h =
    let p = parts s rows e in
    let a : length (ports_turn (take s.portcount s.ports)) ≤ s.portcount * 1463 = ports_most s.portcount s.ports p.ports in
    let xs : List LentTable = tables_from (take s.tablecount s.tables) rows in
    let b : length (tables_turn (tables_from (take s.tablecount s.tables) rows)) ≤ length (tables_from (take s.tablecount s.tables) rows) * 428 = tables_most xs p.tables_sound_held h in
    let n : length (tables_from (take s.tablecount s.tables) rows) ≤ 8 =
    omega (arith, tables_length (take s.tablecount s.tables) rows, length-take s.tablecount s.tables, p.tables_held) in
    let m : s.portcount ≤ 16 = p.ports_held in
    rw (all_octets 1 s rows)
    (omega (
      arith,
      length-append (ports_turn (take s.portcount s.ports)) (digits 1 (length (records_of s rows).1) ++ tables_turn (tables_from (take s.tablecount s.tables) rows)),
    ))
