-- The octets of a table, as its writer goes through them, and how many there are.
use mathlib.Core.Bool.{Bool, true, false, cond}
use mathlib.Core.List.{List, [], ◌∷◌, ◌++◌}
use mathlib.Core.Path.{◌≡◌, refl, sym, ap, ◌∙◌}
use Prim.Native.Nat.{ℕ, zero, suc, ◌+◌, ◌*◌, ◌/◌, ◌≤◌, ◌<◌}
use native.Mathlib.Omega.{arith}
use lib.Dec.{leb}
use lib.ListN.{length, take, length-append, length-take}
use lib.Seq.{length-take-le, take_all}
use borrow.Author.Tests.{leb-true, leb-false}
use Rattle.table.specs.declared.Row.{Row}
use Rattle.file_format.specs.Format.{digits, in_turn, octets}
use Rattle.file_format.specs.Laws.{flat}
use Rattle.file_format.proofs.Places.{used_is}
use Rattle.file_format.proofs.Writing.{flat_turn, flat_length}
use Rattle.table.specs.Table.{rows_from}
use Rattle.table.proofs.Lent.{rows_length}
use Rattle.table_levels.specs.declared.LevelPair.{LevelPair}
use Rattle.table.specs.declared.Renumbering.{Renumbering}
use Rattle.file_table.specs.TableFormat.{pair_format, next_least, row_format, with_row, TableFields, table_format, fields_of}
use Rattle.file_table.specs.Stages.{pair_octets, row_octets}
use Rattle.file_table.proofs.Rows.{rows_take}

pairs_octets : (st : ℕ × ℕ) (ps : List LevelPair) → in_turn (λ st p. octets (pair_format st) p) next_least st ps ≡ flat pair_octets ps
unfolding octets pair_format
pairs_octets st ps = flat_turn (λ st p. octets (pair_format st) p) next_least pair_octets (λ st p. refl) st ps

rows_octets : (st : List Row) (rs : List Row) → in_turn (λ st r. octets (row_format st) r) with_row st rs ≡ flat row_octets rs
unfolding octets row_format
rows_octets st rs = flat_turn (λ st r. octets (row_format st) r) with_row row_octets (λ st r. refl) st rs

-- rows are their numbers, one after the other
numbers_octets : (ns : List ℕ) (n : ℕ) → length ns ≡ n * 3 → flat (digits 2) ns ≡ flat row_octets (rows_from ns)
numbers_octets [] n h = refl
numbers_octets (a ∷ []) n h = absurd (omega arith)
numbers_octets (a ∷ b ∷ []) n h = absurd (omega arith)
numbers_octets (a ∷ b ∷ c ∷ ns) zero h = absurd (omega arith)
numbers_octets (a ∷ b ∷ c ∷ ns) (suc n) h = ap (λ (z : List ℕ). digits 2 a ++ (digits 2 b ++ (digits 2 c ++ z))) (numbers_octets ns n (omega arith))

all_octets : (version : ℕ) (t : TableFields)
    → octets (table_format version) t
    ≡ digits 4 t.from ++ (digits 4 t.to
    ++ ((digits 2 (length t.pairs) ++ in_turn (λ st p. octets (pair_format st) p) next_least (0, 0) t.pairs)
    ++ (digits 2 (length t.rows) ++ in_turn (λ st x. octets (row_format st) x) with_row [] t.rows)))
unfolding octets table_format
all_octets version t = refl

-- the rows in use of any list of numbers
rows_used : (rows : List ℕ) (m : ℕ) → m ≡ cond (leb (length rows / 3) 1024) (length rows / 3) 1024 → (take 1024 (rows_from rows) ≡ take m (rows_from rows)) × (length (take 1024 (rows_from rows)) ≡ m)
rows_used rows m e = go (leb (length rows / 3) 1024) refl e
  where
    l : length (rows_from rows) ≡ length rows / 3
    l = rows_length rows

    go : (t : Bool) → leb (length rows / 3) 1024 ≡ t → m ≡ cond t (length rows / 3) 1024 → (take 1024 (rows_from rows) ≡ take m (rows_from rows)) × (length (take 1024 (rows_from rows)) ≡ m)
    go true t e =
        let b : length rows / 3 ≤ 1024 = leb-true _ _ t in
        let u : take 1024 (rows_from rows) ≡ rows_from rows = take_all 1024 (rows_from rows) (omega (arith, l)) in
        let v : take m (rows_from rows) ≡ rows_from rows = take_all m (rows_from rows) (omega (arith, l)) in
        (u ∙ sym v, ap length u ∙ omega (arith, l))
    go false t e =
        let b : 1024 < length rows / 3 = leb-false _ _ t in
        (ap (λ (k : ℕ). take k (rows_from rows)) (sym e), length-take-le 1024 (rows_from rows) (omega (arith, l)) ∙ sym e)

module _ (r : Renumbering) (rows : List ℕ) (n m : ℕ) (l : length r.levels ≡ 256)
    (en : n ≡ cond (leb r.table.pairs 256) r.table.pairs 256) (em : m ≡ cond (leb (length rows / 3) 1024) (length rows / 3) 1024) where
  table_octets_lem : octets (table_format 3) (fields_of (record { item = r; rows = rows }))
      ≡ digits 4 r.table.from ++ (digits 4 r.table.to ++ ((digits 2 n ++ flat pair_octets (take n r.levels)) ++ (digits 2 m ++ flat row_octets (take m (rows_from rows)))))
  table_octets_lem =
      let u = used_is r.levels r.table.pairs n 256 l en in
      let v = rows_used rows m em in
      let u0 : take r.table.pairs r.levels ≡ take n r.levels = u.0 in
      let u1 : length (take r.table.pairs r.levels) ≡ n = u.1 in
      let v0 : take 1024 (rows_from rows) ≡ take m (rows_from rows) = v.0 in
      let v1 : length (take 1024 (rows_from rows)) ≡ m = v.1 in
      all_octets 3 (fields_of (record { item = r; rows = rows }))
      ∙ rw (pairs_octets (0, 0) (take r.table.pairs r.levels), rows_octets [] (take 1024 (rows_from rows)), u1, u0, v1, v0)

  pub rows_held : m * 3 ≤ length rows
  rows_held =
      let v = rows_used rows m em in
      let b : length (take m (rows_from rows)) ≡ m = rw v.0 at v.1 in
      omega (arith, b, length-take m (rows_from rows), rows_length rows)

  -- as the writer goes through it: the rows as numbers
  pub table_written : octets (table_format 3) (fields_of (record { item = r; rows = rows }))
      ≡ digits 4 r.table.from ++ (digits 4 r.table.to ++ ((digits 2 n ++ flat pair_octets (take n r.levels)) ++ (digits 2 m ++ flat (digits 2) (take (m * 3) rows))))
  table_written =
      let k : m * 3 ≤ length rows = rows_held in
      let e : flat (digits 2) (take (m * 3) rows) ≡ flat row_octets (take m (rows_from rows)) =
      numbers_octets (take (m * 3) rows) m (length-take-le (m * 3) rows k) ∙ ap (flat row_octets) (rows_take m rows)
      in
      rw e table_octets_lem

  pub table_length : length (octets (table_format 3) (fields_of (record { item = r; rows = rows }))) ≡ 12 + n * 2 + m * 6
  table_length =
      let u = used_is r.levels r.table.pairs n 256 l en in
      let v = rows_used rows m em in
      let a : length (take n r.levels) ≡ n = rw u.0 at u.1 in
      let b : length (take m (rows_from rows)) ≡ m = rw v.0 at v.1 in
      let f : length (flat pair_octets (take n r.levels)) ≡ length (take n r.levels) * 2 = flat_length pair_octets 2 (λ p. refl) (take n r.levels) in
      let g : length (flat row_octets (take m (rows_from rows))) ≡ length (take m (rows_from rows)) * 6 = flat_length row_octets 6 (λ p. refl) (take m (rows_from rows)) in
      rw table_octets_lem (omega (arith, length-append (flat pair_octets (take n r.levels)) (digits 2 m ++ flat row_octets (take m (rows_from rows))), f, g, a, b))
