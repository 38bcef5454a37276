-- Tables that are read one by one, their rows into a working list.
use mathlib.Core.List.{List, [], ◌∷◌, ◌++◌, map, append_assoc}
use mathlib.Core.Path.{◌≡◌, refl, sym, ap, subst, ◌∙◌}
use Prim.Native.Nat.{ℕ, ◌+◌, ◌*◌, ◌≤◌, ◌<◌}
use native.Mathlib.Omega.{arith}
use lib.ListN.{length, take, drop, set, replicate, length-append}
use lib.Seq.{take_at, length-take-le}
use borrow.Author.Tests.{le-leb}
use Rattle.lists.specs.Lists.{paint}
use Rattle.table.specs.declared.Renumbering.{Renumbering}
use Rattle.table.specs.Table.{row_numbers}
use Rattle.table.specs.Renumbering.{no_renumbering}
use Rattle.table.proofs.Lent.{numbers_length}
use Rattle.file_format.specs.Format.{Found, got, bad, read_at, written, number, one, many, alike, same}
use Rattle.file_format.proofs.Loops.{Passed, begins, turns, refuses, ends}
use Rattle.file_format.proofs.Places.{Held, held_none, held_more}
use Rattle.file_format.proofs.Writing.{flat_snoc}
use Rattle.file_table.specs.TableFormat.{TableFields, table_format, head_of}
use Rattle.std.specs.Prelude.{Result, Ok, Err}
use Rattle.file_read.specs.declared.TablesRead.{TablesRead}
use Rattle.file_read.specs.SetFormat.{tables_format, rows_of}
use Rattle.file_read.specs.Stages.{TablesTold, ReadsTables}

abbrev pub elements : ℕ → List ℕ → ℕ → ℕ → Found TableFields
elements version s st at = read_at (alike (table_format version) st) s at

-- numbers that are written behind those at the head of a list
written_behind : (used : ℕ) (xs ys work : List ℕ) → take used work ≡ xs → used ≡ length xs → used + length ys ≤ length work → take (used + length ys) (written used ys work) ≡ xs ++ ys
written_behind used xs ys work t n h =
    let w : written used ys work ≡ paint used ys work = rw (le-leb (used + length ys) (length work) h) in
    let a : paint used ys work ≡ (take used work ++ ys) ++ drop (used + length ys) work = sym (append_assoc (take used work) ys (drop (used + length ys) work)) in
    let l : length (take used work ++ ys) ≡ used + length ys = length-append (take used work) ys ∙ ap (λ (k : ℕ). k + length ys) (length-take-le used work (omega arith)) in
    ap (take (used + length ys)) (w ∙ a) ∙ take_at (take used work ++ ys) (drop (used + length ys) work) (used + length ys) l ∙ ap (λ (z : List ℕ). z ++ ys) t

map_snoc : (ts : List TableFields) (t : TableFields) → map head_of (ts ++ (t ∷ [])) ≡ map head_of ts ++ (head_of t ∷ [])
map_snoc [] t = refl
map_snoc (x ∷ ts) t = ap (λ (z : List Renumbering). head_of x ∷ z) (map_snoc ts t)

-- i of `count` tables are read, and the loop stands at `at`
pub record Kept (version : ℕ) (s : List ℕ) (count at₀ i at used : ℕ) (tables : List Renumbering) (work : List ℕ) : Type 0 where
  pub done : List TableFields
  pub passed : Passed (elements version s) same count 0 at₀ done i 0 at
  pub held : Held 8 no_renumbering i tables (map head_of done)
  pub numbers : used ≡ length (rows_of done)
  pub bound : used ≤ i * 3072
  pub rows : take used work ≡ rows_of done

pub kept_begins : (version : ℕ) (s : List ℕ) (count at : ℕ) (work : List ℕ) → Kept version s count at 0 at 0 (replicate 8 no_renumbering) work
kept_begins version s count at work =
    record { done = []; passed = begins (elements version s) same count 0 at; held = held_none 8 no_renumbering; numbers = refl; bound = omega arith; rows = refl }

module _ {version : ℕ} {s : List ℕ} {count at₀ i at used : ℕ} {tables : List Renumbering} {work : List ℕ} (k : Kept version s count at₀ i at used tables work) where
  pub kept_turns : (t : TableFields) (m : ℕ) (r : Renumbering) (work' : List ℕ) → i < count → count ≤ 8 → 24576 ≤ length work → read_at (table_format version) s at ≡ got t m → r ≡ head_of t
      → work' ≡ written used (row_numbers t.rows) work → length t.rows ≤ 1024 → Kept version s count at₀ (i + 1) m (used + r.table.count * 3) (set tables i r) work'
  kept_turns t m r work' h c l e q w few =
      let n : length (row_numbers t.rows) ≡ length t.rows * 3 = numbers_length t.rows in
      let rc : r.table.count ≡ length t.rows = ap (λ (x : Renumbering). x.table.count) q in
      let u : used + r.table.count * 3 ≡ used + length (row_numbers t.rows) = omega arith in
      let o : rows_of (k.done ++ (t ∷ [])) ≡ rows_of k.done ++ row_numbers t.rows = flat_snoc (λ (x : TableFields). row_numbers x.rows) k.done t in
      let b : used + length (row_numbers t.rows) ≤ length work = omega (arith, k.bound) in
      record {
        done = k.done ++ (t ∷ []);
        passed = turns (elements version s) same k.passed t m h e;
        held =
            subst (λ (z : List Renumbering). Held 8 no_renumbering (i + 1) (set tables i r) z) (sym (map_snoc k.done t))
            (rw q (held_more (head_of t) k.held (omega arith)));
        numbers = u ∙ ap (λ (z : ℕ). z + length (row_numbers t.rows)) k.numbers ∙ sym (length-append (rows_of k.done) (row_numbers t.rows)) ∙ ap length (sym o);
        bound = omega (arith, k.bound);
        rows = ap (λ (z : ℕ). take z work') u ∙ ap (take (used + length (row_numbers t.rows))) w ∙ written_behind used (rows_of k.done) (row_numbers t.rows) work k.rows k.numbers b ∙ sym o;
      }

  pub kept_refuses : (m : ℕ) → i < count → read_at (table_format version) s at ≡ bad m → read_at (many (alike (table_format version)) same count 0) s at₀ ≡ bad m
  unfolding read_at
  kept_refuses m c q = refuses (elements version s) same k.passed m c q

  pub kept_ends : count ≤ i → i ≤ 8 → TablesTold (many (alike (table_format version)) same count 0) s at₀ (record { count = i; used = used }) at tables work
  unfolding read_at
  kept_ends c b =
      record {
        said = k.done;
        reads = ends (elements version s) same k.passed c;
        heads = k.held.places;
        counted = sym k.passed.size;
        held = omega (arith, k.passed.size);
        numbers = k.numbers;
        rows = k.rows;
        few = omega (arith, k.bound);
      }

module _ (version n : ℕ) (s : List ℕ) (at at₁ : ℕ) (tables : List Renumbering) (work : List ℕ) (e : read_at (number one 0 8) s at ≡ got n at₁) where
  pub tables_counted : (r : Result (TablesRead × ℕ) ℕ) → ReadsTables (many (alike (table_format version)) same n 0) s at₁ tables work r → ReadsTables (tables_format version) s at tables work r
  unfolding tables_format read_at
  tables_counted (Ok p) t =
      record { said = t.said; reads = rw (e, t.reads) refl; heads = t.heads; counted = t.counted; held = t.held; numbers = t.numbers; rows = t.rows; few = t.few }
  tables_counted (Err m) t = rw (e, t) refl
