-- The format of a table says exactly the sound tables, with their level pairs and rows, that its version can say.
use mathlib.Core.Bool.{Bool, true, false, cond, not, ◌&&◌}
use mathlib.Core.List.{List, [], ◌∷◌, ◌++◌, map, append_assoc, append-nil}
use mathlib.Core.Path.{◌≡◌, refl, sym, ap, ◌∙◌}
use Prim.Native.Nat.{ℕ, zero, suc, ◌+◌, ◌-◌, ◌*◌, ◌≤◌}
use native.Mathlib.Omega.{arith}
use lib.Dec.{leb, eqb}
use lib.ListN.{length, get_or, take, drop, replicate, length-drop}
use lib.Seq.{length-take-le, take_at, drop_at, take_all}
use borrow.Author.Tests.{le-leb, leb-true, eq-eqb, ne_eqb, eqb-true}
use Rattle.label.proofs.Bools.{and_left, and_right}
use Rattle.table.specs.declared.Row.{Row}
use Rattle.table.specs.Table.{Lent, rows_from, row_numbers, target_end, rising, apart, apart_from_all, targets_apart, rows_sound, typed, table_sound}
use Rattle.table.specs.Renumbering.{levels_of, two_each, typed_pairs, LentTable, lent_of, lent_sound}
use Rattle.table.proofs.Lent.{numbers_length, numbers_rows, rows_numbers}
use Rattle.table.proofs.Sound as table
use Rattle.table_levels.specs.Levels.{pair, no_pair, levels_rise, unused_pairs, levels_sound, level_numbers}
use Rattle.file_format.specs.Format.{Sound, Each}
use Rattle.file_format.specs.Places.{padded}
use Rattle.file_format.proofs.Places.{padded_again, padded_length, padded_used}
use Rattle.table_levels.specs.declared.LevelPair.{LevelPair}
use Rattle.file_table.specs.TableFormat.{most_pairs, most_rows, pair_format, next_least, floor_of, row_format, with_row, TableFields, table_fields, table_format, lent_fields, fields_of, table_sayable}
use Rattle.file_table.specs.Theorems.{Says, SaidTable, TablesSaid}
use Rattle.file_table.proofs.Apart.{apart_last, floor_last}

-- Level pairs.

abbrev two : LevelPair → List ℕ
two p = p.levels

two_list : (l : List ℕ) → length l ≡ 2 → (get_or l 0 0 ∷ get_or l 1 0 ∷ []) ≡ l
two_list [] e = absurd (omega arith)
two_list (a ∷ []) e = absurd (omega arith)
two_list (a ∷ b ∷ []) e = refl
two_list (a ∷ b ∷ c ∷ l) e = absurd (omega arith)

pair_is : (p : LevelPair) → length p.levels ≡ 2 → pair (get_or p.levels 0 0) (get_or p.levels 1 0) ≡ p
pair_is p e = let q = two_list p.levels e in λ i. record { levels = q i }

pairs_each : (f g : ℕ) (ps : List LevelPair) → levels_rise f g (map two ps) ≡ true → level_numbers (map two ps) ≡ true → two_each ps ≡ true
    → Each (λ st a. Sound (pair_format st) a) next_least (f, g) ps
unfolding Sound pair_format
pairs_each f g [] e n t = tt
pairs_each f g (p ∷ ps) e n t =
    let e1 = and_right (leb f (get_or p.levels 0 0)) _ e in
    let n1 = and_right (leb (get_or p.levels 0 0) 255) _ n in
    let a : f ≤ get_or p.levels 0 0 = leb-true _ _ (and_left (leb f (get_or p.levels 0 0)) _ e) in
    let b : g ≤ get_or p.levels 1 0 = leb-true _ _ (and_left (leb g (get_or p.levels 1 0)) _ e1) in
    let c : get_or p.levels 0 0 ≤ 255 = leb-true _ _ (and_left (leb (get_or p.levels 0 0) 255) _ n) in
    let d : get_or p.levels 1 0 ≤ 255 = leb-true _ _ (and_left (leb (get_or p.levels 1 0) 255) _ n1) in
    let k : length p.levels ≡ 2 = eqb-true _ _ (and_left (eqb (length p.levels) 2) _ t) in (
      (((a, c, omega arith), (b, d, omega arith)), pair_is p k),
      pairs_each (get_or p.levels 0 0 + 1) (get_or p.levels 1 0 + 1) ps (and_right (leb g (get_or p.levels 1 0)) _ e1) (and_right (leb (get_or p.levels 1 0) 255) _ n1)
          (and_right (eqb (length p.levels) 2) _ t),
    )

record PairsSaid (f g : ℕ) (ps : List LevelPair) : Type 0 where
  rise : levels_rise f g (map two ps) ≡ true
  numbers : level_numbers (map two ps) ≡ true
  each : two_each ps ≡ true

two_said : (p : LevelPair) → pair (get_or p.levels 0 0) (get_or p.levels 1 0) ≡ p → length p.levels ≡ 2
two_said p e = let q : (get_or p.levels 0 0 ∷ get_or p.levels 1 0 ∷ []) ≡ p.levels = λ i. (e i).levels in sym (ap length q)

each_pairs : (f g : ℕ) (ps : List LevelPair) → Each (λ st a. Sound (pair_format st) a) next_least (f, g) ps → PairsSaid f g ps
unfolding Sound pair_format
each_pairs f g [] h = record { rise = refl; numbers = refl; each = refl }
each_pairs f g (p ∷ ps) h =
    let r = each_pairs (get_or p.levels 0 0 + 1) (get_or p.levels 1 0 + 1) ps h.1 in
    record {
      rise = rw (le-leb _ _ h.0.0.0.0, le-leb _ _ h.0.0.1.0) r.rise;
      numbers = rw (le-leb _ _ h.0.0.0.1, le-leb _ _ h.0.0.1.1) r.numbers;
      each = rw (eq-eqb _ _ (two_said p h.0.1)) r.each;
    }

-- Rows.

apart_prefix : (xs ys : List Row) → targets_apart (xs ++ ys) ≡ true → targets_apart xs ≡ true
apart_prefix [] ys e = refl
apart_prefix (x ∷ xs) ys e = rw (from_prefix x xs ys (and_left (apart_from_all x (xs ++ ys)) _ e)) (apart_prefix xs ys (and_right (apart_from_all x (xs ++ ys)) _ e))
  where
    from_prefix : (x : Row) (xs ys : List Row) → apart_from_all x (xs ++ ys) ≡ true → apart_from_all x xs ≡ true
    from_prefix x [] ys e = refl
    from_prefix x (y ∷ xs) ys e = rw (and_left (apart x y) _ e) (from_prefix x xs ys (and_right (apart x y) _ e))

rows_each : (before rs : List Row) → rising (floor_of 0 before) rs ≡ true → targets_apart (before ++ rs) ≡ true → Each (λ st a. Sound (row_format st) a) with_row before rs
unfolding Sound row_format
rows_each before [] e t = tt
rows_each before (r ∷ rs) e t =
    let e1 = and_right (leb (floor_of 0 before) r.low) _ e in
    let e2 = and_right (leb r.low r.high) _ e1 in
    let e3 = and_right (leb r.high 65534) _ e2 in
    let a : floor_of 0 before ≤ r.low = leb-true _ _ (and_left (leb (floor_of 0 before) r.low) _ e) in
    let b : r.low ≤ r.high = leb-true _ _ (and_left (leb r.low r.high) _ e1) in
    let c : r.high ≤ 65534 = leb-true _ _ (and_left (leb r.high 65534) _ e2) in
    let d : target_end r ≤ 65534 = leb-true _ _ (and_left (leb (target_end r) 65534) _ e3) in
    let s : (before ++ (r ∷ [])) ++ rs ≡ before ++ (r ∷ rs) = append_assoc before (r ∷ []) rs in
    let u : targets_apart ((before ++ (r ∷ [])) ++ rs) ≡ true = rw s t in
    let v : (targets_apart before && apart_from_all r before) ≡ true = sym (apart_last before r) ∙ apart_prefix (before ++ (r ∷ [])) rs u in
    let w : apart_from_all r before ≡ true = and_right (targets_apart before) _ v in
    let f : rising (floor_of 0 (before ++ (r ∷ []))) rs ≡ true = rw (floor_last 0 before r) (and_right (leb (target_end r) 65534) _ e3) in (
      (((a, omega arith, omega arith), ((b, c, omega arith), ((omega arith, omega arith, omega arith), w))), refl),
      rows_each (before ++ (r ∷ [])) rs f u,
    )

each_rows : (before rs : List Row) → Each (λ st a. Sound (row_format st) a) with_row before rs → targets_apart before ≡ true
    → (rising (floor_of 0 before) rs ≡ true) × (targets_apart (before ++ rs) ≡ true)
unfolding Sound row_format
each_rows before [] h t = (refl, rw append-nil t)
each_rows before (r ∷ rs) h t =
    let a : apart_from_all r before ≡ true = h.0.0.1.1.1 in
    let u : targets_apart (before ++ (r ∷ [])) ≡ true = rw (apart_last before r, t) a in
    let k = each_rows (before ++ (r ∷ [])) rs h.1 u in
    let f : rising (r.high + 1) rs ≡ true = rw (floor_last 0 before r) at k.0 in
    let s : (before ++ (r ∷ [])) ++ rs ≡ before ++ (r ∷ rs) = append_assoc before (r ∷ []) rs in
    let e : target_end r ≤ 65534 = omega (arith, h.0.0.1.1.0.1, h.0.0.1.0.0, h.0.0.1.0.1) in (
      rw (le-leb (floor_of 0 before) r.low h.0.0.0.0, le-leb r.low r.high h.0.0.1.0.0, le-leb r.high 65534 h.0.0.1.0.1, le-leb (target_end r) 65534 e) f,
      rw s at k.1,
    )

-- Places that are not in use.

pub unused_pairs_lem : (ps : List LevelPair) → unused_pairs (map two ps) ≡ true → two_each ps ≡ true → ps ≡ replicate (length ps) no_pair
unused_pairs_lem [] e t = refl
unused_pairs_lem (p ∷ ps) e t =
    let e1 = and_right (eqb (get_or p.levels 0 0) 0) _ e in
    let a : get_or p.levels 0 0 ≡ 0 = eqb-true _ _ (and_left (eqb (get_or p.levels 0 0) 0) _ e) in
    let b : get_or p.levels 1 0 ≡ 0 = eqb-true _ _ (and_left (eqb (get_or p.levels 1 0) 0) _ e1) in
    let k : length p.levels ≡ 2 = eqb-true _ _ (and_left (eqb (length p.levels) 2) _ t) in
    let q : p ≡ no_pair = sym (pair_is p k) ∙ (λ i. pair (a i) (b i)) in
    let r = unused_pairs_lem ps (and_right (eqb (get_or p.levels 1 0) 0) _ e1) (and_right (eqb (length p.levels) 2) _ t) in
    λ i. q i ∷ r i

zero_pairs : (n : ℕ) → unused_pairs (map two (replicate n no_pair)) ≡ true
zero_pairs zero = refl
zero_pairs (suc n) = zero_pairs n

two_zeros : (n : ℕ) → two_each (replicate n no_pair) ≡ true
two_zeros zero = refl
two_zeros (suc n) = two_zeros n

two_both : (ps qs : List LevelPair) → two_each ps ≡ true → two_each qs ≡ true → two_each (ps ++ qs) ≡ true
two_both [] qs a b = b
two_both (p ∷ ps) qs a b = rw (and_left (eqb (length p.levels) 2) _ a) (two_both ps qs (and_right (eqb (length p.levels) 2) _ a) b)

two_take : (n : ℕ) (ps : List LevelPair) → two_each ps ≡ true → two_each (take n ps) ≡ true
two_take zero ps a = refl
two_take (suc n) [] a = refl
two_take (suc n) (p ∷ ps) a = rw (and_left (eqb (length p.levels) 2) _ a) (two_take n ps (and_right (eqb (length p.levels) 2) _ a))

two_drop : (n : ℕ) (ps : List LevelPair) → two_each ps ≡ true → two_each (drop n ps) ≡ true
two_drop zero ps a = a
two_drop (suc n) [] a = refl
two_drop (suc n) (p ∷ ps) a = two_drop n ps (and_right (eqb (length p.levels) 2) _ a)

map_take : (n : ℕ) (ps : List LevelPair) → take n (map two ps) ≡ map two (take n ps)
map_take zero ps = refl
map_take (suc n) [] = refl
map_take (suc n) (p ∷ ps) = ap (λ (l : List (List ℕ)). p.levels ∷ l) (map_take n ps)

map_drop : (n : ℕ) (ps : List LevelPair) → drop n (map two ps) ≡ map two (drop n ps)
map_drop zero ps = refl
map_drop (suc n) [] = refl
map_drop (suc n) (p ∷ ps) = map_drop n ps

-- Tables.

pairs_most : (version : ℕ) → most_pairs version ≤ 256
pairs_most version = go (leb 2 version)
  where
    go : (b : Bool) → cond b 256 16 ≤ 256
    go true = omega arith
    go false = omega arith

rows_most : (version : ℕ) → most_rows version ≤ 1024
rows_most version = go (leb 2 version)
  where
    go : (b : Bool) → cond b 1024 64 ≤ 1024
    go true = omega arith
    go false = omega arith

some : (d : ℕ) → (d ≡ 0 → ⊥) → 1 ≤ d
some zero h = absurd (h refl)
some (suc d) h = omega arith

from_fits : (t : Lent) (ls : List (List ℕ)) → table_sound t ls ≡ true → t.from ≤ 4294967295
unfolding table_sound typed
from_fits t ls e =
    let e1 = and_right (not (eqb t.from 0)) _ e in
    let e2 = and_right (not (eqb t.to 0)) _ e1 in
    let e3 = and_right (leb t.pairs 256) _ e2 in
    let e4 = and_right (leb t.count 1024) _ e3 in
    let e5 = and_right (eqb (length t.rows) (t.count * 3)) _ e4 in
    let e6 = and_right (levels_sound ls t.pairs) _ e5 in
    leb-true _ _ (and_left (leb t.from 4294967295) _ (and_right (rows_sound t) _ e6))

module _ (version : ℕ) (x : LentTable) (ty : typed_pairs x.item ≡ true) (e : lent_sound x ≡ true) (sa : table_sayable version x ≡ true) where
  p : table.Sound (lent_of x) (levels_of x.item)
  p = table.sound (lent_of x) (levels_of x.item) e

  r : table.Rows (lent_of x)
  r = table.sound_rows (lent_of x) p.rows

  places : length x.item.levels ≡ 256
  unfolding typed_pairs
  places = eqb-true _ _ (and_left (eqb (length x.item.levels) 256) _ ty)

  twos : two_each x.item.levels ≡ true
  unfolding typed_pairs
  twos = and_right (eqb (length x.item.levels) 256) _ ty

  few_pairs : x.item.table.pairs ≤ most_pairs version
  unfolding table_sayable
  few_pairs = leb-true _ _ (and_left (leb x.item.table.pairs (most_pairs version)) _ sa)

  few_rows : x.item.table.count ≤ most_rows version
  unfolding table_sayable
  few_rows = leb-true _ _ (and_right (leb x.item.table.pairs (most_pairs version)) _ sa)

  pairs_there : length (take x.item.table.pairs x.item.levels) ≡ x.item.table.pairs
  pairs_there = length-take-le x.item.table.pairs x.item.levels (omega (arith, p.pairs_held, places))

  all_rows : take 1024 (rows_from x.rows) ≡ rows_from x.rows
  all_rows = take_all 1024 (rows_from x.rows) (omega (arith, p.counted, p.rows_held))

  rows_length : length (take 1024 (rows_from x.rows)) ≡ x.item.table.count
  rows_length = ap length all_rows ∙ p.counted

  levels_again : padded 256 no_pair (take x.item.table.pairs x.item.levels) ≡ x.item.levels
  levels_again =
      padded_again 256 x.item.table.pairs no_pair x.item.levels places p.pairs_held
      (unused_pairs_lem (drop x.item.table.pairs x.item.levels) (rw (map_drop x.item.table.pairs x.item.levels) at p.levels_rest) (two_drop x.item.table.pairs x.item.levels twos)
      ∙ ap (λ (k : ℕ). replicate k no_pair) (length-drop x.item.table.pairs x.item.levels))

  rows_again : row_numbers (take 1024 (rows_from x.rows)) ≡ x.rows
  rows_again = ap row_numbers all_rows ∙ rows_numbers x.rows x.item.table.count p.lent

  table_says : Says version x
  unfolding Sound table_format
  table_says =
      let rise : levels_rise 0 0 (map two (take x.item.table.pairs x.item.levels)) ≡ true = rw (map_take x.item.table.pairs x.item.levels) at p.levels in
      let numbers : level_numbers (map two (take x.item.table.pairs x.item.levels)) ≡ true = rw (map_take x.item.table.pairs x.item.levels) at p.level_numbers_held in
      let a = pairs_each 0 0 (take x.item.table.pairs x.item.levels) rise numbers (two_take x.item.table.pairs x.item.levels twos) in
      let ri : rising 0 (take 1024 (rows_from x.rows)) ≡ true = rw all_rows r.rise in
      let ra : targets_apart (take 1024 (rows_from x.rows)) ≡ true = rw all_rows r.apart in
      let b = rows_each [] (take 1024 (rows_from x.rows)) ri ra in
      let f : 1 ≤ x.item.table.from = some x.item.table.from p.from in
      let g : 1 ≤ x.item.table.to = some x.item.table.to p.to in
      let ff : x.item.table.from ≤ 4294967295 = from_fits (lent_of x) (levels_of x.item) e in
      let np : length (take x.item.table.pairs x.item.levels) ≤ most_pairs version = omega (arith, pairs_there, few_pairs) in
      let nr : length (take 1024 (rows_from x.rows)) ≤ most_rows version = omega (arith, rows_length, few_rows) in
      record {
        format = (
          (
            (f, ff, omega (arith, ff)),
            (
              (g, p.to_fits, omega (arith, p.to_fits)),
              ((a, np, omega (arith, np, pairs_most version)), (b, nr, omega (arith, nr, rows_most version))),
            ),
          ),
          refl,
        );
        again =
            λ i. record {
              item = record { table = record { from = x.item.table.from; to = x.item.table.to; pairs = pairs_there i; count = rows_length i }; levels = levels_again i };
              rows = rows_again i;
            };
      }

-- a table that is put together from sound parts
module _ (t : TableFields) (a : 1 ≤ t.from) (b : t.from ≤ 4294967295) (c : 1 ≤ t.to) (d : t.to ≤ 4294967295) (n : length t.pairs ≤ 256) (m : length t.rows ≤ 1024)
    (p : PairsSaid 0 0 t.pairs) (r : rising 0 t.rows ≡ true) (q : targets_apart t.rows ≡ true) where
  fields_sound_lem : lent_sound (lent_fields t) ≡ true
  unfolding table_sound typed levels_sound rows_sound
  fields_sound_lem =
      let us : List LevelPair = replicate (256 - length t.pairs) no_pair in
      let kt : take (length t.pairs) (map two (padded 256 no_pair t.pairs)) ≡ map two t.pairs = map_take (length t.pairs) (padded 256 no_pair t.pairs) ∙ ap (map two) (take_at t.pairs us (length t.pairs) refl) in
      let kd : drop (length t.pairs) (map two (padded 256 no_pair t.pairs)) ≡ map two (replicate (256 - length t.pairs) no_pair) =
      map_drop (length t.pairs) (padded 256 no_pair t.pairs) ∙ ap (map two) (drop_at t.pairs us (length t.pairs) refl) in
      rw (
        ne_eqb t.from 0 (λ z. omega arith),
        ne_eqb t.to 0 (λ z. omega arith),
        le-leb (length t.pairs) 256 n,
        le-leb (length t.rows) 1024 m,
        numbers_length t.rows,
        eq-eqb (length t.rows * 3) (length t.rows * 3) refl,
        kt,
        kd,
        p.rise,
        p.numbers,
        zero_pairs (256 - length t.pairs),
        numbers_rows t.rows,
        r,
        q,
        le-leb t.from 4294967295 b,
        le-leb t.to 4294967295 d,
      )

  fields_typed : typed_pairs (lent_fields t).item ≡ true
  unfolding typed_pairs
  fields_typed =
      rw (eq-eqb (length (padded 256 no_pair t.pairs)) 256 (padded_length 256 no_pair t.pairs n)) (two_both t.pairs (replicate (256 - length t.pairs) no_pair) p.each (two_zeros (256 - length t.pairs)))

  fields_again : fields_of (lent_fields t) ≡ t
  fields_again =
      let u : take (length t.pairs) (padded 256 no_pair t.pairs) ≡ t.pairs = padded_used 256 no_pair t.pairs in
      let v : take 1024 (rows_from (row_numbers t.rows)) ≡ t.rows = ap (take 1024) (numbers_rows t.rows) ∙ take_all 1024 t.rows m in
      λ i. table_fields t.from t.to (u i) (v i)

table_said : (version : ℕ) (t : TableFields) → Sound (table_format version) t → SaidTable version t
unfolding Sound table_format table_sayable
table_said version t h =
    let k = each_rows [] t.rows h.0.1.1.1.0 refl in
    let ps = each_pairs 0 0 t.pairs h.0.1.1.0.0 in
    let n : length t.pairs ≤ 256 = omega (arith, h.0.1.1.0.1, pairs_most version) in
    let m : length t.rows ≤ 1024 = omega (arith, h.0.1.1.1.1, rows_most version) in
    record {
      sound = fields_sound_lem t h.0.0.0 h.0.0.1 h.0.1.0.0 h.0.1.0.1 n m ps k.0 k.1;
      typed = fields_typed t h.0.0.0 h.0.0.1 h.0.1.0.0 h.0.1.0.1 n m ps k.0 k.1;
      sayable = rw (le-leb (length t.pairs) (most_pairs version) h.0.1.1.0.1, le-leb (length t.rows) (most_rows version) h.0.1.1.1.1);
      again = fields_again t h.0.0.0 h.0.0.1 h.0.1.0.0 h.0.1.0.1 n m ps k.0 k.1;
    }

pub tables_said : TablesSaid
tables_said = record { says = table_says; said = table_said }
