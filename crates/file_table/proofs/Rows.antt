-- Rows that were read alone, and what that says of reading them with all their rules.
use mathlib.Core.Bool.{Bool, true, false, cond, ◌&&◌}
use mathlib.Core.List.{List, [], ◌∷◌, ◌++◌, append_assoc}
use mathlib.Core.Path.{◌≡◌, refl, sym, ap, ◌∙◌}
use Rattle.std.specs.Prelude.{Result, Ok, Err, OnOk}
use mathlib.Core.Logic.{◌⊎◌, inl, inr}
use Prim.Native.Nat.{ℕ, zero, suc, ◌+◌, ◌-◌, ◌*◌, ◌/◌, ◌≤◌, ◌<◌}
use native.Mathlib.Omega.{arith}
use lib.ListN.{length, take, set, length-append, length-set}
use lib.Seq.{take-append-le, take_all, take_at, take-take, length-take-le}
use lib.Dec.{leb}
use native.Mathlib.Numerals.{add-one}
use Rattle.lists.specs.Lists.{paint}
use Rattle.lists.proofs.Laws.{paint_none}
use Rattle.label.proofs.Bools.{and_left, and_right, less_or}
use Rattle.table.specs.declared.Row.{Row}
use Rattle.table.specs.Table.{row, rows_from, row_numbers, rising, apart_from_all, targets_apart, target_end, row_list_sound}
use Rattle.table.proofs.Lent.{rows_length, rows_numbers, list_whole}
use Rattle.table.proofs.Renumberings.{put_next}
use Rattle.file_format.specs.Format.{Found, got, bad, after, value_or, number_at, many_at, read_at, many, written, Writes}
use Rattle.file_format.proofs.Numbers.{number_within}
use Rattle.file_format.proofs.Loops.{Passed, begins, turns, refuses, ends}
use Rattle.file_format.specs.Places.{Filled}
use Rattle.table_levels.specs.declared.LevelPair.{LevelPair}
use Rattle.table_levels.specs.Levels.{no_pair}
use Rattle.table.specs.declared.Renumbering.{Renumbering}
use Rattle.file_table.specs.TableFormat.{floor_of, row_format, with_row, TableFields, table_fields, no_fields, table_format, head_of, found_table}
use Rattle.file_table.specs.Stages.{row_alone, ReadsRows, RowsAlone, kept_fields}
use Rattle.file_table.proofs.Apart.{apart_last, rising_last}

-- what is read with all rules, from what is read alone
pub row_ruled : (s : List ℕ) (at : ℕ) (before : List Row)
    → read_at (row_format before) s at ≡ after (read_at (row_alone (floor_of 0 before)) s at) (λ r n. cond (apart_from_all r before) (got r n) (bad (at + 4)))
unfolding read_at row_format row_alone
row_ruled s at before = low_found (number_at 2 (floor_of 0 before) 65535 s at) refl
  where
    tested : (low n high k t j : ℕ) → number_at 2 (floor_of 0 before) 65535 s at ≡ got low n → number_at 2 low 65534 s n ≡ got high k
        → number_at 2 0 (65534 - (high - low)) s k ≡ got t j → (b : Bool) → apart_from_all (row low high t) before ≡ b → read_at (row_format before) s at ≡ after (read_at (row_alone (floor_of 0 before)) s at) (λ r n. cond (apart_from_all r before) (got r n) (bad (at + 4)))
    tested low n high k t j e1 e2 e3 true e = rw (e1, e2, e3, e)
    tested low n high k t j e1 e2 e3 false e =
        let p : k ≡ at + 4 = omega (arith, (number_within 2 (floor_of 0 before) 65535 s at low n e1).place, (number_within 2 low 65534 s n high k e2).place) in
        rw (e1, e2, e3, e, p)

    target_found : (low n high k : ℕ) → number_at 2 (floor_of 0 before) 65535 s at ≡ got low n → number_at 2 low 65534 s n ≡ got high k
        → (x : Found ℕ) → number_at 2 0 (65534 - (high - low)) s k ≡ x → read_at (row_format before) s at ≡ after (read_at (row_alone (floor_of 0 before)) s at) (λ r n. cond (apart_from_all r before) (got r n) (bad (at + 4)))
    target_found low n high k e1 e2 (bad m) e = rw (e1, e2, e)
    target_found low n high k e1 e2 (got t j) e = tested low n high k t j e1 e2 e (apart_from_all (row low high t) before) refl

    high_found : (low n : ℕ) → number_at 2 (floor_of 0 before) 65535 s at ≡ got low n → (x : Found ℕ) → number_at 2 low 65534 s n ≡ x → read_at (row_format before) s at ≡ after (read_at (row_alone (floor_of 0 before)) s at) (λ r n. cond (apart_from_all r before) (got r n) (bad (at + 4)))
    high_found low n e1 (bad m) e = rw (e1, e)
    high_found low n e1 (got high k) e = target_found low n high k e1 e (number_at 2 0 (65534 - (high - low)) s k) refl

    low_found : (x : Found ℕ) → number_at 2 (floor_of 0 before) 65535 s at ≡ x → read_at (row_format before) s at ≡ after (read_at (row_alone (floor_of 0 before)) s at) (λ r n. cond (apart_from_all r before) (got r n) (bad (at + 4)))
    low_found (bad m) e = rw e
    low_found (got low n) e = high_found low n e (number_at 2 low 65534 s n) refl

-- what is known of a row that was read alone
pub record RowFound (floor : ℕ) (s : List ℕ) (at : ℕ) (r : Row) (m : ℕ) : Type 0 where
  pub from : floor ≤ r.low
  pub ordered : r.low ≤ r.high
  pub top : r.high ≤ 65534
  pub end : target_end r ≤ 65534
  pub place : m ≡ at + 6
  pub there : at + 6 ≤ length s

pub row_found : (floor : ℕ) (s : List ℕ) (at : ℕ) (r : Row) (m : ℕ) → read_at (row_alone floor) s at ≡ got r m → RowFound floor s at r m
unfolding read_at row_alone
row_found floor s at r m e = low_found (number_at 2 floor 65535 s at) refl
  where
    target_found : (low n high k : ℕ) → number_at 2 floor 65535 s at ≡ got low n → number_at 2 low 65534 s n ≡ got high k
        → (x : Found ℕ) → number_at 2 0 (65534 - (high - low)) s k ≡ x → RowFound floor s at r m
    target_found low n high k e1 e2 (bad j) e3 = absurd (let q : bad j ≡ got r m = rw (e1, e2, e3) at e in let z : ◌≡◌ {A = ℕ} 0 1 = cc in omega arith)
    target_found low n high k e1 e2 (got t j) e3 =
        let q : got (row low high t) j ≡ got r m = rw (e1, e2, e3) at e in
        let er : row low high t ≡ r = cc in
        let em : j ≡ m = cc in
        let a = number_within 2 floor 65535 s at low n e1 in
        let b = number_within 2 low 65534 s n high k e2 in
        let c = number_within 2 0 (65534 - (high - low)) s k t j e3 in
        rw (← er)
        (record {
          from = a.from;
          ordered = b.from;
          top = b.to;
          end = omega (arith, c.to, b.from, b.to);
          place = omega (arith, a.place, b.place, c.place);
          there = omega (arith, a.place, b.place, c.there);
        })

    high_found : (low n : ℕ) → number_at 2 floor 65535 s at ≡ got low n → (x : Found ℕ) → number_at 2 low 65534 s n ≡ x → RowFound floor s at r m
    high_found low n e1 (bad j) e2 = absurd (let q : bad j ≡ got r m = rw (e1, e2) at e in let z : ◌≡◌ {A = ℕ} 0 1 = cc in omega arith)
    high_found low n e1 (got high k) e2 = target_found low n high k e1 e2 (number_at 2 0 (65534 - (high - low)) s k) refl

    low_found : (x : Found ℕ) → number_at 2 floor 65535 s at ≡ x → RowFound floor s at r m
    low_found (bad j) e1 = absurd (let q : bad j ≡ got r m = rw e1 at e in let z : ◌≡◌ {A = ℕ} 0 1 = cc in omega arith)
    low_found (got low n) e1 = high_found low n e1 (number_at 2 low 65534 s n) refl

-- a row with all its rules, at its place after those before it
abbrev pub elements : List ℕ → List Row → ℕ → Found Row
elements s before at = read_at (row_format before) s at

-- i of n rows were read alone, `done`, and the loop stands at `at`
pub record RowsSeen (s : List ℕ) (n at₀ : ℕ) (done : List Row) (i at : ℕ) : Type 0 where
  pub size : length done ≡ i
  pub place : at ≡ at₀ + i * 6
  pub room : 0 < i → at₀ + i * 6 ≤ length s
  pub rises : rising 0 done ≡ true
  pub apart : targets_apart done ≡ true → Passed (elements s) with_row n [] at₀ done i done at
  pub meets : (j : ℕ) → j < i → targets_apart (take j done) ≡ true → targets_apart (take (suc j) done) ≡ false
      → many_at (elements s) with_row n [] at₀ ≡ bad (at₀ + j * 6 + 4)

pub seen_begins : (s : List ℕ) (n at : ℕ) → RowsSeen s n at [] 0 at
seen_begins s n at =
    record {
      size = refl;
      place = omega arith;
      room = λ h. absurd (omega arith);
      rises = refl;
      apart = λ h. begins (elements s) with_row n [] at;
      meets = λ j h a b. absurd (omega arith);
    }

module _ {s : List ℕ} {n at₀ : ℕ} {done : List Row} {i at : ℕ} (p : RowsSeen s n at₀ done i at) where
  ruled : (r : Row) (m : ℕ) (b : Bool) → read_at (row_alone (floor_of 0 done)) s at ≡ got r m → apart_from_all r done ≡ b → elements s done at ≡ cond b (got r m) (bad (at + 4))
  ruled r m b e q = row_ruled s at done ∙ rw (e, q)

  seen_apart : (r : Row) (m : ℕ) → i < n → read_at (row_alone (floor_of 0 done)) s at ≡ got r m → targets_apart (done ++ (r ∷ [])) ≡ true
      → Passed (elements s) with_row n [] at₀ (done ++ (r ∷ [])) (i + 1) (done ++ (r ∷ [])) m
  seen_apart r m h e a =
      let b : (targets_apart done && apart_from_all r done) ≡ true = rw (apart_last done r) at a in
      turns (elements s) with_row (p.apart (and_left (targets_apart done) _ b)) r m h (ruled r m true e (and_right (targets_apart done) _ b))

  seen_meets : (r : Row) (m : ℕ) → i < n → read_at (row_alone (floor_of 0 done)) s at ≡ got r m
      → (j : ℕ) → j < i + 1 → targets_apart (take j (done ++ (r ∷ []))) ≡ true → targets_apart (take (suc j) (done ++ (r ∷ []))) ≡ false
      → many_at (elements s) with_row n [] at₀ ≡ bad (at₀ + j * 6 + 4)
  seen_meets r m h e j k a b = go (less_or j i)
    where
      go : (j < i) ⊎ (i ≤ j) → many_at (elements s) with_row n [] at₀ ≡ bad (at₀ + j * 6 + 4)
      go (inl l) =
          let l1 : take j (done ++ (r ∷ [])) ≡ take j done = take-append-le j done (r ∷ []) (omega (arith, p.size)) in
          let l2 : take (suc j) (done ++ (r ∷ [])) ≡ take (suc j) done = take-append-le (suc j) done (r ∷ []) (omega (arith, p.size)) in
          p.meets j l (rw l1 at a) (rw l2 at b)
      go (inr l) =
          let ij : j ≡ i = omega arith in
          let le : j ≡ length done = ij ∙ sym p.size in
          let l1 : take j (done ++ (r ∷ [])) ≡ done = take_at done (r ∷ []) j (sym le) in
          let l2 : take (suc j) (done ++ (r ∷ [])) ≡ done ++ (r ∷ []) = take_all (suc j) (done ++ (r ∷ [])) (omega (arith, length-append done (r ∷ []))) in
          let a1 : targets_apart done ≡ true = rw l1 at a in
          let b1 : targets_apart (done ++ (r ∷ [])) ≡ false = rw l2 at b in
          let b2 : (targets_apart done && apart_from_all r done) ≡ false = rw (apart_last done r) at b1 in
          let b3 : apart_from_all r done ≡ false = rw a1 at b2 in
          let pl : at + 4 ≡ at₀ + j * 6 + 4 = omega (arith, p.place) in
          rw (← pl) (refuses (elements s) with_row (p.apart a1) (at + 4) h (ruled r m false e b3))

  pub seen_turns : (r : Row) (m : ℕ) → i < n → read_at (row_alone (floor_of 0 done)) s at ≡ got r m → RowsSeen s n at₀ (done ++ (r ∷ [])) (i + 1) m
  seen_turns r m h e =
      let f = row_found (floor_of 0 done) s at r m e in
      record {
        size = omega (arith, length-append done (r ∷ []), p.size);
        place = omega (arith, f.place, p.place);
        room = λ k. omega (arith, f.there, p.place);
        rises = rising_last 0 done r p.rises f.from f.ordered f.top f.end;
        apart = seen_apart r m h e;
        meets = seen_meets r m h e;
      }

  -- what the loop's end says of the whole
  rows_told : (end : Result ℕ ℕ) → (targets_apart done ≡ true → ReadsRows s at₀ n done end) → RowsAlone s at₀ n done end
  unfolding read_at
  rows_told end q =
      let e : length done ≡ i = p.size in
      record {
        rises = p.rises;
        room = rw (← e) at p.room;
        apart = q;
        meets = λ j k a b. p.meets j (omega (arith, p.size)) a b;
      }

  pub seen_refuses : (m : ℕ) → i < n → read_at (row_alone (floor_of 0 done)) s at ≡ bad m → RowsAlone s at₀ n done (Err m)
  unfolding read_at
  seen_refuses m k e = rows_told (Err m) (λ a. refuses (elements s) with_row (p.apart a) m k (row_ruled s at done ∙ rw e))

  pub seen_ends : n ≤ i → RowsAlone s at₀ n done (Ok at)
  unfolding read_at
  seen_ends k = rows_told (Ok at) (λ a. ends (elements s) with_row (p.apart a) k)

-- a table whose pairs were read into their places, and whose rows are counted
pub head_again : {p q : ℕ} {levels : List LevelPair} (from to : ℕ) (rows : List Row) → Filled 256 no_pair p levels → length rows ≡ q
    → ◌≡◌ {A = Renumbering} (head_of (table_fields from to (take p levels) rows)) (record { table = record { from = from; to = to; pairs = p; count = q }; levels = levels })
head_again from to rows f g = λ i. record { table = record { from = from; to = to; pairs = f.size i; count = g i }; levels = f.places i }

-- Rows that lie in a list of numbers.

three_taken : (n : ℕ) → ((zs : List ℕ) → rows_from (take (n * 3) zs) ≡ take n (rows_from zs)) → (ys : List ℕ) → rows_from (take (suc (suc (suc (n * 3)))) ys) ≡ take (suc n) (rows_from ys)
three_taken n h [] = refl
three_taken n h (a ∷ []) = refl
three_taken n h (a ∷ b ∷ []) = refl
three_taken n h (a ∷ b ∷ c ∷ ys) = ap (λ (z : List Row). row a b c ∷ z) (h ys)

pub rows_take : (n : ℕ) (xs : List ℕ) → rows_from (take (n * 3) xs) ≡ take n (rows_from xs)
rows_take zero xs = refl
rows_take (suc n) xs =
    let e : suc n * 3 ≡ suc (suc (suc (n * 3))) = omega arith in
    ap (λ (k : ℕ). rows_from (take k xs)) e ∙ three_taken n (λ zs. rows_take n zs) xs

rows_join : (xs : List ℕ) (n a b c : ℕ) → length xs ≡ n * 3 → rows_from (xs ++ (a ∷ b ∷ c ∷ [])) ≡ rows_from xs ++ (row a b c ∷ [])
rows_join [] n a b c h = refl
rows_join (x ∷ []) n a b c h = absurd (omega arith)
rows_join (x ∷ y ∷ []) n a b c h = absurd (omega arith)
rows_join (x ∷ y ∷ z ∷ xs) zero a b c h = absurd (omega arith)
rows_join (x ∷ y ∷ z ∷ xs) (suc n) a b c h = ap (λ (w : List Row). row x y z ∷ w) (rows_join xs n a b c (omega arith))

-- a row is put behind those that are there
pub rows_put : (l : List ℕ) (i a b c : ℕ) → i * 3 + 3 ≤ length l
    → take (i + 1) (rows_from (set (set (set l (i * 3) a) (i * 3 + 1) b) (i * 3 + 2) c)) ≡ take i (rows_from l) ++ (row a b c ∷ [])
rows_put l i a b c h =
    let l1 : List ℕ = set l (i * 3) a in
    let l2 : List ℕ = set (set l (i * 3) a) (i * 3 + 1) b in
    let l3 : List ℕ = set (set (set l (i * 3) a) (i * 3 + 1) b) (i * 3 + 2) c in
    let n1 : length (set l (i * 3) a) ≡ length l = length-set l (i * 3) a in
    let n2 : length (set (set l (i * 3) a) (i * 3 + 1) b) ≡ length l = length-set (set l (i * 3) a) (i * 3 + 1) b ∙ n1 in
    let p1 : take (i * 3 + 1) (set l (i * 3) a) ≡ take (i * 3) l ++ (a ∷ []) = put_next l (i * 3) a (omega arith) in
    let p2 : take (i * 3 + 1 + 1) (set (set l (i * 3) a) (i * 3 + 1) b) ≡ take (i * 3 + 1) (set l (i * 3) a) ++ (b ∷ []) = put_next l1 (i * 3 + 1) b (omega (arith, n1)) in
    let p3 : take (i * 3 + 2 + 1) (set (set (set l (i * 3) a) (i * 3 + 1) b) (i * 3 + 2) c) ≡ take (i * 3 + 2) (set (set l (i * 3) a) (i * 3 + 1) b) ++ (c ∷ []) = put_next l2 (i * 3 + 2) c (omega (arith, n2)) in
    let e2 : i * 3 + 2 ≡ i * 3 + 1 + 1 = omega arith in
    let e3 : (i + 1) * 3 ≡ i * 3 + 2 + 1 = omega arith in
    let q2 : take (i * 3 + 2) (set (set l (i * 3) a) (i * 3 + 1) b) ≡ (take (i * 3) l ++ (a ∷ [])) ++ (b ∷ []) =
    ap (λ (k : ℕ). take k l2) e2 ∙ p2 ∙ ap (λ (z : List ℕ). z ++ (b ∷ [])) p1 in
    let q3 : take ((i + 1) * 3) (set (set (set l (i * 3) a) (i * 3 + 1) b) (i * 3 + 2) c) ≡ ((take (i * 3) l ++ (a ∷ [])) ++ (b ∷ [])) ++ (c ∷ []) =
    ap (λ (k : ℕ). take k l3) e3 ∙ p3 ∙ ap (λ (z : List ℕ). z ++ (c ∷ [])) q2 in
    let q4 : ((take (i * 3) l ++ (a ∷ [])) ++ (b ∷ [])) ++ (c ∷ []) ≡ take (i * 3) l ++ (a ∷ b ∷ c ∷ []) =
    append_assoc (take (i * 3) l ++ (a ∷ [])) (b ∷ []) (c ∷ []) ∙ append_assoc (take (i * 3) l) (a ∷ []) (b ∷ c ∷ []) in
    sym (rows_take (i + 1) l3)
    ∙ ap rows_from (q3 ∙ q4)
    ∙ rows_join (take (i * 3) l) i a b c (length-take-le (i * 3) l (omega arith))
    ∙ ap (λ (z : List Row). z ++ (row a b c ∷ [])) (rows_take i l)

pub rows_there : (n : ℕ) (xs : List ℕ) → n * 3 ≤ length xs → length (take n (rows_from xs)) ≡ n
rows_there n xs h = length-take-le n (rows_from xs) (let e : length (rows_from xs) ≡ length xs / 3 = rows_length xs in omega arith)

-- rows that rise are sound by themselves exactly when their targets are apart
pub apart_list : (n : ℕ) (xs : List ℕ) → n ≤ 1024 → n * 3 ≤ length xs → rising 0 (take n (rows_from xs)) ≡ true → row_list_sound (take (n * 3) xs) ≡ targets_apart (take n (rows_from xs))
apart_list n xs h k r =
    let l : length (take (n * 3) xs) ≡ n * 3 = length-take-le (n * 3) xs k in
    let e : rows_from (take (n * 3) xs) ≡ take n (rows_from xs) = rows_take n xs in
    sym (list_whole (take (n * 3) xs) (targets_apart (take n (rows_from xs))) (omega (arith, l)) (omega (arith, l)) (rw (e, r)))

-- the rows that stand at the head of a list of numbers, as numbers
pub numbers_head : (n : ℕ) (xs : List ℕ) → n * 3 ≤ length xs → row_numbers (take n (rows_from xs)) ≡ take (n * 3) xs
numbers_head n xs k = ap row_numbers (sym (rows_take n xs)) ∙ rows_numbers (take (n * 3) xs) n (length-take-le (n * 3) xs k)

-- where targets meet, the first row that meets one before it is blamed
pub meets_answer : {s : List ℕ} {at count : ℕ} {end : Result ℕ ℕ} (c j : ℕ) (xs : List Row) → RowsAlone s at count (take c xs) end → length (take c xs) ≡ c → j < c
    → targets_apart (take j xs) ≡ true → targets_apart (take (j + 1) xs) ≡ false → read_at (many row_format with_row count []) s at ≡ bad (at + j * 6 + 4)
meets_answer c j xs r l b t0 t1 =
    let a : take j (take c xs) ≡ take j xs = take-take j c xs (omega arith) in
    let d : take (suc j) (take c xs) ≡ take (suc j) xs = take-take (suc j) c xs (omega arith) in
    r.meets j (omega (arith, l)) (rw a t0) (rw d (rw (add-one j) at t1))

-- where they are apart, what was found stands
module _ (s : List ℕ) (at count c : ℕ) where
  pub apart_answer : (end : Result ℕ ℕ) (xs : List Row) → ReadsRows s at count (take c xs) end → OnOk end (c ≡ count) → ReadsRows s at count (take count xs) end
  apart_answer (Ok m) xs r e = rw e at r
  apart_answer (Err m) xs r e = r

none_written : (at : ℕ) (out : List ℕ) → out ≡ written at [] out
none_written at out = go (leb (at + 0) (length out))
  where
    go : (b : Bool) → out ≡ cond b (paint at [] out) out
    go true = sym (paint_none at out)
    go false = refl

module _ (version : ℕ) (s : List ℕ) (at : ℕ) (rows : List ℕ) (place : ℕ) where
  -- a table that was refused
  pub table_refused : (n : ℕ) → read_at (table_format version) s at ≡ bad n
      → (rows ≡ written place (row_numbers (found_table version s at).rows) rows) × (length (found_table version s at).rows ≤ 1024)
  table_refused n e =
      let v : found_table version s at ≡ no_fields = ap (value_or no_fields) e in
      (rw v (none_written place rows), rw v (omega arith))

  -- and one that was read
  pub record TableRead (r : Renumbering) (n : ℕ) (rows' : List ℕ) : Type 0 where
    pub read : read_at (table_format version) s at ≡ got (found_table version s at) n
    pub table : r ≡ head_of (found_table version s at)
    pub rows_after : rows' ≡ written place (row_numbers (found_table version s at).rows) rows
    pub few : length (found_table version s at).rows ≤ 1024

  pub table_read : {n nxt : ℕ} {r : Renumbering} {rows' : List ℕ} (kept : List ℕ) → read_at (table_format version) s at ≡ got (kept_fields kept r) n
      → Filled 256 no_pair r.table.pairs r.levels → r.table.count ≤ 1024 → r.table.count * 3 ≤ length kept → Writes place (take (r.table.count * 3) kept) rows rows' nxt
      → TableRead r n rows'
  table_read {n} {nxt} {r} {rows'} kept e fl few l w =
      let q = r.table.count in
      let v : found_table version s at ≡ kept_fields kept r = ap (value_or no_fields) e in
      let c : length (take q (rows_from kept)) ≡ q = rows_there q kept l in
      record {
        read = e ∙ ap (λ (x : TableFields). got x n) (sym v);
        table = sym (head_again r.table.from r.table.to (take q (rows_from kept)) fl c) ∙ ap head_of (sym v);
        rows_after = w.buffer ∙ ap (λ (z : List ℕ). written place z rows) (sym (numbers_head q kept l)) ∙ ap (λ (t : TableFields). written place (row_numbers t.rows) rows) (sym v);
        few = rw v (omega (arith, c));
      }
