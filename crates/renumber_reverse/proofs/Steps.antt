-- Laws of the loops that turn rows and level pairs round: the row that a turn reads, and what one more write does.
use mathlib.Core.Path.{◌≡◌, refl, sym, ◌∙◌, ap}
use mathlib.Core.List.{List, [], ◌∷◌, ◌++◌, map, map-append, append_assoc}
use Prim.Native.Nat.{ℕ, zero, suc, ◌+◌, ◌-◌, ◌*◌, ◌%◌, ◌≤◌, ◌<◌}
use native.Mathlib.Omega.{arith}
use native.Mathlib.Numerals.{add-one}
use lib.ListN.{length, take, drop, get_or, set, replicate, length-map, length-append, length-drop, length-replicate}
use lib.Seq.{set_at, length-take-le}
use Rattle.label.proofs.Steps.{next}
use Rattle.table.specs.declared.Row.{Row}
use Rattle.table.specs.Table.{no_row, row_numbers}
use Rattle.table.specs.Order.{in_order}
use Rattle.table.proofs.Order.{Turn, order_turn}
use Rattle.renumber_reverse.specs.Reverse.{turned_row, turned_pair, turned_levels}
use Rattle.renumber_reverse.specs.Stages.{InOrder}
use Rattle.renumber_reverse.proofs.Rows.{Fine, fine, is_fine, test_at, order_fine}
use Rattle.table.proofs.Lent.{numbers_length}

-- The row that a turn reads.
module _ (rs : List Row) (n : ℕ) (order : List ℕ) (o : InOrder rs n order) where
  module _ (i : ℕ) (h : i < n) where
    here : Turn rs i (get_or order i 0)
    here = order_turn rs n order i (omega (arith, o.counted, o.held)) o.rise o.along (sym o.counted) h

    pub row_next : drop i (in_order rs) ≡ get_or rs (get_or order i 0 % 65536) no_row ∷ drop (i + 1) (in_order rs)
    row_next = here.next

    pub row_fine : Fine (get_or rs (get_or order i 0 % 65536) no_row)
    row_fine = is_fine _ (test_at fine (in_order rs) i _ _ (order_fine rs (omega (arith, o.counted, o.held)) o.rise) row_next)

-- One element more.
take_next : {A : Type 0} (xs : List A) (i : ℕ) (x : A) (ts : List A) → drop i xs ≡ x ∷ ts → take (suc i) xs ≡ take i xs ++ (x ∷ [])
take_next [] zero x ts e = absurd (let z : ◌≡◌ {A = ℕ} 0 (suc (length ts)) = ap length e in omega arith)
take_next [] (suc i) x ts e = absurd (let z : ◌≡◌ {A = ℕ} 0 (suc (length ts)) = ap length e in omega arith)
take_next {A} (y ∷ xs) zero x ts e = let z : y ≡ x = cc in ap (λ (w : A). w ∷ []) z
take_next {A} (y ∷ xs) (suc i) x ts e = ap (λ (w : List A). y ∷ w) (take_next xs i x ts e)

inside : {A : Type 0} (xs : List A) (i : ℕ) (x : A) (ts : List A) → drop i xs ≡ x ∷ ts → i ≤ length xs
inside xs i x ts e = let z : length xs - i ≡ suc (length ts) = sym (length-drop i xs) ∙ ap length e in omega arith

put_one : {A : Type 0} (ys zs : List A) (n : ℕ) (a d : A) → length ys ≡ n → n < length zs → set (ys ++ drop n zs) n a ≡ (ys ++ (a ∷ [])) ++ drop (n + 1) zs
put_one {A} ys zs n a d e h =
    ap (λ (z : List A). set (ys ++ z) n a) (next d zs n h)
    ∙ set_at ys (get_or zs n d) (drop (n + 1) zs) a n e
    ∙ sym (append_assoc ys (a ∷ []) (drop (n + 1) zs))

pub map_next : {A B : Type 0} (f : A → B) (xs : List A) (zs : List B) (i : ℕ) (x : A) (ts : List A) (d : B) → drop i xs ≡ x ∷ ts → i < length zs
    → set (map f (take i xs) ++ drop i zs) i (f x) ≡ map f (take (i + 1) xs) ++ drop (i + 1) zs
map_next {A} {B} f xs zs i x ts d e h =
    let n : length (map f (take i xs)) ≡ i = length-map (take i xs) f ∙ length-take-le i xs (inside xs i x ts e) in
    let t : map f (take (i + 1) xs) ≡ map f (take i xs) ++ (f x ∷ []) = rw (add-one i, take_next xs i x ts e) (map-append f (take i xs) (x ∷ [])) in
    put_one (map f (take i xs)) zs i (f x) d n h ∙ sym (ap (λ (l : List B). l ++ drop (i + 1) zs) t)

-- A lent list takes one row more.
numbers_snoc : (rs : List Row) (r : Row) → row_numbers (rs ++ (r ∷ [])) ≡ row_numbers rs ++ (r.low ∷ r.high ∷ r.target ∷ [])
numbers_snoc [] r = refl
numbers_snoc (s ∷ rs) r = rw (numbers_snoc rs r)

put_three : (ys zs : List ℕ) (n a b c : ℕ) → length ys ≡ n → n + 3 ≤ length zs
    → set (set (set (ys ++ drop n zs) n a) (n + 1) b) (n + 2) c ≡ (ys ++ (a ∷ b ∷ c ∷ [])) ++ drop (n + 3) zs
put_three ys zs n a b c e h =
    let u : List ℕ = ys ++ (a ∷ []) in
    let v : List ℕ = u ++ (b ∷ []) in
    let lu : length u ≡ n + 1 = length-append ys (a ∷ []) ∙ omega (arith, e) in
    let lv : length v ≡ n + 2 = length-append u (b ∷ []) ∙ omega (arith, lu) in
    let p1 : set (ys ++ drop n zs) n a ≡ u ++ drop (n + 1) zs = put_one ys zs n a 0 e (omega arith) in
    let n2 : n + 1 + 1 ≡ n + 2 = omega arith in
    let n3 : n + 2 + 1 ≡ n + 3 = omega arith in
    let p2 : set (u ++ drop (n + 1) zs) (n + 1) b ≡ v ++ drop (n + 2) zs = put_one u zs (n + 1) b 0 lu (omega arith) ∙ ap (λ (k : ℕ). v ++ drop k zs) n2 in
    let p3 : set (v ++ drop (n + 2) zs) (n + 2) c ≡ (v ++ (c ∷ [])) ++ drop (n + 3) zs = put_one v zs (n + 2) c 0 lv (omega arith) ∙ ap (λ (k : ℕ). (v ++ (c ∷ [])) ++ drop k zs) n3 in
    let w : v ++ (c ∷ []) ≡ ys ++ (a ∷ b ∷ c ∷ []) = append_assoc u (b ∷ []) (c ∷ []) ∙ append_assoc ys (a ∷ []) (b ∷ c ∷ []) in
    ap (λ (z : List ℕ). set (set z (n + 1) b) (n + 2) c) p1
    ∙ ap (λ (z : List ℕ). set z (n + 2) c) p2
    ∙ p3
    ∙ ap (λ (z : List ℕ). z ++ drop (n + 3) zs) w

abbrev pub part_rows : List Row → List ℕ → ℕ → List ℕ
part_rows xs was i = row_numbers (map turned_row (take i xs)) ++ drop (i * 3) was

part_next : (xs : List Row) (was : List ℕ) (i : ℕ) (r : Row) (ts : List Row) → drop i xs ≡ r ∷ ts → i * 3 + 3 ≤ length was
    → set (set (set (part_rows xs was i) (i * 3) (turned_row r).low) (i * 3 + 1) (turned_row r).high) (i * 3 + 2) (turned_row r).target ≡ part_rows xs was (i + 1)
part_next xs was i r ts e h =
    let ys : List ℕ = row_numbers (map turned_row (take i xs)) in
    let n : length ys ≡ i * 3 =
    numbers_length (map turned_row (take i xs)) ∙ ap (λ (k : ℕ). k * 3) (length-map (take i xs) turned_row ∙ length-take-le i xs (inside xs i r ts e)) in
    let m : i * 3 + 3 ≡ (i + 1) * 3 = omega arith in
    let t : row_numbers (map turned_row (take (i + 1) xs)) ≡ ys ++ ((turned_row r).low ∷ (turned_row r).high ∷ (turned_row r).target ∷ []) =
    rw (add-one i, take_next xs i r ts e, map-append turned_row (take i xs) (r ∷ [])) (numbers_snoc (map turned_row (take i xs)) (turned_row r)) in
    put_three ys was (i * 3) (turned_row r).low (turned_row r).high (turned_row r).target n h
    ∙ (λ j. sym t j ++ drop (m j) was)

pub rows_next : (xs : List Row) (was rows : List ℕ) (i : ℕ) (r x : Row) (ts : List Row) → rows ≡ part_rows xs was i → drop i xs ≡ r ∷ ts → x ≡ turned_row r → i * 3 + 3 ≤ length was
    → set (set (set rows (i * 3) x.low) (i * 3 + 1) x.high) (i * 3 + 2) x.target ≡ part_rows xs was (i + 1)
rows_next xs was rows i r x ts e n q h =
    (λ j. set (set (set (e j) (i * 3) (q j).low) (i * 3 + 1) (q j).high) (i * 3 + 2) (q j).target) ∙ part_next xs was i r ts n h

-- Level pairs.
abbrev pub no_pairs : List (List ℕ)
no_pairs = replicate 256 (0 ∷ 0 ∷ [])

abbrev pub part_levels : List (List ℕ) → ℕ → List (List ℕ)
part_levels ls i = turned_levels (take i ls) ++ drop i no_pairs

pub levels_next : (ls out : List (List ℕ)) (i : ℕ) → out ≡ part_levels ls i → i < length ls → i < 256 → set out i (turned_pair (get_or ls i [])) ≡ part_levels ls (i + 1)
levels_next ls out i e h k =
    let l : i < length no_pairs = rw (length-replicate {A = List ℕ} 256 (0 ∷ 0 ∷ [])) k in
    ap (λ (z : List (List ℕ)). set z i (turned_pair (get_or ls i []))) e
    ∙ map_next turned_pair ls no_pairs i (get_or ls i []) (drop (i + 1) ls) [] (next [] ls i h) l
