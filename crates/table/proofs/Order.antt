-- Laws of the loops over rows: one row more is written down, or read along the order.
use mathlib.Core.Path.{◌≡◌, refl, sym, ◌∙◌, ap}
use mathlib.Core.Bool.{Bool, true, false, true≢false, not, ◌&&◌, and_comm, and-false, and-true}
use mathlib.Core.List.{List, [], ◌∷◌, ◌++◌, append_assoc}
use Prim.Native.Nat.{ℕ, zero, suc, ◌+◌, ◌*◌, ◌/◌, ◌%◌, ◌≤◌, ◌<◌}
use native.Mathlib.Omega.{arith}
use native.Mathlib.Numerals.{add-one}
use lib.Dec.{leb, ltb, eqb}
use lib.ListN.{length, take, drop, get_or, set, replicate, length-drop, length-map, get_or-map}
use lib.Seq.{take-suc, set_at, take_at, drop_at, take-length, length-take-le, get_or-take}
use borrow.Author.Tests.{le-leb, leb-true, ltb-true, lt-ltb, eqb-true, eq-eqb, ne_eqb}
use Rattle.label.proofs.Bools.{and_left, and_right, and_both}
use Rattle.label.proofs.Steps.{next}
use Rattle.lists_sort.specs.Order.{all, sort_keys}
use Rattle.lists_sort.proofs.Laws.{sort_length}
use Rattle.table.specs.declared.Row.{Row}
use Rattle.table.specs.declared.Table.{Table}
use Rattle.table.specs.Table.{Lent, lent, rows_from, targets_apart, no_row, target_end, rising, rows_sound, typed, bare_sound, table_sound}
use Rattle.table_levels.specs.Levels.{levels_sound, level_numbers, pairs_sound}
use Rattle.table.specs.Order.{order_keys, row_order, order_of, bare_order, row_at, in_order}
use Rattle.table.specs.Stages.{fields_sound, RowsRise}
use Rattle.table.proofs.Rows.{order_all, good}

-- A refusal writes nothing that is told.
pub refused : {rs : List Row} {was order : List ℕ} → rising 0 rs ≡ false → RowsRise rs false false was order
refused e = record {
  rise = sym e;
  ordered = λ w. absurd (true≢false (sym w));
  written = λ w. absurd (true≢false (sym w));
}

-- One row more is written down.
pub keys_length : (i : ℕ) (rs : List Row) → length (order_keys i rs) ≡ length rs
keys_length i [] = refl
keys_length i (r ∷ rs) = ap suc (keys_length (i + 1) rs)

keys_snoc : (i : ℕ) (rs : List Row) (r : Row) → order_keys i (rs ++ (r ∷ [])) ≡ order_keys i rs ++ ((r.target * 65536 + (i + length rs)) ∷ [])
keys_snoc i [] r = let e : i + 0 ≡ i = omega arith in rw e
keys_snoc i (s ∷ rs) r =
    let e : i + suc (length rs) ≡ i + 1 + length rs = omega arith in
    rw (keys_snoc (i + 1) rs r, e)

pub order_step : (rs : List Row) (was : List ℕ) (i : ℕ) → i < length rs → i < length was
    → set (order_keys 0 (take i rs) ++ drop i was) i ((get_or rs i no_row).target * 65536 + i) ≡ order_keys 0 (take (i + 1) rs) ++ drop (i + 1) was
order_step rs was i h l =
    let k : ℕ = (get_or rs i no_row).target * 65536 + i in
    let n : length (take i rs) ≡ i = length-take-le i rs (omega arith) in
    let m : length (order_keys 0 (take i rs)) ≡ i = keys_length 0 (take i rs) ∙ n in
    let z : 0 + length (take i rs) ≡ i = omega arith in
    rw (next 0 was i l)
    (set_at (order_keys 0 (take i rs)) (get_or was i 0) (drop (i + 1) was) k i m
    ∙ sym (rw (add-one i, take-suc rs i no_row h, keys_snoc 0 (take i rs) (get_or rs i no_row), z) (append_assoc (order_keys 0 (take i rs)) (k ∷ []) (drop (suc i) was))))

pub order_done : (rs : List Row) (was : List ℕ) (i : ℕ) → i ≡ length rs → order_keys 0 (take i rs) ++ drop i was ≡ order_keys 0 rs ++ drop (length rs) was
order_done rs was i e = rw (e, take-length rs)

-- The tests of one row, and the rest.
pub rise_parts : (f : ℕ) (r : Row) (rs : List Row)
    → rising f (r ∷ rs) ≡ ((leb f r.low && (leb r.low r.high && (leb r.high 65534 && leb (target_end r) 65534))) && rising (r.high + 1) rs)
rise_parts f r rs = go (leb f r.low) (leb r.low r.high) (leb r.high 65534) (leb (target_end r) 65534) (rising (r.high + 1) rs)
  where
    go : (a b c d e : Bool) → (a && (b && (c && (d && e)))) ≡ ((a && (b && (c && d))) && e)
    go false b c d e = refl
    go true false c d e = refl
    go true true false d e = refl
    go true true true d e = refl

-- A turn along the order: the row that is read is there, has an order and the number's target, and it is the next.
pub record Turn (rs : List Row) (i k : ℕ) : Type 0 where
  pub place : k % 65536 < length rs
  pub ordered : (row_at rs k).low ≤ (row_at rs k).high
  pub goal : (row_at rs k).target ≡ k / 65536
  pub next : drop i (in_order rs) ≡ row_at rs k ∷ drop (i + 1) (in_order rs)

row_ordered : (f : ℕ) (rs : List Row) (j : ℕ) (r : Row) (ts : List Row) → rising f rs ≡ true → drop j rs ≡ r ∷ ts → r.low ≤ r.high
row_ordered f [] zero r ts e q = absurd (let z : ◌≡◌ {A = ℕ} 0 (suc (length ts)) = ap length q in omega arith)
row_ordered f [] (suc j) r ts e q = absurd (let z : ◌≡◌ {A = ℕ} 0 (suc (length ts)) = ap length q in omega arith)
row_ordered f (s ∷ rs) zero r ts e q = let p : s ≡ r = cc in rw (← p) (good f s rs e).ordered
row_ordered f (s ∷ rs) (suc j) r ts e q = row_ordered (s.high + 1) rs j r ts (good f s rs e).rest q

all_at : (p : ℕ → Bool) (xs : List ℕ) (i : ℕ) → all p xs ≡ true → i < length xs → p (get_or xs i 0) ≡ true
all_at p [] i e h = absurd (omega arith)
all_at p (x ∷ xs) zero e h = and_left (p x) _ e
all_at p (x ∷ xs) (suc i) e h = all_at p xs i (and_right (p x) _ e) (omega arith)

pub order_length : (rs : List Row) → length (row_order rs) ≡ length rs
order_length rs = sort_length [] (order_keys 0 rs) ∙ omega (arith, keys_length 0 rs)

pub order_turn : (rs : List Row) (n : ℕ) (order : List ℕ) (i : ℕ) → length rs ≤ 65536 → rising 0 rs ≡ true → take n order ≡ row_order rs → n ≡ length rs → i < n
    → Turn rs i (get_or order i 0)
order_turn rs n order i h e w q l =
    let t : ℕ → Row → Bool = λ k r. ltb (k % 65536) (length rs) && (leb r.low r.high && eqb r.target (k / 65536)) in
    let g : all (λ k. t k (row_at rs k)) (row_order rs) ≡ true = order_all t rs h (λ j r ts b d.
    let s : length (drop j rs) ≡ suc (length ts) = ap length d in
    let m : j < length rs = omega (arith, length-drop j rs) in
    and_both (lt-ltb ((r.target * 65536 + j) % 65536) (length rs) (omega arith))
    (and_both (le-leb r.low r.high (row_ordered 0 rs j r ts e d)) (eq-eqb r.target ((r.target * 65536 + j) / 65536) (omega arith)))) in
    let k : ℕ = get_or (row_order rs) i 0 in
    let same : get_or order i 0 ≡ k = sym (get_or-take n order i 0 l) ∙ ap (λ (z : List ℕ). get_or z i 0) w in
    let long : i < length (row_order rs) = omega (arith, order_length rs) in
    let p : t k (row_at rs k) ≡ true = all_at (λ k. t k (row_at rs k)) (row_order rs) i g long in
    let q2 = and_right (ltb (k % 65536) (length rs)) _ p in
    let there : i < length (in_order rs) = rw length-map long in
    rw same
    (record {
      place = ltb-true _ _ (and_left (ltb (k % 65536) (length rs)) _ p);
      ordered = leb-true _ _ (and_left (leb (row_at rs k).low (row_at rs k).high) _ q2);
      goal = eqb-true _ _ (and_right (leb (row_at rs k).low (row_at rs k).high) _ q2);
      next = next (row_at rs 0) (in_order rs) i there ∙ ap (λ (z : Row). z ∷ drop (i + 1) (in_order rs)) (get_or-map (row_at rs) (row_order rs) i 0);
    })

-- the same as a loop over the first n of the list meets it
pub turn_read : (rs : List Row) (n : ℕ) (order : List ℕ) (i : ℕ)
    → (length rs ≡ n) × (n ≤ 1024) × (n ≤ length order) × (rising 0 rs ≡ true) × (take n order ≡ row_order rs) → i < length (take n order)
    → Turn rs i (get_or (take n order) i 0)
turn_read rs n order i q h =
    let l : i < n = omega (arith, length-take-le n order q.2) in
    rw (get_or-take n order i 0 l) (order_turn rs n order i (omega (arith, q.0, q.1)) q.3 q.4 (sym q.0) l)

-- The rows written down, and put in order.
module _ (rs : List Row) (n : ℕ) (was order : List ℕ) (q : length rs ≡ n) (w : order ≡ order_keys 0 rs ++ drop (length rs) was) where
  pub rows_placed : row_order rs ≡ order_keys 0 rs → order ≡ row_order rs ++ drop n was
  rows_placed e = w ∙ rw (e, q)

  module _ (s : List ℕ) (o : s ≡ sort_keys (take n order) ++ drop n order) where
    pub rows_sorted : s ≡ row_order rs ++ drop n was
    rows_sorted =
        let m : length (order_keys 0 rs) ≡ n = keys_length 0 rs ∙ q in
        let d : order ≡ order_keys 0 rs ++ drop n was = w ∙ rw q in
        o ∙ rw (d, take_at (order_keys 0 rs) (drop n was) n m, drop_at (order_keys 0 rs) (drop n was) n m)

    pub rows_front : take n s ≡ row_order rs
    rows_front = rw rows_sorted (take_at (row_order rs) (drop n was) n (order_length rs ∙ q))

-- The whole of a table's soundness, and the list that goes with it.
pub sound_bare : (t : Lent) (ls : List (List ℕ)) → table_sound t ls ≡ (pairs_sound ls t.pairs && bare_sound t)
unfolding table_sound bare_sound typed
sound_bare t ls =
    go (not (eqb t.from 0)) (not (eqb t.to 0)) (leb t.pairs 256) (leb t.count 1024) (eqb (length t.rows) (t.count * 3)) (levels_sound ls t.pairs) (rows_sound t) (leb t.from 4294967295)
    (leb t.to 4294967295) (level_numbers (take t.pairs ls))
  where
    ends : (e f x y n : Bool) → (e && (f && (x && (y && n)))) ≡ ((e && n) && (f && (x && y)))
    ends false f x y n = refl
    ends true f x y true = ap (λ (z : Bool). f && (x && z)) (and-true y)
    ends true false x y false = refl
    ends true true false y false = refl
    ends true true true false false = refl
    ends true true true true false = refl

    go : (a b c d h e f x y n : Bool) → (a && (b && (c && (d && (h && (e && (f && (x && (y && n))))))))) ≡ ((e && n) && (a && (b && (c && (d && (h && (f && (x && y))))))))
    go false b c d h e f x y n = sym (and-false (e && n))
    go true false c d h e f x y n = sym (and-false (e && n))
    go true true false d h e f x y n = sym (and-false (e && n))
    go true true true false h e f x y n = sym (and-false (e && n))
    go true true true true false e f x y n = sym (and-false (e && n))
    go true true true true true e f x y n = ends e f x y n

module _ (t : Table) (flat : List ℕ) where
  pub bare_parts : bare_sound (lent t flat) ≡ (fields_sound t (length flat) && rows_sound (lent t flat))
  unfolding bare_sound fields_sound
  bare_parts =
      go (not (eqb t.from 0)) (not (eqb t.to 0)) (leb t.pairs 256) (leb t.count 1024) (eqb (length flat) (t.count * 3)) (rows_sound (lent t flat))
      (leb t.from 4294967295 && leb t.to 4294967295)
    where
      go : (a b c d h f g : Bool) → (a && (b && (c && (d && (h && (f && g)))))) ≡ ((a && (b && (c && (d && (h && g))))) && f)
      go false b c d h f g = refl
      go true false c d h f g = refl
      go true true false d h f g = refl
      go true true true false h f g = refl
      go true true true true false f g = refl
      go true true true true true f g = and_comm f g

  pub fields_rest : (held : ℕ) → (t.from ≡ 0 → ⊥) → (t.to ≡ 0 → ⊥) → t.pairs ≤ 256 → t.count ≤ 1024 → t.from ≤ 4294967295 → t.to ≤ 4294967295
      → eqb held (t.count * 3) ≡ fields_sound t held
  unfolding fields_sound
  fields_rest held a b c d e f =
      sym
      (rw (ne_eqb t.from 0 a, ne_eqb t.to 0 b, le-leb t.pairs 256 c, le-leb t.count 1024 d, le-leb t.from 4294967295 e, le-leb t.to 4294967295 f)
      (and-true (eqb held (t.count * 3))))

  pub fields_held : fields_sound t (length flat) ≡ true → (t.count ≤ 1024) × (length flat ≡ t.count * 3)
  unfolding fields_sound
  fields_held e =
      let e1 = and_right (not (eqb t.from 0)) _ e in
      let e2 = and_right (not (eqb t.to 0)) _ e1 in
      let e3 = and_right (leb t.pairs 256) _ e2 in
      let e4 = and_right (leb t.count 1024) _ e3 in
      (leb-true _ _ (and_left (leb t.count 1024) _ e3), eqb-true _ _ (and_left (eqb (length flat) (t.count * 3)) _ e4))

  pub rows_unsound : (rising 0 (rows_from flat) && targets_apart (rows_from flat)) ≡ false → bare_sound (lent t flat) ≡ false
  unfolding rows_sound
  rows_unsound e = bare_parts ∙ rw e (and-false (fields_sound t (length flat)))

  pub both_sound : fields_sound t (length flat) ≡ true → (rising 0 (rows_from flat) && targets_apart (rows_from flat)) ≡ true → bare_sound (lent t flat) ≡ true
  unfolding rows_sound
  both_sound e f = bare_parts ∙ rw (e, f)

  -- the two tests before the rows
  pub tests_failed : (a b : Bool) → a ≡ fields_sound t (length flat) → (a && b) ≡ false → (bare_sound (lent t flat) && b) ≡ false
  tests_failed a b p e = rw (bare_parts, ← p) (go a b (rows_sound (lent t flat)) e)
    where
      go : (a b c : Bool) → (a && b) ≡ false → ((a && c) && b) ≡ false
      go false b c e = refl
      go true b true e = e
      go true b false e = refl

  -- what is answered and what the list then holds, of a list that held `was`
  module _ (was order : List ℕ) where
    pub order_refused : (bare_sound (lent t flat) && leb t.count (length was)) ≡ false → order ≡ replicate (length was) 0
        → (false ≡ (bare_sound (lent t flat) && leb t.count (length was))) × (order ≡ bare_order (lent t flat) was)
    unfolding bare_order
    order_refused h e = (sym h, rw h e)

    pub order_given : bare_sound (lent t flat) ≡ true → t.count ≤ length was → order ≡ row_order (rows_from flat) ++ drop t.count was
        → (true ≡ (bare_sound (lent t flat) && leb t.count (length was))) × (order ≡ bare_order (lent t flat) was)
    unfolding bare_order
    order_given s l e =
        let h : (bare_sound (lent t flat) && leb t.count (length was)) ≡ true = and_both s (le-leb t.count (length was) l) in
        (sym h, rw h e)

-- with the level pairs
module _ (t : Lent) (ls : List (List ℕ)) (was order : List ℕ) where
  pub pairs_unsound : pairs_sound ls t.pairs ≡ false → order ≡ replicate (length was) 0 → (false ≡ (table_sound t ls && leb t.count (length was))) × (order ≡ order_of t ls was)
  unfolding order_of
  pairs_unsound h e = let s : table_sound t ls ≡ false = sound_bare t ls ∙ rw h in (sym (rw s), rw s e)

  pub pairs_sound_lem : (r : Bool) → pairs_sound ls t.pairs ≡ true → r ≡ (bare_sound t && leb t.count (length was)) → order ≡ bare_order t was
      → (r ≡ (table_sound t ls && leb t.count (length was))) × (order ≡ order_of t ls was)
  unfolding order_of bare_order
  pairs_sound_lem r h q e = let s : table_sound t ls ≡ bare_sound t = sound_bare t ls ∙ rw h in (q ∙ sym (rw s), e ∙ sym (rw s))

-- a list with a place for each row of a sound table
pub bare_held : (t : Lent) → bare_sound t ≡ true → t.count ≤ 1024
unfolding bare_sound
bare_held t e =
    let e1 = and_right (not (eqb t.from 0)) _ e in
    let e2 = and_right (not (eqb t.to 0)) _ e1 in
    leb-true _ _ (and_left (leb t.count 1024) _ (and_right (leb t.pairs 256) _ e2))

pub bare_room : (t : Lent) (room : ℕ) → (t.count ≤ 1024 → t.count ≤ room) → (bare_sound t && leb t.count room) ≡ bare_sound t
bare_room t room h = go (bare_sound t) refl
  where
    go : (b : Bool) → bare_sound t ≡ b → (b && leb t.count room) ≡ b
    go true s = le-leb t.count room (h (bare_held t s))
    go false s = refl

pub sound_room : (t : Lent) (ls : List (List ℕ)) (room : ℕ) → (t.count ≤ 1024 → t.count ≤ room) → (table_sound t ls && leb t.count room) ≡ table_sound t ls
sound_room t ls room h = go (table_sound t ls) refl
  where
    go : (b : Bool) → table_sound t ls ≡ b → (b && leb t.count room) ≡ b
    go true s = le-leb t.count room (h (bare_held t (and_right (pairs_sound ls t.pairs) _ (sym (sound_bare t ls) ∙ s))))
    go false s = refl
