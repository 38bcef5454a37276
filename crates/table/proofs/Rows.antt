-- Laws of rows: disjoint targets by their order, and the parts of rows that rise.
use mathlib.Core.Path.{◌≡◌, refl, sym, ◌∙◌, ap}
use mathlib.Core.Bool.{Bool, true, false, cond, ◌&&◌, ◌||◌}
use mathlib.Core.List.{List, [], ◌∷◌, map}
use lib.ListN.{length, drop, get_or}
use lib.Seq.{get_or-drop, drop-drop}
use Prim.Native.Nat.{ℕ, ◌+◌, ◌*◌, ◌/◌, ◌%◌, ◌≤◌, ◌<◌}
use native.Mathlib.Omega.{arith}
use native.Mathlib.Decide.{dec_le}
use lib.Dec.{leb, ltb, eqb}
use borrow.Author.Tests.{le-leb, lt-leb, leb-true, lt-ltb, le-ltb, eqb-true, eq-eqb}
use Rattle.label.proofs.Bools.{and_left, and_right}
use Rattle.lists_sort.specs.Order.{Sorted, all, insert_key, sort_onto, sort_keys}
use Rattle.lists_sort.proofs.Laws.{insert_all, sort_sorted, sort_all}
use Rattle.lists_sort.proofs.Merge.{sorted_self}
use Rattle.table.specs.declared.Row.{Row}
use Rattle.table.specs.Table.{no_row, target_end, rising, apart, apart_from_all, targets_apart}
use Rattle.table.specs.Order.{order_keys, row_order, row_at, in_order}
use Rattle.table.specs.Stages.{chain}

or_comm : (a b : Bool) → (a || b) ≡ (b || a)
or_comm true true = refl
or_comm true false = refl
or_comm false true = refl
or_comm false false = refl

and_pair : (a b c d : Bool) → ((a && b) && (c && d)) ≡ ((a && c) && (b && d))
and_pair true true c d = refl
and_pair true false true d = refl
and_pair true false false d = refl
and_pair false b c d = refl

-- What holds of every two numbers of a list holds in whatever order.
abbrev pub pairs : (ℕ → ℕ → Bool) → List ℕ → Bool
pairs p [] = true
pairs p (x ∷ xs) = all (p x) xs && pairs p xs

abbrev cross : (ℕ → ℕ → Bool) → List ℕ → List ℕ → Bool
cross p ys [] = true
cross p ys (x ∷ xs) = all (p x) ys && cross p ys xs

shuffle : (a y b c x : Bool) → ((a && y) && ((b && c) && x)) ≡ (y && ((a && c) && (b && x)))
shuffle true true true true e = refl
shuffle true true true false e = refl
shuffle true true false true e = refl
shuffle true true false false e = refl
shuffle true false true true e = refl
shuffle true false true false e = refl
shuffle true false false true e = refl
shuffle true false false false e = refl
shuffle false true true true e = refl
shuffle false true true false e = refl
shuffle false true false true e = refl
shuffle false true false false e = refl
shuffle false false true true e = refl
shuffle false false true false e = refl
shuffle false false false true e = refl
shuffle false false false false e = refl

module _ (p : ℕ → ℕ → Bool) (either : (a b : ℕ) → p a b ≡ p b a) where
  insert_pairs : (k : ℕ) (xs : List ℕ) → pairs p (insert_key k xs) ≡ (all (p k) xs && pairs p xs)
  insert_pairs k [] = refl
  insert_pairs k (x ∷ xs) = go (leb x k) (insert_pairs k xs)
    where
      go : (b : Bool) → pairs p (insert_key k xs) ≡ (all (p k) xs && pairs p xs)
          → pairs p (cond b (x ∷ insert_key k xs) (k ∷ x ∷ xs)) ≡ ((p k x && all (p k) xs) && (all (p x) xs && pairs p xs))
      go true ih = rw (insert_all (p x) k xs, ih, either x k) (and_pair (p k x) (all (p x) xs) (all (p k) xs) (pairs p xs))
      go false ih = refl

  cross_insert : (x : ℕ) (ys xs : List ℕ) → cross p (insert_key x ys) xs ≡ (all (p x) xs && cross p ys xs)
  cross_insert x ys [] = refl
  cross_insert x ys (z ∷ xs) =
      rw (insert_all (p z) x ys, cross_insert x ys xs, either z x) (and_pair (p x z) (all (p z) ys) (all (p x) xs) (cross p ys xs))

  sort_pairs : (ys xs : List ℕ) → pairs p (sort_onto ys xs) ≡ (pairs p ys && (cross p ys xs && pairs p xs))
  sort_pairs ys [] = go (pairs p ys)
    where
      go : (b : Bool) → b ≡ (b && true)
      go true = refl
      go false = refl
  sort_pairs ys (x ∷ xs) =
      sort_pairs (insert_key x ys) xs
      ∙ rw (insert_pairs x ys, cross_insert x ys xs) (shuffle (all (p x) ys) (pairs p ys) (all (p x) xs) (cross p ys xs) (pairs p xs))

  cross_nil : (xs : List ℕ) → cross p [] xs ≡ true
  cross_nil [] = refl
  cross_nil (x ∷ xs) = cross_nil xs

  pub sorted_pairs : (xs : List ℕ) → pairs p (sort_keys xs) ≡ pairs p xs
  sorted_pairs xs = sort_pairs [] xs ∙ rw (cross_nil xs)

-- Rows that numbers name.
all_apart : (f : ℕ → Row) (r : Row) (ks : List ℕ) → apart_from_all r (map f ks) ≡ all (λ k. apart r (f k)) ks
all_apart f r [] = refl
all_apart f r (k ∷ ks) = rw (all_apart f r ks)

pairs_apart : (f : ℕ → Row) (ks : List ℕ) → targets_apart (map f ks) ≡ pairs (λ a b. apart (f a) (f b)) ks
pairs_apart f [] = refl
pairs_apart f (k ∷ ks) = rw (all_apart f (f k) ks, pairs_apart f ks)

-- disjoint targets are so in whatever order
pub apart_sorted : (f : ℕ → Row) (ks : List ℕ) → targets_apart (map f (sort_keys ks)) ≡ targets_apart (map f ks)
apart_sorted f ks =
    pairs_apart f (sort_keys ks)
    ∙ sorted_pairs (λ a b. apart (f a) (f b)) (λ a b. or_comm (ltb (target_end (f a)) (f b).target) (ltb (target_end (f b)) (f a).target)) ks
    ∙ sym (pairs_apart f ks)

-- the row at its number
at_place : (rs ss : List Row) (r : Row) (i : ℕ) → drop i rs ≡ r ∷ ss → i < 65536 → row_at rs (r.target * 65536 + i) ≡ r
at_place rs ss r i e h =
    let z : (r.target * 65536 + i) % 65536 ≡ i = omega arith in
    let y : i + 0 ≡ i = omega arith in
    ap (λ (k : ℕ). get_or rs k no_row) z ∙ sym (rw y at (get_or-drop i rs 0 no_row)) ∙ ap (λ (l : List Row). get_or l 0 no_row) e

later : (rs ss : List Row) (r : Row) (i : ℕ) → drop i rs ≡ r ∷ ss → drop (i + 1) rs ≡ ss
later rs ss r i e = sym (drop-drop 1 i rs) ∙ ap (drop 1) e

keys_rows : (rs ss : List Row) (i : ℕ) → drop i rs ≡ ss → i + length ss ≤ 65536 → map (row_at rs) (order_keys i ss) ≡ ss
keys_rows rs [] i e h = refl
keys_rows rs (r ∷ ss) i e h =
    rw (at_place rs ss r i e (omega arith), keys_rows rs ss (i + 1) (later rs ss r i e) (omega arith))

pub order_rows : (rs : List Row) → length rs ≤ 65536 → map (row_at rs) (order_keys 0 rs) ≡ rs
order_rows rs h = keys_rows rs rs 0 refl (omega arith)

-- A test that every row passes, at its number, is passed by the rows in order.
pub keys_all : (p : ℕ → Row → Bool) (rs ss : List Row) (i : ℕ) → drop i rs ≡ ss → i + length ss ≤ 65536
    → ((j : ℕ) (r : Row) (ts : List Row) → j < 65536 → drop j rs ≡ r ∷ ts → p (r.target * 65536 + j) r ≡ true)
    → all (λ k. p k (row_at rs k)) (order_keys i ss) ≡ true
keys_all p rs [] i e h g = refl
keys_all p rs (r ∷ ss) i e h g =
    rw (at_place rs ss r i e (omega arith), g i r ss (omega arith) e) (keys_all p rs ss (i + 1) (later rs ss r i e) (omega arith) g)

pub order_all : (p : ℕ → Row → Bool) (rs : List Row) → length rs ≤ 65536
    → ((j : ℕ) (r : Row) (ts : List Row) → j < 65536 → drop j rs ≡ r ∷ ts → p (r.target * 65536 + j) r ≡ true)
    → all (λ k. p k (row_at rs k)) (row_order rs) ≡ true
order_all p rs h g = sort_all (λ k. p k (row_at rs k)) [] (order_keys 0 rs) ∙ keys_all p rs rs 0 refl (omega arith) g

-- Targets that ascend, equal ones too.
abbrev pub Ascend : ℕ → List Row → Type 0
Ascend lo [] = Unit {0}
Ascend lo (r ∷ rs) = (lo ≤ r.target) × Ascend r.target rs

sorted_ascend : (f : ℕ → Row) (lo : ℕ) (ks : List ℕ) → Sorted lo ks → all (λ k. eqb (f k).target (k / 65536)) ks ≡ true → Ascend (lo / 65536) (map f ks)
sorted_ascend f lo [] s e = tt
sorted_ascend f lo (k ∷ ks) s e =
    let q : (f k).target ≡ k / 65536 = eqb-true _ _ (and_left (eqb (f k).target (k / 65536)) _ e) in
    (omega (arith, s.0), rw q (sorted_ascend f k ks s.1 (and_right (eqb (f k).target (k / 65536)) _ e)))

pub order_ascends : (rs : List Row) → length rs ≤ 65536 → Ascend 0 (in_order rs)
order_ascends rs h =
    sorted_ascend (row_at rs) 0 (row_order rs) (sort_sorted [] (order_keys 0 rs) tt)
    (order_all (λ k r. eqb r.target (k / 65536)) rs h (λ j r ts l e. eq-eqb r.target ((r.target * 65536 + j) / 65536) (omega arith)))

-- every target is at `f` or above
abbrev all_from : ℕ → List Row → Bool
all_from f [] = true
all_from f (r ∷ rs) = leb f r.target && all_from f rs

ascend_from : (lo f : ℕ) (rs : List Row) → Ascend lo rs → f ≤ lo → all_from f rs ≡ true
ascend_from lo f [] a h = refl
ascend_from lo f (r ∷ rs) a h =
    let g : f ≤ r.target = omega (arith, a.0) in
    simp (le-leb f r.target g) (ascend_from r.target f rs a.1 g)

-- In order, a row is apart from all that follow exactly when they begin above its end.
apart_from : (r : Row) (lo : ℕ) (rs : List Row) → Ascend lo rs → r.target ≤ lo → apart_from_all r rs ≡ all_from (target_end r + 1) rs
apart_from r lo [] a h = refl
apart_from r lo (s ∷ rs) a h = rw (apart_from r s.target rs a.1 (omega (arith, a.0))) (go a.0)
  where
    go : lo ≤ s.target → (apart r s && all_from (target_end r + 1) rs) ≡ (leb (target_end r + 1) s.target && all_from (target_end r + 1) rs)
    go o = elim (dec_le (target_end r + 1) s.target) [ yes u ↦ simp (lt-ltb (target_end r) s.target (omega arith), le-leb (target_end r + 1) s.target u) | no u ↦ simp (le-ltb (target_end r) s.target (omega arith), le-ltb (target_end s) r.target (omega arith), lt-leb (target_end r + 1) s.target (omega arith)) ]

chain_is : (lo f : ℕ) (rs : List Row) → Ascend lo rs → chain f rs ≡ (all_from f rs && targets_apart rs)
chain_is lo f [] a = refl
chain_is lo f (r ∷ rs) a =
    rw (chain_is r.target (target_end r + 1) rs a.1, apart_from r r.target rs a.1 (omega arith)) (go (leb f r.target) refl)
  where
    go : (b : Bool) → leb f r.target ≡ b
        → (b && (all_from (target_end r + 1) rs && targets_apart rs)) ≡ ((b && all_from f rs) && (all_from (target_end r + 1) rs && targets_apart rs))
    go true e = rw (ascend_from r.target f rs a.1 (leb-true _ _ e))
    go false e = refl

-- Disjoint targets are those that, in order, each begin above the end of the one before.
pub targets_chain : (rs : List Row) → length rs ≤ 65536 → chain 0 (in_order rs) ≡ targets_apart rs
targets_chain rs h =
    chain_is 0 0 (in_order rs) (order_ascends rs h)
    ∙ rw (ascend_from 0 0 (in_order rs) (order_ascends rs h) (omega arith)) (apart_sorted (row_at rs) (order_keys 0 rs) ∙ ap targets_apart (order_rows rs h))

-- Rows whose targets rise as they stand are in order.
chain_sorted : (f i lo : ℕ) (rs : List Row) → chain f rs ≡ true → lo ≤ f * 65536 + i → Sorted lo (order_keys i rs)
chain_sorted f i lo [] e h = tt
chain_sorted f i lo (r ∷ rs) e h =
    let g : f ≤ r.target = leb-true _ _ (and_left (leb f r.target) _ e) in
    (omega arith, chain_sorted (target_end r + 1) (i + 1) (r.target * 65536 + i) rs (and_right (leb f r.target) _ e) (omega arith))

pub chain_order : (rs : List Row) → chain 0 rs ≡ true → row_order rs ≡ order_keys 0 rs
chain_order rs e = sorted_self 0 (order_keys 0 rs) (chain_sorted 0 0 0 rs e (omega arith))

pub chain_apart : (rs : List Row) → length rs ≤ 65536 → chain 0 rs ≡ true → targets_apart rs ≡ true
chain_apart rs h e = sym (targets_chain rs h) ∙ rw (chain_order rs e, order_rows rs h) e

-- The parts of a row that rises.
pub record Good (f : ℕ) (r : Row) (rs : List Row) : Type 0 where
  pub floor : f ≤ r.low
  pub ordered : r.low ≤ r.high
  pub top : r.high ≤ 65534
  pub end : target_end r ≤ 65534
  pub rest : rising (r.high + 1) rs ≡ true

pub good : (f : ℕ) (r : Row) (rs : List Row) → rising f (r ∷ rs) ≡ true → Good f r rs
good f r rs e =
    let e1 = and_right (leb f r.low) _ e in
    let e2 = and_right (leb r.low r.high) _ e1 in
    let e3 = and_right (leb r.high 65534) _ e2 in
    record {
      floor = leb-true _ _ (and_left (leb f r.low) _ e);
      ordered = leb-true _ _ (and_left (leb r.low r.high) _ e1);
      top = leb-true _ _ (and_left (leb r.high 65534) _ e2);
      end = leb-true _ _ (and_left (leb (target_end r) 65534) _ e3);
      rest = and_right (leb (target_end r) 65534) _ e3;
    }

-- A lower floor will do.
pub rise_lower : (f g : ℕ) (rs : List Row) → g ≤ f → rising f rs ≡ true → rising g rs ≡ true
rise_lower f g [] h e = refl
rise_lower f g (r ∷ rs) h e =
    let s = good f r rs e in
    simp (le-leb g r.low (omega arith), le-leb r.low r.high s.ordered, le-leb r.high 65534 s.top, le-leb (target_end r) 65534 s.end) s.rest
