-- Laws of the pieces that rows cut out of runs: gathered in the order of the rows' targets they ascend, and they are the numbers of the set.
use mathlib.Core.Path.{◌≡◌, refl, sym, ◌∙◌, ap}
use mathlib.Core.Bool.{Bool, true, false, cond, not, ◌&&◌, ◌||◌, and-false}
use mathlib.Core.List.{List, [], ◌∷◌, ◌++◌, map, map-append, append_assoc, append-nil}
use Prim.Native.Nat.{ℕ, zero, suc, ◌+◌, ◌-◌, ◌*◌, ◌/◌, ◌%◌, ◌≤◌, ◌<◌, min, max}
use native.Mathlib.Omega.{arith}
use native.Mathlib.Decide.{dec_le}
use lib.Dec.{leb}
use native.Mathlib.Numerals.{add-one}
use lib.ListN.{length, take, drop, get_or, length-append, take-append-drop}
use lib.Seq.{take-suc, get_or-drop}
use borrow.Author.Tests.{le-leb, lt-leb, leb-true, leb-false}
use Rattle.label.specs.declared.Run.{Run}
use Rattle.label.specs.Runs.{in_run, covers, spaced}
use Rattle.label.proofs.Bools.{and_left, and_right, and_both, same_leb}
use Rattle.label.proofs.Runs.{first, lower, covers_append}
use Rattle.table.specs.declared.Row.{Row}
use Rattle.table.specs.Table.{no_row, target_end, rising, targets_apart}
use Rattle.table.specs.Numbers.{in_image}
use Rattle.table.specs.Order.{order_keys, row_order, row_at, in_order}
use Rattle.table.specs.Stages.{chain}
use Rattle.table.proofs.Rows.{good, order_rows, targets_chain}
use Rattle.lists_sort.specs.Order.{Sorted, all, insert_key, sort_onto}
use Rattle.lists_sort.proofs.Laws.{sort_all}
use Rattle.lists_sort.proofs.Merge.{sorted_lower}
use Rattle.renumber_keys.specs.Sets.{runs_of}
use Rattle.label_keys.specs.Keys.{key_run, key_runs}
use Rattle.renumber_keys.specs.Stages.{join_all, join_onto, piece_key, row_pieces, pieces, hit, hits, Key}
use Rattle.renumber_keys.proofs.Join.{all_covers, all_spaced, onto_all}
use Rattle.renumber_keys.proofs.Pass.{image_hits}
use Rattle.renumber_keys.proofs.Sets.{the_runs}

-- the part of a run that lies in a row
abbrev pub low_of_part : Row → Run → ℕ
low_of_part r x = max x.low r.low

abbrev pub high_of_part : Row → Run → ℕ
high_of_part r x = min x.high r.high

abbrev pub part : Row → Run → ℕ
part r x = piece_key r (low_of_part r x) (high_of_part r x)

-- over plain numbers
first_from : (t base f a b lo : ℕ) → base ≤ f → f ≤ a → lo ≤ (t + (f - base)) * 65536 → lo ≤ (t + (a - base)) * 65536 + (t + (b - base))
first_from t base f a b lo p q h = omega arith

next_from : (t base a b m : ℕ) → base ≤ a → a ≤ b → b < m → t + (b - base) ≤ 65534 → (t + (a - base)) * 65536 + (t + (b - base)) ≤ (t + (m - base)) * 65536
next_from t base a b m p q l e = omega arith

later_from : (t base f m lo : ℕ) → f ≤ m → lo ≤ (t + (f - base)) * 65536 → lo ≤ (t + (m - base)) * 65536
later_from t base f m lo l h = omega arith

under_end : (r : Row) (b : ℕ) → b ≤ r.high → target_end r ≤ 65534 → r.target + (b - r.low) ≤ 65534
under_end r b h e = omega arith

-- A row that gives numbers.
pub record Giving (r : Row) : Type 0 where
  pub ordered : r.low ≤ r.high
  pub end : target_end r ≤ 65534

module _ (r : Row) (g : Giving r) where
  module _ (x : Run) (h : low_of_part r x ≤ high_of_part r x) where
    part_low : part r x / 65536 ≡ r.target + (low_of_part r x - r.low)
    part_low = omega (arith, g.ordered, g.end)

    part_high : part r x % 65536 ≡ r.target + (high_of_part r x - r.low)
    part_high = omega (arith, g.ordered, g.end)

    part_key : Key (part r x) ≡ true
    part_key = rw (part_low, part_high) (and_both (le-leb (r.target + (low_of_part r x - r.low)) (r.target + (high_of_part r x - r.low)) (omega arith)) (le-leb (r.target + (high_of_part r x - r.low)) 65534 (omega (arith, g.ordered, g.end))))

    part_covers : (d : ℕ) → r.target ≤ d → d ≤ target_end r → in_run (key_run (part r x)) d ≡ in_run x (r.low + (d - r.target))
    part_covers d p q =
        let lo : leb (part r x / 65536) d ≡ leb x.low (r.low + (d - r.target)) = rw part_low (same_leb (r.target + (low_of_part r x - r.low)) d x.low (r.low + (d - r.target)) (λ u. omega arith) (λ u. omega arith)) in
        let hi : leb d (part r x % 65536) ≡ leb (r.low + (d - r.target)) x.high = rw part_high (same_leb d (r.target + (high_of_part r x - r.low)) (r.low + (d - r.target)) x.high (λ u. omega (arith, g.ordered)) (λ u. omega (arith, g.ordered))) in
        rw (lo, hi)

    part_under : (d : ℕ) → d < r.target → in_run (key_run (part r x)) d ≡ false
    part_under d p = rw part_low (simp (lt-leb (r.target + (low_of_part r x - r.low)) d (omega arith)))

    part_over : (d : ℕ) → target_end r < d → in_run (key_run (part r x)) d ≡ false
    part_over d p = rw part_high (simp (lt-leb d (r.target + (high_of_part r x - r.low)) (omega (arith, g.ordered)), and-false))

  none_covers : (x : Run) (d : ℕ) → high_of_part r x < low_of_part r x → r.target ≤ d → d ≤ target_end r → in_run x (r.low + (d - r.target)) ≡ false
  none_covers x d h p q = elim (dec_le x.low (r.low + (d - r.target))) [ yes u ↦ simp (lt-leb (r.low + (d - r.target)) x.high (omega (arith, g.ordered)), and-false) | no u ↦ simp (lt-leb x.low (r.low + (d - r.target)) (omega arith)) ]

  -- a row's pieces are the numbers that it gives
  row_hit : (xs : List Run) (d : ℕ) → covers (key_runs (row_pieces r xs)) d ≡ hit r xs d
  row_hit [] d = sym (simp and-false)
  row_hit (x ∷ xs) d = go (leb r.target d) (leb d (target_end r)) (leb (low_of_part r x) (high_of_part r x)) refl refl refl (row_hit xs d)
    where
      go : (a b c : Bool) → leb r.target d ≡ a → leb d (target_end r) ≡ b → leb (low_of_part r x) (high_of_part r x) ≡ c
          → covers (key_runs (row_pieces r xs)) d ≡ hit r xs d
          → covers (key_runs (cond c (part r x ∷ row_pieces r xs) (row_pieces r xs))) d ≡ (a && (b && (in_run x (r.low + (d - r.target)) || covers xs (r.low + (d - r.target)))))
      go true true true p q s ih = rw (part_covers x (leb-true _ _ s) d (leb-true _ _ p) (leb-true _ _ q), ih) (simp (p, q))
      go true true false p q s ih = rw (none_covers x d (leb-false _ _ s) (leb-true _ _ p) (leb-true _ _ q), ih) (simp (p, q))
      go true false true p q s ih = rw (part_over x (leb-true _ _ s) d (leb-false _ _ q), ih) (simp (p, q))
      go true false false p q s ih = rw ih (simp (p, q))
      go false b true p q s ih = rw (part_under x (leb-true _ _ s) d (leb-false _ _ p), ih) (simp p)
      go false b false p q s ih = rw ih (simp p)

  row_keys : (xs : List Run) → all Key (row_pieces r xs) ≡ true
  row_keys [] = refl
  row_keys (x ∷ xs) = go (leb (low_of_part r x) (high_of_part r x)) refl (row_keys xs)
    where
      go : (c : Bool) → leb (low_of_part r x) (high_of_part r x) ≡ c → all Key (row_pieces r xs) ≡ true → all Key (cond c (part r x ∷ row_pieces r xs) (row_pieces r xs)) ≡ true
      go true s ih = and_both (part_key x (leb-true _ _ s)) ih
      go false s ih = ih

  -- they ascend, from its target to its end
  row_sorted : (f lo : ℕ) (xs : List Run) → spaced f xs ≡ true → lo ≤ (r.target + (max f r.low - r.low)) * 65536 → Sorted lo (row_pieces r xs)
  row_sorted f lo [] e h = tt
  row_sorted f lo (x ∷ xs) e h =
      let s = first f x xs e in
      go (leb (low_of_part r x) (high_of_part r x)) refl s.from s.ordered (λ k l. row_sorted (x.high + 2) k xs s.rest l)
    where
      go : (c : Bool) → leb (low_of_part r x) (high_of_part r x) ≡ c → f ≤ x.low → x.low ≤ x.high
          → ((k : ℕ) → k ≤ (r.target + (max (x.high + 2) r.low - r.low)) * 65536 → Sorted k (row_pieces r xs))
          → Sorted lo (cond c (part r x ∷ row_pieces r xs) (row_pieces r xs))
      go true s u v ih =
          let p : low_of_part r x ≤ high_of_part r x = leb-true _ _ s in
          let a : max f r.low ≤ low_of_part r x = omega arith in
          let b : r.low ≤ low_of_part r x = omega arith in
          let m : high_of_part r x < max (x.high + 2) r.low = omega arith in
          let t : high_of_part r x ≤ r.high = omega arith in
          let e : r.target + (high_of_part r x - r.low) ≤ 65534 = under_end r (high_of_part r x) t g.end in (
            first_from r.target r.low (max f r.low) (low_of_part r x) (high_of_part r x) lo (omega arith) a h,
            ih (part r x) (next_from r.target r.low (low_of_part r x) (high_of_part r x) (max (x.high + 2) r.low) b p m e),
          )
      go false s u v ih =
          let a : max f r.low ≤ max (x.high + 2) r.low = omega arith in
          ih lo (later_from r.target r.low (max f r.low) (max (x.high + 2) r.low) lo a h)

  row_under : (xs : List Run) → all (λ k. leb k (target_end r * 65536 + 65535)) (row_pieces r xs) ≡ true
  row_under [] = refl
  row_under (x ∷ xs) = go (leb (low_of_part r x) (high_of_part r x)) refl (row_under xs)
    where
      go : (c : Bool) → leb (low_of_part r x) (high_of_part r x) ≡ c → all (λ k. leb k (target_end r * 65536 + 65535)) (row_pieces r xs) ≡ true
          → all (λ k. leb k (target_end r * 65536 + 65535)) (cond c (part r x ∷ row_pieces r xs) (row_pieces r xs)) ≡ true
      go true s ih =
          let p : low_of_part r x ≤ high_of_part r x = leb-true _ _ s in
          and_both (le-leb (part r x) (target_end r * 65536 + 65535) (omega (arith, g.ordered, g.end))) ih
      go false s ih = ih

-- Lists in order, one behind the other.
sorted_append : (lo hi : ℕ) (xs ys : List ℕ) → Sorted lo xs → all (λ k. leb k hi) xs ≡ true → lo ≤ hi → Sorted hi ys → Sorted lo (xs ++ ys)
sorted_append lo hi [] ys s e h t = sorted_lower lo hi ys h t
sorted_append lo hi (x ∷ xs) ys s e h t =
    let p : x ≤ hi = leb-true _ _ (and_left (leb x hi) _ e) in
    (s.0, sorted_append x hi xs ys s.1 (and_right (leb x hi) _ e) p t)

all_append : (p : ℕ → Bool) (xs ys : List ℕ) → all p xs ≡ true → all p ys ≡ true → all p (xs ++ ys) ≡ true
all_append p [] ys e h = h
all_append p (x ∷ xs) ys e h = and_both (and_left (p x) _ e) (all_append p xs ys (and_right (p x) _ e) h)

-- Every row gives numbers.
abbrev pub giving : Row → Bool
giving r = leb r.low r.high && leb (target_end r) 65534

abbrev pub all_giving : List Row → Bool
all_giving [] = true
all_giving (r ∷ rs) = giving r && all_giving rs

pub gives : (r : Row) → giving r ≡ true → Giving r
gives r e = record { ordered = leb-true _ _ (and_left (leb r.low r.high) _ e); end = leb-true _ _ (and_right (leb r.low r.high) _ e) }

pub rise_giving : (f : ℕ) (rs : List Row) → rising f rs ≡ true → all_giving rs ≡ true
rise_giving f [] e = refl
rise_giving f (r ∷ rs) e =
    let g = good f r rs e in
    and_both (and_both (le-leb r.low r.high g.ordered) (le-leb (target_end r) 65534 g.end)) (rise_giving (r.high + 1) rs g.rest)

pieces_sorted : (f : ℕ) (rs : List Row) (xs : List Run) → all_giving rs ≡ true → chain f rs ≡ true → spaced 0 xs ≡ true → Sorted (f * 65536) (pieces rs xs)
pieces_sorted f [] xs e c s = tt
pieces_sorted f (r ∷ rs) xs e c s =
    let g = gives r (and_left (giving r) _ e) in
    let h : f ≤ r.target = leb-true _ _ (and_left (leb f r.target) _ c) in
    let t = pieces_sorted (target_end r + 1) rs xs (and_right (giving r) _ e) (and_right (leb f r.target) _ c) s in
    let u : Sorted (target_end r * 65536 + 65535) (pieces rs xs) = sorted_lower (target_end r * 65536 + 65535) ((target_end r + 1) * 65536) (pieces rs xs) (omega arith) t in
    sorted_append (f * 65536) (target_end r * 65536 + 65535) (row_pieces r xs) (pieces rs xs) (row_sorted r g 0 (f * 65536) xs s (omega arith)) (row_under r g xs) (omega arith) u

pub pieces_keys : (rs : List Row) (xs : List Run) → all_giving rs ≡ true → all Key (pieces rs xs) ≡ true
pieces_keys [] xs e = refl
pieces_keys (r ∷ rs) xs e =
    all_append Key (row_pieces r xs) (pieces rs xs) (row_keys r (gives r (and_left (giving r) _ e)) xs) (pieces_keys rs xs (and_right (giving r) _ e))

pub pieces_hits : (rs : List Row) (xs : List Run) (d : ℕ) → all_giving rs ≡ true → covers (key_runs (pieces rs xs)) d ≡ hits rs xs d
pieces_hits [] xs d e = refl
pieces_hits (r ∷ rs) xs d e =
    ap (λ (z : List Run). covers z d) (map-append key_run (row_pieces r xs) (pieces rs xs))
    ∙ covers_append (key_runs (row_pieces r xs)) (key_runs (pieces rs xs)) d
    ∙ rw (row_hit r (gives r (and_left (giving r) _ e)) xs d, pieces_hits rs xs d (and_right (giving r) _ e))

-- In whatever order.
hits_not : (f : ℕ → Row) (ks : List ℕ) (xs : List Run) (d : ℕ) → hits (map f ks) xs d ≡ not (all (λ k. not (hit (f k) xs d)) ks)
hits_not f [] xs d = refl
hits_not f (k ∷ ks) xs d = go (hit (f k) xs d) (hits_not f ks xs d)
  where
    go : (b : Bool) → hits (map f ks) xs d ≡ not (all (λ k. not (hit (f k) xs d)) ks) → (b || hits (map f ks) xs d) ≡ not (not b && all (λ k. not (hit (f k) xs d)) ks)
    go true e = refl
    go false e = e

giving_all : (f : ℕ → Row) (ks : List ℕ) → all_giving (map f ks) ≡ all (λ k. giving (f k)) ks
giving_all f [] = refl
giving_all f (k ∷ ks) = rw (giving_all f ks)

abbrev total : (ℕ → ℕ) → List ℕ → ℕ
total f [] = 0
total f (k ∷ ks) = f k + total f ks

insert_total : (f : ℕ → ℕ) (k : ℕ) (ks : List ℕ) → total f (insert_key k ks) ≡ f k + total f ks
insert_total f k [] = refl
insert_total f k (x ∷ ks) = go (leb x k) (insert_total f k ks)
  where
    go : (b : Bool) → total f (insert_key k ks) ≡ f k + total f ks → total f (cond b (x ∷ insert_key k ks) (k ∷ x ∷ ks)) ≡ f k + (f x + total f ks)
    go true e = rw e (omega arith)
    go false e = refl

sort_total : (f : ℕ → ℕ) (ys xs : List ℕ) → total f (sort_onto ys xs) ≡ total f ys + total f xs
sort_total f ys [] = omega arith
sort_total f ys (x ∷ xs) = sort_total f (insert_key x ys) xs ∙ rw (insert_total f x ys) (omega arith)

pieces_total : (f : ℕ → Row) (ks : List ℕ) (xs : List Run) → length (pieces (map f ks) xs) ≡ total (λ k. length (row_pieces (f k) xs)) ks
pieces_total f [] xs = refl
pieces_total f (k ∷ ks) xs = length-append (row_pieces (f k) xs) (pieces (map f ks) xs) ∙ rw (pieces_total f ks xs)

module _ (rs : List Row) (xs : List Run) (few : length rs ≤ 65536) where
  order_hits : (d : ℕ) → hits (in_order rs) xs d ≡ hits rs xs d
  order_hits d =
      hits_not (row_at rs) (row_order rs) xs d
      ∙ ap not (sort_all (λ k. not (hit (row_at rs k) xs d)) [] (order_keys 0 rs))
      ∙ sym (hits_not (row_at rs) (order_keys 0 rs) xs d)
      ∙ ap (λ (z : List Row). hits z xs d) (order_rows rs few)

  pub order_giving : rising 0 rs ≡ true → all_giving (in_order rs) ≡ true
  order_giving e =
      giving_all (row_at rs) (row_order rs)
      ∙ sort_all (λ k. giving (row_at rs k)) [] (order_keys 0 rs)
      ∙ sym (giving_all (row_at rs) (order_keys 0 rs))
      ∙ ap all_giving (order_rows rs few)
      ∙ rise_giving 0 rs e

  order_length : length (pieces (in_order rs) xs) ≡ length (pieces rs xs)
  order_length =
      let f : ℕ → ℕ = λ k. length (row_pieces (row_at rs k) xs) in
      pieces_total (row_at rs) (row_order rs) xs
      ∙ (sort_total f [] (order_keys 0 rs) ∙ omega arith)
      ∙ sym (pieces_total (row_at rs) (order_keys 0 rs) xs)
      ∙ ap (λ (z : List Row). length (pieces z xs)) (order_rows rs few)

  -- The pieces in the order of the rows' targets, joined, are the runs of the image.
  pub gathered_runs : rising 0 rs ≡ true → targets_apart rs ≡ true → spaced 0 xs ≡ true → key_runs (join_onto [] (pieces (in_order rs) xs)) ≡ runs_of (in_image rs xs)
  gathered_runs e a s =
      let ks : List ℕ = pieces (in_order rs) xs in
      let v = order_giving e in
      let o : Sorted 0 ks = pieces_sorted 0 (in_order rs) xs v (targets_chain rs few ∙ a) s in
      let g : all Key ks ≡ true = pieces_keys (in_order rs) xs v in
      ap key_runs (onto_all ks)
      ∙ the_runs (in_image rs xs) (key_runs (join_all ks)) (all_spaced ks o g) (λ c. all_covers ks c o g ∙ pieces_hits (in_order rs) xs c v ∙ order_hits c ∙ sym (image_hits rs xs c e s))

-- No more pieces than rows and runs.
pub above_none : (r : Row) (f : ℕ) (xs : List Run) → spaced f xs ≡ true → r.high < f → row_pieces r xs ≡ []
above_none r f [] e h = refl
above_none r f (x ∷ xs) e h =
    let s = first f x xs e in
    simp (lt-leb (low_of_part r x) (high_of_part r x) (omega (arith, s.from))) (above_none r (x.high + 2) xs s.rest (omega (arith, s.from, s.ordered)))

pub below_skip : (r : Row) (x : Run) (xs : List Run) → x.high < r.low → row_pieces r (x ∷ xs) ≡ row_pieces r xs
below_skip r x xs h = simp (lt-leb (low_of_part r x) (high_of_part r x) (omega arith))

abbrev after : Row → List Run → List Run
after r [] = []
after r (x ∷ xs) = cond (leb x.high r.high) (after r xs) (x ∷ xs)

row_few : (r : Row) (f : ℕ) (xs : List Run) → spaced f xs ≡ true → length (row_pieces r xs) + length (after r xs) ≤ suc (length xs)
row_few r f [] e = omega arith
row_few r f (x ∷ xs) e = let s = first f x xs e in go (leb x.high r.high) (leb (low_of_part r x) (high_of_part r x)) refl (row_few r (x.high + 2) xs s.rest) (λ h. above_none r (x.high + 2) xs s.rest h)
  where
    go : (a c : Bool) → leb x.high r.high ≡ a → length (row_pieces r xs) + length (after r xs) ≤ suc (length xs) → (r.high < x.high + 2 → row_pieces r xs ≡ [])
        → length (cond c (part r x ∷ row_pieces r xs) (row_pieces r xs)) + length (cond a (after r xs) (x ∷ xs)) ≤ suc (suc (length xs))
    go true true q ih n = omega arith
    go true false q ih n = omega arith
    go false true q ih n = let p : r.high < x.high = leb-false _ _ q in let z : row_pieces r xs ≡ [] = n (omega arith) in rw z (omega arith)
    go false false q ih n = let p : r.high < x.high = leb-false _ _ q in let z : row_pieces r xs ≡ [] = n (omega arith) in rw z (omega arith)

after_spaced : (r : Row) (f : ℕ) (xs : List Run) → spaced f xs ≡ true → spaced 0 (after r xs) ≡ true
after_spaced r f [] e = refl
after_spaced r f (x ∷ xs) e = go (leb x.high r.high) (after_spaced r (x.high + 2) xs (first f x xs e).rest)
  where
    go : (a : Bool) → spaced 0 (after r xs) ≡ true → spaced 0 (cond a (after r xs) (x ∷ xs)) ≡ true
    go true ih = ih
    go false ih = lower f 0 (x ∷ xs) (omega arith) e

after_row : (r s : Row) (xs : List Run) → r.high < s.low → row_pieces s (after r xs) ≡ row_pieces s xs
after_row r s [] h = refl
after_row r s (x ∷ xs) h = go (leb x.high r.high) refl (after_row r s xs h)
  where
    go : (a : Bool) → leb x.high r.high ≡ a → row_pieces s (after r xs) ≡ row_pieces s xs → row_pieces s (cond a (after r xs) (x ∷ xs)) ≡ row_pieces s (x ∷ xs)
    go true q ih = let p : x.high ≤ r.high = leb-true _ _ q in ih ∙ sym (below_skip s x xs (omega arith))
    go false q ih = refl

after_pieces : (r : Row) (f : ℕ) (rs : List Row) (xs : List Run) → rising f rs ≡ true → r.high < f → pieces rs (after r xs) ≡ pieces rs xs
after_pieces r f [] xs e h = refl
after_pieces r f (s ∷ rs) xs e h =
    let g = good f s rs e in
    rw (after_row r s xs (omega (arith, g.floor)), after_pieces r (s.high + 1) rs xs g.rest (omega (arith, g.floor, g.ordered)))

pub pieces_few : (f : ℕ) (rs : List Row) (xs : List Run) → rising f rs ≡ true → spaced 0 xs ≡ true → length (pieces rs xs) ≤ length rs + length xs
pieces_few f [] xs e s = omega arith
pieces_few f (r ∷ rs) xs e s =
    let g = good f r rs e in
    let ih : length (pieces rs (after r xs)) ≤ length rs + length (after r xs) = pieces_few (r.high + 1) rs (after r xs) g.rest (after_spaced r 0 xs s) in
    let q : length (pieces rs (after r xs)) ≡ length (pieces rs xs) = ap length (after_pieces r (r.high + 1) rs xs g.rest (omega arith)) in
    omega (arith, row_few r 0 xs s, length-append (row_pieces r xs) (pieces rs xs))

pub order_few : (rs : List Row) (xs : List Run) → length rs ≤ 65536 → rising 0 rs ≡ true → spaced 0 xs ≡ true → length (pieces (in_order rs) xs) ≤ length rs + length xs
order_few rs xs h e s = omega (arith, order_length rs xs h, pieces_few 0 rs xs e s)

-- What the loops ask.
pub drop_spaced : (i f : ℕ) (xs : List Run) → spaced f xs ≡ true → spaced 0 (drop i xs) ≡ true
drop_spaced zero f xs e = lower f 0 xs (omega arith) e
drop_spaced (suc i) f [] e = refl
drop_spaced (suc i) f (x ∷ xs) e = drop_spaced i (x.high + 2) xs (first f x xs e).rest

pub row_over : (r : Row) (x : Run) (xs : List Run) → spaced 0 (x ∷ xs) ≡ true → r.high < x.low → row_pieces r (x ∷ xs) ≡ []
row_over r x xs e h =
    let s = first 0 x xs e in
    simp (lt-leb (low_of_part r x) (high_of_part r x) (omega arith)) (above_none r (x.high + 2) xs s.rest (omega (arith, s.ordered)))

pub giving_at : (rs : List Row) (i : ℕ) (r : Row) (ts : List Row) → all_giving rs ≡ true → drop i rs ≡ r ∷ ts → Giving r
giving_at [] zero r ts e q = absurd (let z : ◌≡◌ {A = ℕ} 0 (suc (length ts)) = ap length q in omega arith)
giving_at [] (suc i) r ts e q = absurd (let z : ◌≡◌ {A = ℕ} 0 (suc (length ts)) = ap length q in omega arith)
giving_at (s ∷ rs) zero r ts e q = let p : s ≡ r = cc in rw (← p) (gives s (and_left (giving s) _ e))
giving_at (s ∷ rs) (suc i) r ts e q = giving_at rs i r ts (and_right (giving s) _ e) q

pieces_append : (rs ts : List Row) (xs : List Run) → pieces (rs ++ ts) xs ≡ pieces rs xs ++ pieces ts xs
pieces_append [] ts xs = refl
pieces_append (r ∷ rs) ts xs = rw (pieces_append rs ts xs) (sym (append_assoc (row_pieces r xs) (pieces rs xs) (pieces ts xs)))

module _ (rs : List Row) (i : ℕ) (r : Row) (xs : List Run) (q : drop i rs ≡ r ∷ drop (i + 1) rs) (h : i < length rs) where
  pub pieces_next : pieces (take (i + 1) rs) xs ≡ pieces (take i rs) xs ++ row_pieces r xs
  pieces_next =
      let y : i + 0 ≡ i = omega arith in
      let g : get_or rs i no_row ≡ r = sym (rw y at (get_or-drop i rs 0 no_row)) ∙ ap (λ (l : List Row). get_or l 0 no_row) q in
      rw (add-one i, take-suc rs i no_row h, g) (pieces_append (take i rs) (r ∷ []) xs ∙ ap (λ (z : List ℕ). pieces (take i rs) xs ++ z) (append-nil (row_pieces r xs)))

  pub pieces_room : length (pieces (take i rs) xs) + length (row_pieces r xs) ≤ length (pieces rs xs)
  pieces_room =
      let e : length (pieces (take (i + 1) rs) xs) ≡ length (pieces (take i rs) xs) + length (row_pieces r xs) = ap length pieces_next ∙ length-append (pieces (take i rs) xs) (row_pieces r xs) in
      let w : length (pieces rs xs) ≡ length (pieces (take (i + 1) rs) xs) + length (pieces (drop (i + 1) rs) xs) =
      ap (λ (z : List Row). length (pieces z xs)) (sym (take-append-drop (i + 1) rs)) ∙ ap length (pieces_append (take (i + 1) rs) (drop (i + 1) rs) xs) ∙ length-append (pieces (take (i + 1) rs) xs) (pieces (drop (i + 1) rs) xs) in
      omega arith
