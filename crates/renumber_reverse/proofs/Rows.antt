-- Laws of rows in the order of their targets, and of rows turned round: tests of every row, what they give, and that turned twice they are the same.
use mathlib.Core.Path.{◌≡◌, refl, sym, ◌∙◌, ap}
use mathlib.Core.Bool.{Bool, true, false, not, ◌&&◌, ◌||◌}
use mathlib.Core.List.{List, [], ◌∷◌, map, map-map}
use mathlib.Core.Logic.{⊎_elim}
use Prim.Native.Nat.{ℕ, zero, suc, ◌+◌, ◌-◌, ◌≤◌, ◌<◌}
use native.Mathlib.Omega.{arith}
use lib.Dec.{leb, eqb}
use lib.ListN.{length, drop, length-map}
use borrow.Author.Tests.{le-leb, leb-true, lt-ltb, eqb-true, eq-eqb, ne_eqb}
use Rattle.label.proofs.Bools.{never, and_left, and_right, and_both, or_cases, or_true_right, same_yes}
use Rattle.lists_sort.specs.Order.{all}
use Rattle.lists_sort.proofs.Laws.{sort_all}
use Rattle.table.specs.declared.Row.{Row}
use Rattle.table.specs.Table.{target_end, rising, apart_from_all, targets_apart}
use Rattle.table.specs.Numbers.{sends}
use Rattle.table.specs.Order.{order_keys, row_order, row_at, in_order}
use Rattle.table.specs.Stages.{chain}
use Rattle.table.proofs.Rows.{good, order_rows, apart_sorted, targets_chain}
use Rattle.table.proofs.Order.{order_length}
use Rattle.renumber_reverse.specs.Reverse.{turned_row, turned_rows}

-- Tests of every row.

abbrev pub all_rows : (Row → Bool) → List Row → Bool
all_rows p [] = true
all_rows p (r ∷ rs) = p r && all_rows p rs

tests_keys : (p : Row → Bool) (f : ℕ → Row) (ks : List ℕ) → all_rows p (map f ks) ≡ all (λ k. p (f k)) ks
tests_keys p f [] = refl
tests_keys p f (k ∷ ks) = rw (tests_keys p f ks)

tests_turned : (p : Row → Bool) (rs : List Row) → all_rows p (map turned_row rs) ≡ all_rows (λ r. p (turned_row r)) rs
tests_turned p [] = refl
tests_turned p (r ∷ rs) = rw (tests_turned p rs)

-- in whatever order
pub tests_ordered : (p : Row → Bool) (rs : List Row) → length rs ≤ 65536 → all_rows p (in_order rs) ≡ all_rows p rs
tests_ordered p rs h =
    tests_keys p (row_at rs) (row_order rs)
    ∙ sort_all (λ k. p (row_at rs k)) [] (order_keys 0 rs)
    ∙ sym (tests_keys p (row_at rs) (order_keys 0 rs))
    ∙ ap (all_rows p) (order_rows rs h)

-- two tests that agree at every row that has an order
tests_same : (p q : Row → Bool) (f : ℕ) (rs : List Row) → rising f rs ≡ true → ((r : Row) → r.low ≤ r.high → p r ≡ q r) → all_rows p rs ≡ all_rows q rs
tests_same p q f [] e h = refl
tests_same p q f (r ∷ rs) e h = let g = good f r rs e in rw (h r g.ordered, tests_same p q (r.high + 1) rs g.rest h)

pub test_at : (p : Row → Bool) (rs : List Row) (i : ℕ) (r : Row) (ts : List Row) → all_rows p rs ≡ true → drop i rs ≡ r ∷ ts → p r ≡ true
test_at p [] zero r ts e q = absurd (let z : ◌≡◌ {A = ℕ} 0 (suc (length ts)) = ap length q in omega arith)
test_at p [] (suc i) r ts e q = absurd (let z : ◌≡◌ {A = ℕ} 0 (suc (length ts)) = ap length q in omega arith)
test_at p (s ∷ rs) zero r ts e q = let z : s ≡ r = cc in ap p (sym z) ∙ and_left (p s) _ e
test_at p (s ∷ rs) (suc i) r ts e q = test_at p rs i r ts (and_right (p s) _ e) q

-- a row whose ends are in order and keep to the highest category
abbrev pub fine : Row → Bool
fine r = leb r.low r.high && (leb r.high 65534 && leb (target_end r) 65534)

pub record Fine (r : Row) : Type 0 where
  pub ordered : r.low ≤ r.high
  pub top : r.high ≤ 65534
  pub end : target_end r ≤ 65534

pub is_fine : (r : Row) → fine r ≡ true → Fine r
is_fine r e =
    let e1 = and_right (leb r.low r.high) _ e in
    record {
      ordered = leb-true _ _ (and_left (leb r.low r.high) _ e);
      top = leb-true _ _ (and_left (leb r.high 65534) _ e1);
      end = leb-true _ _ (and_right (leb r.high 65534) _ e1);
    }

rising_fine : (f : ℕ) (rs : List Row) → rising f rs ≡ true → all_rows fine rs ≡ true
rising_fine f [] e = refl
rising_fine f (r ∷ rs) e =
    let g = good f r rs e in
    simp (le-leb r.low r.high g.ordered, le-leb r.high 65534 g.top, le-leb (target_end r) 65534 g.end) (rising_fine (r.high + 1) rs g.rest)

pub order_fine : (rs : List Row) → length rs ≤ 65536 → rising 0 rs ≡ true → all_rows fine (in_order rs) ≡ true
order_fine rs h e = tests_ordered fine rs h ∙ rising_fine 0 rs e

-- Rows turned round are sound.

chain_rises : (f : ℕ) (rs : List Row) → chain f rs ≡ true → all_rows fine rs ≡ true → rising f (map turned_row rs) ≡ true
chain_rises f [] e g = refl
chain_rises f (r ∷ rs) e g =
    let x = is_fine r (and_left (fine r) _ g) in
    let a : f ≤ r.target = leb-true _ _ (and_left (leb f r.target) _ e) in
    let b : target_end (turned_row r) ≤ 65534 = omega (arith, x.ordered, x.top) in
    simp (le-leb f r.target a, le-leb r.target (target_end r) (omega arith), le-leb (target_end r) 65534 x.end, le-leb (target_end (turned_row r)) 65534 b)
    (chain_rises (target_end r + 1) rs (and_right (leb f r.target) _ e) (and_right (fine r) _ g))

pub turned_rise : (rs : List Row) → length rs ≤ 65536 → rising 0 rs ≡ true → targets_apart rs ≡ true → rising 0 (turned_rows rs) ≡ true
turned_rise rs h e a = chain_rises 0 (in_order rs) (targets_chain rs h ∙ a) (order_fine rs h e)

-- sources that rise are disjoint
above_apart : (r : Row) (f : ℕ) (rs : List Row) → rising f rs ≡ true → r.low ≤ r.high → r.high < f → apart_from_all (turned_row r) (map turned_row rs) ≡ true
above_apart r f [] e o h = refl
above_apart r f (s ∷ rs) e o h =
    let g = good f s rs e in
    let a : target_end (turned_row r) < s.low = omega (arith, g.floor) in
    simp (lt-ltb (target_end (turned_row r)) s.low a) (above_apart r (s.high + 1) rs g.rest o (omega (arith, g.floor, g.ordered)))

rising_apart : (f : ℕ) (rs : List Row) → rising f rs ≡ true → targets_apart (map turned_row rs) ≡ true
rising_apart f [] e = refl
rising_apart f (r ∷ rs) e =
    let g = good f r rs e in
    and_both (above_apart r (r.high + 1) rs g.rest g.ordered (omega arith)) (rising_apart (r.high + 1) rs g.rest)

pub turned_apart : (rs : List Row) → length rs ≤ 65536 → rising 0 rs ≡ true → targets_apart (turned_rows rs) ≡ true
turned_apart rs h e =
    ap targets_apart (map-map turned_row (row_at rs) (row_order rs))
    ∙ apart_sorted (λ k. turned_row (row_at rs k)) (order_keys 0 rs)
    ∙ ap targets_apart (sym (map-map turned_row (row_at rs) (order_keys 0 rs)))
    ∙ ap (λ (z : List Row). targets_apart (map turned_row z)) (order_rows rs h)
    ∙ rising_apart 0 rs e

pub turned_length : (rs : List Row) → length (turned_rows rs) ≡ length rs
turned_length rs = length-map (in_order rs) turned_row ∙ length-map (row_order rs) (row_at rs) ∙ order_length rs

-- Rows that rise and pass the same tests are the same.

abbrev is_row : Row → Row → Bool
is_row x r = eqb x.low r.low && (eqb x.high r.high && eqb x.target r.target)

is_row_lem : (x r : Row) → is_row x r ≡ true → x ≡ r
is_row_lem x r e =
    let e1 = and_right (eqb x.low r.low) _ e in
    let l : x.low ≡ r.low = eqb-true _ _ (and_left (eqb x.low r.low) _ e) in
    let h : x.high ≡ r.high = eqb-true _ _ (and_left (eqb x.high r.high) _ e1) in
    let t : x.target ≡ r.target = eqb-true _ _ (and_right (eqb x.high r.high) _ e1) in
    λ i. record { low = l i; high = h i; target = t i }

row_is : (x : Row) → is_row x x ≡ true
row_is x = simp (eq-eqb x.low x.low refl, eq-eqb x.high x.high refl, eq-eqb x.target x.target refl)

-- the row itself, or one that begins above it
abbrev from_row : Row → Row → Bool
from_row x r = is_row x r || leb (x.low + 1) r.low

past_row : (x : Row) (f : ℕ) (rs : List Row) → rising f rs ≡ true → x.low < f → all_rows (from_row x) rs ≡ true
past_row x f [] e h = refl
past_row x f (r ∷ rs) e h =
    let g = good f r rs e in
    and_both
    (or_true_right (is_row x r) (le-leb (x.low + 1) r.low (omega (arith, g.floor))))
    (past_row x (r.high + 1) rs g.rest (omega (arith, g.floor, g.ordered)))

not_row : (x : Row) (p : Row → Bool) (f : ℕ) (rs : List Row) → rising f rs ≡ true → x.low < f → all_rows (λ r. is_row x r || p r) rs ≡ all_rows p rs
not_row x p f [] e h = refl
not_row x p f (r ∷ rs) e h =
    let g = good f r rs e in
    rw (ne_eqb x.low r.low (λ z. omega (arith, g.floor)), not_row x p (r.high + 1) rs g.rest (omega (arith, g.floor, g.ordered)))

abbrev SameTests : List Row → List Row → Type 0
SameTests xs ys = (p : Row → Bool) → all_rows p xs ≡ all_rows p ys

first_same : (f g : ℕ) (x : Row) (xs : List Row) (y : Row) (ys : List Row) → rising f (x ∷ xs) ≡ true → rising g (y ∷ ys) ≡ true → SameTests (x ∷ xs) (y ∷ ys) → x ≡ y
first_same f g x xs y ys d e h =
    ⊎_elim
    (λ w. is_row_lem x y w)
    (λ w. ⊎_elim
    (λ u. sym (is_row_lem y x u))
    (λ u. let a : x.low + 1 ≤ y.low = leb-true _ _ w in let b : y.low + 1 ≤ x.low = leb-true _ _ u in absurd (omega arith))
    (or_cases (is_row y x) (leb (y.low + 1) x.low) (and_left (from_row y x) _ (h (from_row y) ∙ own g y ys e))))
    (or_cases (is_row x y) (leb (x.low + 1) y.low) (and_left (from_row x y) _ (sym (h (from_row x)) ∙ own f x xs d)))
  where
    own : (f : ℕ) (x : Row) (xs : List Row) → rising f (x ∷ xs) ≡ true → all_rows (from_row x) (x ∷ xs) ≡ true
    own f x xs d = let q = good f x xs d in rw (row_is x) (past_row x (x.high + 1) xs q.rest (omega (arith, q.ordered)))

rest_same : (f g : ℕ) (x : Row) (xs : List Row) (y : Row) (ys : List Row) → rising f (x ∷ xs) ≡ true → rising g (y ∷ ys) ≡ true → x ≡ y → SameTests (x ∷ xs) (y ∷ ys) → SameTests xs ys
rest_same f g x xs y ys d e s h p =
    let a = good f x xs d in
    let b = good g y ys e in
    let low : x.low ≡ y.low = ap (λ (z : Row). z.low) s in
    let is : is_row x y ≡ true = ap (is_row x) (sym s) ∙ row_is x in
    let k : all_rows (λ r. is_row x r || p r) xs ≡ all_rows (λ r. is_row x r || p r) ys = rw (row_is x, is) at (h (λ r. is_row x r || p r)) in
    sym (not_row x p (x.high + 1) xs a.rest (omega (arith, a.ordered))) ∙ k ∙ not_row x p (y.high + 1) ys b.rest (omega (arith, b.ordered))

same_rows : (f g : ℕ) (xs ys : List Row) → rising f xs ≡ true → rising g ys ≡ true → SameTests xs ys → xs ≡ ys
same_rows f g [] [] d e h = refl
same_rows f g [] (y ∷ ys) d e h = absurd (never (h (λ r. false)))
same_rows f g (x ∷ xs) [] d e h = absurd (never (sym (h (λ r. false))))
same_rows f g (x ∷ xs) (y ∷ ys) d e h =
    let s = first_same f g x xs y ys d e h in
    let t = same_rows (x.high + 1) (y.high + 1) xs ys (good f x xs d).rest (good g y ys e).rest (rest_same f g x xs y ys d e s h) in
    λ i. s i ∷ t i

turned_back : (r : Row) → r.low ≤ r.high → turned_row (turned_row r) ≡ r
turned_back r h =
    let e : target_end (turned_row r) ≡ r.high = omega arith in
    λ i. record { low = r.low; high = e i; target = r.target }

-- Rows turned round twice.
pub turned_twice : (rs : List Row) → length rs ≤ 65536 → rising 0 rs ≡ true → targets_apart rs ≡ true → turned_rows (turned_rows rs) ≡ rs
turned_twice rs h e a =
    let us : List Row = turned_rows rs in
    let n : length us ≤ 65536 = omega (arith, turned_length rs) in
    same_rows 0 0 (turned_rows us) rs (turned_rise us n (turned_rise rs h e a) (turned_apart rs h e)) e
    (λ p.
    tests_turned p (in_order us)
    ∙ tests_ordered (λ r. p (turned_row r)) us n
    ∙ tests_turned (λ r. p (turned_row r)) (in_order rs)
    ∙ tests_ordered (λ r. p (turned_row (turned_row r))) rs h
    ∙ tests_same (λ r. p (turned_row (turned_row r))) p 0 rs e (λ r o. ap p (turned_back r o)))

-- What rows turned round give.

-- the row gives the category its number
abbrev gives : ℕ → ℕ → Row → Bool
gives c d r = leb r.low c && (leb c r.high && eqb (r.target + (c - r.low)) d)

sends_tests : (rs : List Row) (c d : ℕ) → sends rs c d ≡ not (all_rows (λ r. not (gives c d r)) rs)
sends_tests [] c d = refl
sends_tests (r ∷ rs) c d = rw (sends_tests rs c d) (go (gives c d r) (all_rows (λ r. not (gives c d r)) rs))
  where
    go : (a b : Bool) → (a || not b) ≡ not (not a && b)
    go true b = refl
    go false b = refl

gives_turned : (c d : ℕ) (r : Row) → r.low ≤ r.high → gives c d r ≡ true → gives d c (turned_row r) ≡ true
gives_turned c d r o e =
    let e1 = and_right (leb r.low c) _ e in
    let a : r.low ≤ c = leb-true _ _ (and_left (leb r.low c) _ e) in
    let b : c ≤ r.high = leb-true _ _ (and_left (leb c r.high) _ e1) in
    let z : r.target + (c - r.low) ≡ d = eqb-true _ _ (and_right (leb c r.high) _ e1) in
    let y : r.low + (d - r.target) ≡ c = omega arith in
    simp (le-leb r.target d (omega arith), le-leb d (target_end r) (omega arith), eq-eqb (r.low + (d - r.target)) c y)

gives_same : (c d : ℕ) (r : Row) → r.low ≤ r.high → gives d c (turned_row r) ≡ gives c d r
gives_same c d r o =
    same_yes _ _
    (λ e. ap (gives c d) (sym (turned_back r o)) ∙ gives_turned d c (turned_row r) (omega arith) e)
    (gives_turned c d r o)

pub sends_turned : (rs : List Row) (c d : ℕ) → length rs ≤ 65536 → rising 0 rs ≡ true → sends (turned_rows rs) d c ≡ sends rs c d
sends_turned rs c d h e =
    sends_tests (turned_rows rs) d c
    ∙ ap not
    (tests_turned (λ r. not (gives d c r)) (in_order rs)
    ∙ tests_ordered (λ r. not (gives d c (turned_row r))) rs h
    ∙ tests_same (λ r. not (gives d c (turned_row r))) (λ r. not (gives c d r)) 0 rs e (λ r o. ap not (gives_same c d r o)))
    ∙ sym (sends_tests rs c d)
