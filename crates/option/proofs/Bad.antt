-- A body is good exactly where no number or pair of it is bad: the first bad one by index, and the definitions over lists.
use Prim.Native.Nat.{ℕ, zero, suc, ◌+◌, ◌-◌, ◌/◌, ◌%◌, ◌≤◌, ◌<◌, zero-le}
use mathlib.Core.Path.{◌≡◌, refl, ap}
use mathlib.Core.List.{List, [], ◌∷◌}
use mathlib.Core.Bool.{Bool, true, false, ◌&&◌, ◌||◌, and-false}
use mathlib.Core.Logic.{◌↔◌}
use lib.ListN.{length, get_or}
use lib.Dec.{leb, ltb, eqb}
use native.Mathlib.Omega.{arith}
use native.Mathlib.Nat.{le_refl}
use borrow.Author.Tests.{le-leb, lt-leb, lt-ltb, le-ltb, ltb-true, ltb-false, leb-true, leb-false, eqb-false, ne_eqb}
use Rattle.label.specs.declared.Run.{Run}
use Rattle.label.specs.Runs.{run}
use Rattle.option.specs.Option.{Octets, numbers_in, ascending, pairs_in, falling}
use Rattle.option.specs.Index.{first_true, number_at, bad_number, pairs_of, top_at, bottom_at, bad_pair}
use Rattle.label.proofs.Bools.{and_left, and_right, or_none}
use Rattle.option.proofs.Pieces.{Falling, falling_true, true_falling}
use Rattle.option.proofs.Meaning.{numbers_length}
use Rattle.option.proofs.Bridge.{number_at_lem, pairs_are, pair_is}

pub first_is : (f : ℕ → Bool) (n i : ℕ) → i ≤ n → ((k : ℕ) → k < i → f k ≡ false) → (i < n → f i ≡ true) → first_true f n ≡ i
first_is f zero i h before here = omega arith
first_is f (suc n) zero h before here = rw (here (omega arith))
first_is f (suc n) (suc i) h before here = rw (before zero (omega arith)) (ap suc (first_is (λ k. f (suc k)) n i (omega arith) (λ k q. before (suc k) (omega arith)) (λ q. here (omega arith))))

pub first_none : (f : ℕ → Bool) (n : ℕ) → first_true f n ≡ n → (k : ℕ) → k < n → f k ≡ false
first_none f zero e k h = absurd (omega arith)
first_none f (suc n) e k h = go (f zero) refl k h (λ q. first_none (λ j. f (suc j)) n q)
  where
    go : (b : Bool) → f zero ≡ b → (j : ℕ) → j < suc n → (first_true (λ i. f (suc i)) n ≡ n → (i : ℕ) → i < n → f (suc i) ≡ false) → f j ≡ false
    go true t j q ih = absurd (let z : zero ≡ suc n = rw t at e in omega arith)
    go false t zero q ih = t
    go false t (suc j) q ih = ih (let z : suc (first_true (λ i. f (suc i)) n) ≡ suc n = rw t at e in omega arith) j (omega arith)

pub first_none_is : (f : ℕ → Bool) (n : ℕ) → ((k : ℕ) → k < n → f k ≡ false) → first_true f n ≡ n
first_none_is f n h = first_is f n n (le_refl n) h (λ u. absurd (omega arith))

-- Numbers made of octets.
numbers_most : (b : List ℕ) (k : ℕ) → Octets b → get_or (numbers_in b) k 0 ≤ 65535
numbers_most [] k o = zero-le
numbers_most (a ∷ []) k o = zero-le
numbers_most (a ∷ c ∷ b) zero o = omega arith
numbers_most (a ∷ c ∷ b) (suc k) o = numbers_most b k o.1.1

-- Ascending numbers by index.
rise_small : (lo : ℕ) (ns : List ℕ) (k : ℕ) → ascending lo ns ≡ true → k < length ns → get_or ns k 0 < 65535
rise_small lo [] k e h = absurd (omega arith)
rise_small lo (x ∷ xs) zero e h = ltb-true x 65535 (and_left (ltb x 65535) _ (and_right (leb lo x) _ e))
rise_small lo (x ∷ xs) (suc k) e h = rise_small (x + 1) xs k (and_right (ltb x 65535) _ (and_right (leb lo x) _ e)) (omega arith)

rise_start : (lo : ℕ) (ns : List ℕ) → ascending lo ns ≡ true → 0 < length ns → lo ≤ get_or ns 0 0
rise_start lo [] e h = absurd (omega arith)
rise_start lo (x ∷ xs) e h = leb-true lo x (and_left (leb lo x) _ e)

rise_step : (lo : ℕ) (ns : List ℕ) (k : ℕ) → ascending lo ns ≡ true → suc k < length ns → get_or ns k 0 < get_or ns (suc k) 0
rise_step lo [] k e h = absurd (omega arith)
rise_step lo (x ∷ xs) zero e h = omega (arith, rise_start (x + 1) xs (and_right (ltb x 65535) _ (and_right (leb lo x) _ e)) (omega arith))
rise_step lo (x ∷ xs) (suc k) e h = rise_step (x + 1) xs k (and_right (ltb x 65535) _ (and_right (leb lo x) _ e)) (omega arith)

rise_from : (lo : ℕ) (ns : List ℕ) → ((k : ℕ) → k < length ns → get_or ns k 0 < 65535) → (0 < length ns → lo ≤ get_or ns 0 0) → ((k : ℕ) → suc k < length ns → get_or ns k 0 < get_or ns (suc k) 0) → ascending lo ns ≡ true
rise_from lo [] small start step = refl
rise_from lo (x ∷ xs) small start step =
    rw (le-leb lo x (start (omega arith)), lt-ltb x 65535 (small 0 (omega arith)))
    (rise_from (x + 1) xs (λ k h. small (suc k) (omega arith)) (λ h. omega (arith, step 0 (omega arith))) (λ k h. step (suc k) (omega arith)))

module _ (b : List ℕ) (even : length b % 2 ≡ 0) (oct : Octets b) where
  len : length (numbers_in b) ≡ length b / 2
  len = numbers_length b

  pub good_numbers : first_true (bad_number b) (length b / 2) ≡ length b / 2 ↔ (ascending 0 (numbers_in b) ≡ true)
  good_numbers = (there, back)
    where
      fine : (e : first_true (bad_number b) (length b / 2) ≡ length b / 2) (k : ℕ) → k < length b / 2 → (eqb (number_at b k) 65535 ≡ false) × ((ltb 0 k && leb (number_at b k) (number_at b (k - 1))) ≡ false)
      fine e k h = or_none (eqb (number_at b k) 65535) _ (first_none (bad_number b) (length b / 2) e k h)

      small : first_true (bad_number b) (length b / 2) ≡ length b / 2 → (k : ℕ) → k < length (numbers_in b) → get_or (numbers_in b) k 0 < 65535
      small e k h =
          let n : (number_at b k ≡ 65535 → ⊥) = eqb-false _ _ (fine e k (omega (arith, len))).0 in
          omega (arith, number_at_lem b k even, numbers_most b k oct)

      step : first_true (bad_number b) (length b / 2) ≡ length b / 2 → (k : ℕ) → suc k < length (numbers_in b) → get_or (numbers_in b) k 0 < get_or (numbers_in b) (suc k) 0
      step e k h =
          let j : suc k - 1 ≡ k = omega arith in
          let p : number_at b k < number_at b (suc k) = leb-false _ _ (rw (lt-ltb 0 (suc k) (omega arith), j) at (fine e (suc k) (omega (arith, len))).1) in
          omega (arith, number_at_lem b k even, number_at_lem b (suc k) even)

      there : first_true (bad_number b) (length b / 2) ≡ length b / 2 → ascending 0 (numbers_in b) ≡ true
      there e = rise_from 0 (numbers_in b) (small e) (λ h. zero-le) (step e)

      good : ascending 0 (numbers_in b) ≡ true → (k : ℕ) → k < length b / 2 → bad_number b k ≡ false
      good r zero h = rw (ne_eqb (number_at b 0) 65535 (let s = rise_small 0 (numbers_in b) 0 r (omega (arith, len)) in omega (arith, number_at_lem b 0 even)))
      good r (suc k) h =
          let j : suc k - 1 ≡ k = omega arith in
          let s = rise_small 0 (numbers_in b) (suc k) r (omega (arith, len)) in
          let t = rise_step 0 (numbers_in b) k r (omega (arith, len)) in
          rw (ne_eqb (number_at b (suc k)) 65535 (omega (arith, number_at_lem b (suc k) even)), j, lt-leb (number_at b (suc k)) (number_at b k) (omega (arith, number_at_lem b k even, number_at_lem b (suc k) even)), and-false)

      back : ascending 0 (numbers_in b) ≡ true → first_true (bad_number b) (length b / 2) ≡ length b / 2
      back r = first_none_is (bad_number b) (length b / 2) (good r)

-- Falling pairs by index.
fall_ord : (top : ℕ) (ps : List Run) (j : ℕ) → Falling top ps → j < length ps → ((get_or ps j (run 0 0)).low ≤ (get_or ps j (run 0 0)).high) × ((get_or ps j (run 0 0)).high < top)
fall_ord top [] j f h = absurd (omega arith)
fall_ord top (p ∷ ps) zero f h = (f.1, f.0)
fall_ord top (p ∷ ps) (suc j) f h = let q = fall_ord p.low ps j f.2 (omega arith) in (q.0, omega arith)

fall_step : (top : ℕ) (ps : List Run) (j : ℕ) → Falling top ps → suc j < length ps → (get_or ps (suc j) (run 0 0)).high < (get_or ps j (run 0 0)).low
fall_step top [] j f h = absurd (omega arith)
fall_step top (p ∷ ps) zero f h = (fall_ord p.low ps 0 f.2 (omega arith)).1
fall_step top (p ∷ ps) (suc j) f h = fall_step p.low ps j f.2 (omega arith)

fall_from : (top : ℕ) (ps : List Run) → ((j : ℕ) → j < length ps → (get_or ps j (run 0 0)).low ≤ (get_or ps j (run 0 0)).high) → (0 < length ps → (get_or ps 0 (run 0 0)).high < top) → ((j : ℕ) → suc j < length ps → (get_or ps (suc j) (run 0 0)).high < (get_or ps j (run 0 0)).low) → Falling top ps
fall_from top [] ord start step = tt
fall_from top (p ∷ ps) ord start step = (start (omega arith), ord 0 (omega arith), fall_from p.low ps (λ j h. ord (suc j) (omega arith)) (λ h. step 0 (omega arith)) (λ j h. step (suc j) (omega arith)))

module _ (b : List ℕ) (even : length b % 2 ≡ 0) (oct : Octets b) where
  ps : List Run
  ps = pairs_in (numbers_in b)

  count : pairs_of b ≡ length ps
  unfolding ps
  count = pairs_are b even

  top_is : (j : ℕ) → (get_or ps j (run 0 0)).high ≡ top_at b j
  unfolding ps
  top_is j = ap (λ (r : Run). r.high) (pair_is b even j)

  bottom_is : (j : ℕ) → (get_or ps j (run 0 0)).low ≡ bottom_at b j
  unfolding ps
  bottom_is j = ap (λ (r : Run). r.low) (pair_is b even j)

  fine : (e : first_true (bad_pair b) (pairs_of b) ≡ pairs_of b) (j : ℕ) → j < length ps → (top_at b j ≡ 65535 → ⊥) × (bottom_at b j ≤ top_at b j) × (0 < j → top_at b j < bottom_at b (j - 1))
  fine e j h =
      let p = or_none (eqb (top_at b j) 65535) (ltb (top_at b j) (bottom_at b j) || (ltb 0 j && leb (bottom_at b (j - 1)) (top_at b j))) (first_none (bad_pair b) (pairs_of b) e j (omega (arith, count))) in
      let q = or_none (ltb (top_at b j) (bottom_at b j)) (ltb 0 j && leb (bottom_at b (j - 1)) (top_at b j)) p.1 in
      (eqb-false _ _ p.0, ltb-false (top_at b j) (bottom_at b j) q.0, λ z. leb-false (bottom_at b (j - 1)) (top_at b j) (rw (lt-ltb 0 j z) at q.1))

  pub good_pairs : first_true (bad_pair b) (pairs_of b) ≡ pairs_of b ↔ (falling 65535 (pairs_in (numbers_in b)) ≡ true)
  unfolding ps
  good_pairs = (there, back)
    where
      there : first_true (bad_pair b) (pairs_of b) ≡ pairs_of b → falling 65535 ps ≡ true
      there e = true_falling 65535 ps (fall_from 65535 ps (λ j h. omega (arith, (fine e j h).1, top_is j, bottom_is j)) (λ h. (let n = (fine e 0 h).0 in omega (arith, top_is 0, number_at_lem b 0 even, numbers_most b 0 oct))) (λ j h. (let k : suc j - 1 ≡ j = omega arith in let q : top_at b (suc j) < bottom_at b j = rw k at ((fine e (suc j) h).2 (omega arith)) in omega (arith, top_is (suc j), bottom_is j))))

      good : Falling 65535 ps → (j : ℕ) → j < pairs_of b → bad_pair b j ≡ false
      good f zero h =
          let q = fall_ord 65535 ps 0 f (omega (arith, count)) in
          rw (ne_eqb (top_at b 0) 65535 (omega (arith, top_is 0)), le-ltb (top_at b 0) (bottom_at b 0) (omega (arith, top_is 0, bottom_is 0)))
      good f (suc j) h =
          let q = fall_ord 65535 ps (suc j) f (omega (arith, count)) in
          let t = fall_step 65535 ps j f (omega (arith, count)) in
          let k : suc j - 1 ≡ j = omega arith in
          rw (ne_eqb (top_at b (suc j)) 65535 (omega (arith, top_is (suc j))), le-ltb (top_at b (suc j)) (bottom_at b (suc j)) (omega (arith, top_is (suc j), bottom_is (suc j))), k, lt-leb (bottom_at b j) (top_at b (suc j)) (omega (arith, top_is (suc j), bottom_is j)), and-false)

      back : falling 65535 ps ≡ true → first_true (bad_pair b) (pairs_of b) ≡ pairs_of b
      back r = first_none_is (bad_pair b) (pairs_of b) (good (falling_true 65535 ps r))
