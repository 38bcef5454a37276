-- What loops compute by index is what the definitions say over lists.
use Prim.Native.Nat.{ℕ, zero, suc, ◌+◌, ◌-◌, ◌*◌, ◌/◌, ◌%◌, ◌≤◌, ◌<◌}
use mathlib.Core.Path.{◌≡◌, refl, ap, sym, ◌∙◌}
use mathlib.Core.List.{List, [], ◌∷◌, ◌++◌, append_assoc}
use mathlib.Core.Bool.{Bool, true, false, cond}
use lib.ListN.{length, get_or, take, drop, drop_of_length-le}
use lib.Seq.{take-suc, take-length, drop-cons}
use lib.Dec.{eqb}
use native.Mathlib.Omega.{arith}
use native.Mathlib.Nat.{le_refl}
use native.Mathlib.Decide.{dec_le}
use borrow.Author.Tests.{eqb-true}
use Rattle.label.specs.declared.Run.{Run}
use Rattle.label.specs.Runs.{run, push_run, joined, count_of}
use Rattle.option.specs.Reading.{turned}
use Rattle.option.specs.Option.{numbers_in, singles, pairs_in}
use Rattle.option.specs.Reading.{bit_pieces}
use Rattle.option.specs.Spelling.{octets_out, count_up, numbers_of, ends_of, size5}
use Rattle.option.specs.Index.{set_runs, range_runs, number_at, pairs_of, top_at, bottom_at, low_pair, high_pair, numbers_out, pair_number, rank_number}
use Rattle.option.proofs.Pieces.{singles_length}
use Rattle.option.proofs.Meaning.{numbers_length}
use Rattle.option.proofs.Spelled.{ends_length, numbers_count}

-- Tag 1.
pub set_joined : (f : ℕ → Bool) (n : ℕ) → set_runs f n ≡ joined (bit_pieces f n)
set_joined f zero = refl
set_joined f (suc n) = go (f n) (set_joined f n)
  where
    go : (b : Bool) → set_runs f n ≡ joined (bit_pieces f n) → cond b (push_run (set_runs f n) n n) (set_runs f n) ≡ joined (cond b (run n n ∷ bit_pieces f n) (bit_pieces f n))
    go true ih = ap (λ (z : List Run). push_run z n n) ih
    go false ih = ih

-- Numbers by index.
pub number_at_lem : (b : List ℕ) (k : ℕ) → length b % 2 ≡ 0 → get_or (numbers_in b) k 0 ≡ number_at b k
number_at_lem [] k e = refl
number_at_lem (a ∷ []) k e = absurd (omega arith)
number_at_lem (a ∷ c ∷ b) zero e = refl
number_at_lem (a ∷ c ∷ b) (suc k) e =
    let x : 2 * suc k ≡ suc (suc (2 * k)) = omega arith in
    let y : suc (suc (2 * k)) + 1 ≡ suc (suc (2 * k + 1)) = omega arith in
    rw (x, y) (number_at_lem b k (omega arith))

singles_at : (xs : List ℕ) (k : ℕ) → get_or (singles xs) k (run 0 0) ≡ run (get_or xs k 0) (get_or xs k 0)
singles_at [] k = refl
singles_at (x ∷ xs) zero = refl
singles_at (x ∷ xs) (suc k) = singles_at xs k

pub pair_at : (ns : List ℕ) (j : ℕ) → get_or (pairs_in ns) j (run 0 0) ≡ run (get_or ns (2 * j + 1) 0) (get_or ns (2 * j) 0)
pair_at [] j = refl
pair_at (t ∷ []) zero = refl
pair_at (t ∷ []) (suc j) =
    let x : 2 * suc j ≡ suc (suc (2 * j)) = omega arith in
    let y : suc (suc (2 * j)) + 1 ≡ suc (suc (2 * j + 1)) = omega arith in
    rw (x, y)
pair_at (t ∷ b ∷ ns) zero = refl
pair_at (t ∷ b ∷ ns) (suc j) =
    let x : 2 * suc j ≡ suc (suc (2 * j)) = omega arith in
    let y : suc (suc (2 * j)) + 1 ≡ suc (suc (2 * j + 1)) = omega arith in
    rw (x, y) (pair_at ns j)

pub pairs_count : (ns : List ℕ) → length (pairs_in ns) ≡ (length ns + 1) / 2
pairs_count [] = refl
pairs_count (t ∷ []) = refl
pairs_count (t ∷ b ∷ ns) = omega (arith, pairs_count ns)

-- Tag 2, lowest first.
pub turned_snoc : (acc xs : List Run) (x : Run) → turned acc (xs ++ x ∷ []) ≡ x ∷ turned acc xs
turned_snoc acc [] x = refl
turned_snoc acc (y ∷ xs) x = turned_snoc (y ∷ acc) xs x

module _ (b : List ℕ) (even : length b % 2 ≡ 0) where
  up_to : (n : ℕ) → n ≤ length (singles (numbers_in b)) → range_runs (number_at b) (number_at b) n ≡ joined (turned [] (take n (singles (numbers_in b))))
  up_to zero h = refl
  up_to (suc n) h =
      rw (take-suc (singles (numbers_in b)) n (run 0 0) h, turned_snoc [] (take n (singles (numbers_in b))) (get_or (singles (numbers_in b)) n (run 0 0)), singles_at (numbers_in b) n, number_at_lem b n even, up_to n (omega arith))

  pub numbers_joined : range_runs (number_at b) (number_at b) (length b / 2) ≡ joined (turned [] (singles (numbers_in b)))
  numbers_joined =
      let l : length b / 2 ≡ length (singles (numbers_in b)) = omega (arith, singles_length (numbers_in b), numbers_length b) in
      rw (l, up_to (length (singles (numbers_in b))) (le_refl _), take-length (singles (numbers_in b)))

  -- Tag 5, from the last pair to the first.
  pub pairs_are : pairs_of b ≡ length (pairs_in (numbers_in b))
  pairs_are = omega (arith, pairs_count (numbers_in b), numbers_length b)

  pub pair_is : (j : ℕ) → get_or (pairs_in (numbers_in b)) j (run 0 0) ≡ run (bottom_at b j) (top_at b j)
  pair_is j = pair_at (numbers_in b) j ∙ rw (number_at_lem b (2 * j + 1) even, number_at_lem b (2 * j) even)

  step : (n i : ℕ) → n ≡ suc i → i < length (pairs_in (numbers_in b)) → joined (drop i (pairs_in (numbers_in b))) ≡ push_run (joined (drop n (pairs_in (numbers_in b)))) (bottom_at b i) (top_at b i)
  step n i e h = rw (e, drop-cons (pairs_in (numbers_in b)) i (run 0 0) h, pair_is i)

  down_to : (m : ℕ) → m ≤ pairs_of b → range_runs (low_pair b) (high_pair b) m ≡ joined (drop (pairs_of b - m) (pairs_in (numbers_in b)))
  down_to zero h = ap joined (sym (drop_of_length-le (pairs_in (numbers_in b)) {i = pairs_of b - 0} (omega (arith, pairs_are))))
  down_to (suc m) h =
      let x : pairs_of b - m ≡ suc (pairs_of b - suc m) = omega arith in
      let y : pairs_of b - 1 - m ≡ pairs_of b - suc m = omega arith in
      ap (λ (z : List Run). push_run z (low_pair b m) (high_pair b m)) (down_to m (omega arith)) ∙ rw y (sym (step (pairs_of b - m) (pairs_of b - suc m) x (omega (arith, pairs_are))))

  pub pairs_joined : range_runs (low_pair b) (high_pair b) (pairs_of b) ≡ joined (pairs_in (numbers_in b))
  pairs_joined =
      let z : pairs_of b - pairs_of b ≡ 0 = omega arith in
      down_to (pairs_of b) (le_refl _) ∙ rw z

-- The writer of tag 2: run by run, number by number.
up_more : (x n : ℕ) (rest : List ℕ) → count_up x n rest ≡ count_up x n [] ++ rest
up_more x zero rest = refl
up_more x (suc n) rest = ap (λ (z : List ℕ). x ∷ z) (up_more (x + 1) n rest)

pub up_next : (x n : ℕ) → count_up x (suc n) [] ≡ count_up x n [] ++ (x + n) ∷ []
up_next x zero = let e : x ≡ x + 0 = omega arith in λ i. e i ∷ []
up_next x (suc n) =
    let e : x + 1 + n ≡ x + suc n = omega arith in
    ap (λ (z : List ℕ). x ∷ z) (rw e at (up_next (x + 1) n))

pub numbers_append : (xs ys : List Run) → numbers_of (xs ++ ys) ≡ numbers_of xs ++ numbers_of ys
numbers_append [] ys = refl
numbers_append (x ∷ xs) ys =
    rw (numbers_append xs ys) (up_more x.low (x.high + 1 - x.low) (numbers_of xs ++ numbers_of ys)
    ∙ sym (append_assoc (count_up x.low (x.high + 1 - x.low) []) (numbers_of xs) (numbers_of ys))
    ∙ ap (λ (z : List ℕ). z ++ numbers_of ys) (sym (up_more x.low (x.high + 1 - x.low) (numbers_of xs))))

pub numbers_next : (rs : List Run) (i : ℕ) → i < length rs → numbers_of (take (suc i) rs) ≡ numbers_of (take i rs) ++ count_up (get_or rs i (run 0 0)).low ((get_or rs i (run 0 0)).high + 1 - (get_or rs i (run 0 0)).low) []
numbers_next rs i h = rw (take-suc rs i (run 0 0) h) (numbers_append (take i rs) (get_or rs i (run 0 0) ∷ []))

-- The writer of tag 5.
pub out_append : (xs ys : List ℕ) → octets_out (xs ++ ys) ≡ octets_out xs ++ octets_out ys
out_append [] ys = refl
out_append (x ∷ xs) ys = ap (λ (z : List ℕ). x / 256 ∷ x % 256 ∷ z) (out_append xs ys)

pub numbers_out_lem : (f : ℕ → ℕ) (xs : List ℕ) (n : ℕ) → n ≤ length xs → ((k : ℕ) → k < length xs → f k ≡ get_or xs k 0) → numbers_out f n ≡ octets_out (take n xs)
numbers_out_lem f xs zero h same = refl
numbers_out_lem f xs (suc n) h same = rw (take-suc xs n 0 h, out_append (take n xs) (get_or xs n 0 ∷ []), numbers_out_lem f xs n (omega arith) same, same n h)

ends_at : (ds : List Run) (k : ℕ) → get_or (ends_of ds) k 0 ≡ cond (eqb (k % 2) 0) (get_or ds (k / 2) (run 0 0)).high (get_or ds (k / 2) (run 0 0)).low
ends_at [] k = go (eqb (k % 2) 0)
  where
    go : (z : Bool) → ◌≡◌ {A = ℕ} 0 (cond z 0 0)
    go true = refl
    go false = refl
ends_at (r ∷ []) zero = go (eqb r.low 0)
  where
    go : (z : Bool) → get_or (cond z (r.high ∷ []) (r.high ∷ r.low ∷ [])) 0 0 ≡ r.high
    go true = refl
    go false = refl
ends_at (r ∷ []) (suc zero) = go (eqb r.low 0) refl
  where
    go : (z : Bool) → eqb r.low 0 ≡ z → get_or (cond z (r.high ∷ []) (r.high ∷ r.low ∷ [])) 1 0 ≡ r.low
    go true e = sym (eqb-true r.low 0 e)
    go false e = refl
ends_at (r ∷ []) (suc (suc k)) = go (eqb r.low 0) ∙ rw half (go2 (eqb (suc (suc k) % 2) 0))
  where
    half : suc (suc k) / 2 ≡ suc (k / 2)
    half = omega arith

    go : (z : Bool) → get_or (cond z (r.high ∷ []) (r.high ∷ r.low ∷ [])) (suc (suc k)) 0 ≡ 0
    go true = refl
    go false = refl

    go2 : (z : Bool) → ◌≡◌ {A = ℕ} 0 (cond z 0 0)
    go2 true = refl
    go2 false = refl
ends_at (r ∷ s ∷ ds) zero = refl
ends_at (r ∷ s ∷ ds) (suc zero) = refl
ends_at (r ∷ s ∷ ds) (suc (suc k)) =
    let half : suc (suc k) / 2 ≡ suc (k / 2) = omega arith in
    let par : suc (suc k) % 2 ≡ k % 2 = omega arith in
    rw (half, par) (ends_at (s ∷ ds) k)

turned_past : (acc rs : List Run) (j : ℕ) → get_or (turned acc rs) (length rs + j) (run 0 0) ≡ get_or acc j (run 0 0)
turned_past acc [] j = let e : 0 + j ≡ j = omega arith in rw e
turned_past acc (r ∷ rs) j =
    let e : length (r ∷ rs) + j ≡ length rs + suc j = omega arith in
    rw e (turned_past (r ∷ acc) rs (suc j))

pub turned_at : (acc rs : List Run) (j : ℕ) → j < length rs → get_or (turned acc rs) j (run 0 0) ≡ get_or rs (length rs - 1 - j) (run 0 0)
turned_at acc [] j h = absurd (omega arith)
turned_at acc (r ∷ rs) j h = go (dec_le (suc j) (length rs)) (turned_at (r ∷ acc) rs j)
  where
    go : Dec (j < length rs) → (j < length rs → get_or (turned (r ∷ acc) rs) j (run 0 0) ≡ get_or rs (length rs - 1 - j) (run 0 0)) → get_or (turned (r ∷ acc) rs) j (run 0 0) ≡ get_or (r ∷ rs) (length (r ∷ rs) - 1 - j) (run 0 0)
    go (yes u) ih = let e : length (r ∷ rs) - 1 - j ≡ suc (length rs - 1 - j) = omega arith in rw e (ih u)
    go (no u) ih =
        let e : length (r ∷ rs) - 1 - j ≡ 0 = omega arith in
        let x : j ≡ length rs + 0 = omega arith in
        rw e (ap (λ (n : ℕ). get_or (turned (r ∷ acc) rs) n (run 0 0)) x ∙ turned_past (r ∷ acc) rs 0)

ends_most : (ds : List Run) → length (ends_of ds) ≤ 2 * length ds
ends_most [] = omega arith
ends_most (r ∷ []) = go (eqb r.low 0)
  where
    go : (z : Bool) → length (cond z (r.high ∷ []) (r.high ∷ r.low ∷ [])) ≤ 2 * 1
    go true = omega arith
    go false = omega arith
ends_most (r ∷ s ∷ ds) = omega (arith, ends_most (s ∷ ds))

-- the first m numbers, written by index, are the body of tag 5
pub pairs_out : (rs : List Run) (m : ℕ) → 2 * m ≡ size5 rs → numbers_out (pair_number rs) m ≡ octets_out (ends_of (turned [] rs))
pairs_out rs m e =
    let l : m ≡ length (ends_of (turned [] rs)) = omega (arith, ends_length rs) in
    numbers_out_lem (pair_number rs) (ends_of (turned [] rs)) m (omega arith) at_k ∙ rw (l, take-length (ends_of (turned [] rs)))
  where
    at_k : (k : ℕ) → k < length (ends_of (turned [] rs)) → pair_number rs k ≡ get_or (ends_of (turned [] rs)) k 0
    at_k k h = sym (ends_at (turned [] rs) k ∙ rw (turned_at [] rs (k / 2) (omega (arith, ends_length rs))))

-- and so is the body of tag 2
pub ranks_out : (rs : List Run) (m : ℕ) → m ≡ count_of rs → numbers_out (rank_number rs) m ≡ octets_out (numbers_of rs)
ranks_out rs m e =
    let l : m ≡ length (numbers_of rs) = e ∙ sym (numbers_count rs) in
    numbers_out_lem (rank_number rs) (numbers_of rs) m (omega arith) (λ k h. refl) ∙ rw (l, take-length (numbers_of rs))

-- a category by its rank: in the first run, or after it
pub rank_in_lem : (x n : ℕ) (rest : List ℕ) (j : ℕ) → j < n → get_or (count_up x n rest) j 0 ≡ x + j
rank_in_lem x zero rest j h = absurd (omega arith)
rank_in_lem x (suc n) rest zero h = omega arith
rank_in_lem x (suc n) rest (suc j) h = rank_in_lem (x + 1) n rest j (omega arith) ∙ omega arith

pub rank_past : (x n : ℕ) (rest : List ℕ) (j : ℕ) → n ≤ j → get_or (count_up x n rest) j 0 ≡ get_or rest (j - n) 0
rank_past x zero rest j h = let e : j ≡ j - 0 = omega arith in ap (λ (k : ℕ). get_or rest k 0) e
rank_past x (suc n) rest zero h = absurd (omega arith)
rank_past x (suc n) rest (suc j) h =
    let e : j - n ≡ suc j - suc n = omega arith in
    rank_past (x + 1) n rest j (omega arith) ∙ ap (λ (k : ℕ). get_or rest k 0) e
