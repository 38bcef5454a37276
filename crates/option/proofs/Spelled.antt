-- What is spelled in each tag is a good body and has exactly the categories.
use Prim.Native.Nat.{ℕ, zero, suc, ◌+◌, ◌-◌, ◌*◌, ◌/◌, ◌%◌, ◌≤◌, ◌<◌, zero-le}
use mathlib.Core.Path.{◌≡◌, refl, ap, sym, ◌∙◌}
use mathlib.Core.List.{List, [], ◌∷◌}
use mathlib.Core.Bool.{Bool, true, false, ◌&&◌, ◌||◌, cond, or-false}
use lib.ListN.{length}
use lib.Dec.{leb, ltb, eqb}
use native.Mathlib.Omega.{arith}
use native.Mathlib.Nat.{le_refl}
use native.Mathlib.Decide.{dec_le}
use borrow.Author.Tests.{le-leb, lt-leb, lt-ltb, le-ltb, ltb-true, leb-true, eqb-true, eq-eqb}
use Rattle.label.specs.declared.Run.{Run}
use Rattle.label.specs.Runs.{run, covers, count_of}
use Rattle.option.specs.Reading.{turned}
use Rattle.label.proofs.Canon.{Canon, Below}
use Rattle.option.specs.declared.Spellings.{Spellings}
use Rattle.option.specs.declared.Form.{Form}
use Rattle.option.specs.Permitted.{trimmed, tight}
use Rattle.option.specs.Spelling.{bits_of, octets_of}
use Rattle.option.specs.Option.{Octets, numbers_in, singles, ascending, pairs_in, falling, good_body, body_has}
use Rattle.option.proofs.Octets.{octets_append}
use Rattle.option.proofs.Forms.{MeansRuns}
use Rattle.option.specs.Spelling.{size1, size2, size5, octets_out, count_up, numbers_of, ends_of, body_for, option_of}
use Rattle.option.proofs.Forms.{FormedRuns}
use Rattle.option.proofs.Bits.{octets_length, bits_lt}
use Rattle.option.proofs.Top.{bitmap_bit, shortest_trimmed}
use Rattle.option.proofs.Choice.{Taken, take0, take1, take_ten, take2, take5}
use Rattle.label.proofs.Bools.{and_left, and_right}
use Rattle.option.proofs.Pieces.{Falling, Rising, true_falling, turned_covers, turned_falling}
use Rattle.option.proofs.Meaning.{parts_valid, tagged, body_most}

-- Two-octet numbers.
pub numbers_back : (xs : List ℕ) → numbers_in (octets_out xs) ≡ xs
numbers_back [] = refl
numbers_back (x ∷ xs) =
    let e : x / 256 * 256 + x % 256 ≡ x = omega arith in
    let t = numbers_back xs in
    λ i. e i ∷ t i

pub out_length : (xs : List ℕ) → length (octets_out xs) ≡ 2 * length xs
out_length [] = refl
out_length (x ∷ xs) = omega (arith, out_length xs)

-- Tag 2: the numbers.
rising_lower : (lo lo' : ℕ) (xs : List ℕ) → lo ≤ lo' → ascending lo' xs ≡ true → ascending lo xs ≡ true
rising_lower lo lo' [] h e = refl
rising_lower lo lo' (x ∷ xs) h e =
    let l = leb-true lo' x (and_left (leb lo' x) _ e) in
    rw (le-leb lo x (omega arith)) (and_right (leb lo' x) _ e)

up_rising : (x n : ℕ) (rest : List ℕ) → x + n ≤ 65535 → ascending (x + n) rest ≡ true → ascending x (count_up x n rest) ≡ true
up_rising x zero rest h e = rising_lower x (x + 0) rest (omega arith) e
up_rising x (suc n) rest h e =
    let s : x + suc n ≡ x + 1 + n = omega arith in
    rw (le-leb x x (le_refl x), lt-ltb x 65535 (omega arith)) (up_rising (x + 1) n rest (omega arith) (rw s at e))

pub numbers_rising : (lo : ℕ) (rs : List Run) → Canon lo rs → Below 65535 rs → ascending lo (numbers_of rs) ≡ true
numbers_rising lo [] k b = refl
numbers_rising lo (r ∷ rs) k b =
    rising_lower lo r.low (numbers_of (r ∷ rs)) k.0
    (up_rising r.low (r.high + 1 - r.low) (numbers_of rs) (omega arith)
    (rising_lower (r.low + (r.high + 1 - r.low)) (r.high + 2) (numbers_of rs) (omega arith) (numbers_rising (r.high + 2) rs k.2 b.1)))

up_covers : (x n : ℕ) (rest : List ℕ) (c : ℕ) → covers (singles (count_up x n rest)) c ≡ ((leb x c && ltb c (x + n)) || covers (singles rest) c)
up_covers x zero rest c = elim (dec_le x c) [ yes u ↦ simp (le-leb x c u, le-ltb c (x + 0) (omega arith)) | no u ↦ simp (lt-leb x c (omega arith)) ]
up_covers x (suc n) rest c = go (dec_le x c) (dec_le c x) (up_covers (x + 1) n rest c) (dec_le (x + 1 + n) c)
  where
    go : Dec (x ≤ c) → Dec (c ≤ x) → covers (singles (count_up (x + 1) n rest)) c ≡ ((leb (x + 1) c && ltb c (x + 1 + n)) || covers (singles rest) c) → Dec (x + 1 + n ≤ c)
        → ((leb x c && leb c x) || covers (singles (count_up (x + 1) n rest)) c) ≡ ((leb x c && ltb c (x + suc n)) || covers (singles rest) c)
    go (no u) v ih w = rw ih (simp (lt-leb x c (omega arith), lt-leb (x + 1) c (omega arith)))
    go (yes u) (yes v) ih w = simp (le-leb x c u, le-leb c x v, lt-ltb c (x + suc n) (omega arith))
    go (yes u) (no v) ih (yes w) = rw ih (simp (le-leb x c u, lt-leb c x (omega arith), le-leb (x + 1) c (omega arith), le-ltb c (x + 1 + n) w, le-ltb c (x + suc n) (omega arith)))
    go (yes u) (no v) ih (no w) = rw ih (simp (le-leb x c u, lt-leb c x (omega arith), le-leb (x + 1) c (omega arith), lt-ltb c (x + 1 + n) (omega arith), lt-ltb c (x + suc n) (omega arith)))

pub numbers_cover : (lo : ℕ) (rs : List Run) (c : ℕ) → Canon lo rs → covers (singles (numbers_of rs)) c ≡ covers rs c
numbers_cover lo [] c k = refl
numbers_cover lo (r ∷ rs) c k = up_covers r.low (r.high + 1 - r.low) (numbers_of rs) c ∙ rw (numbers_cover (r.high + 2) rs c k.2, end (dec_le c r.high))
  where
    end : Dec (c ≤ r.high) → ltb c (r.low + (r.high + 1 - r.low)) ≡ leb c r.high
    end (yes u) = rw (lt-ltb c (r.low + (r.high + 1 - r.low)) (omega arith), le-leb c r.high u)
    end (no u) = rw (le-ltb c (r.low + (r.high + 1 - r.low)) (omega arith), lt-leb c r.high (omega arith))

up_length : (x n : ℕ) (rest : List ℕ) → length (count_up x n rest) ≡ n + length rest
up_length x zero rest = omega arith
up_length x (suc n) rest = omega (arith, up_length (x + 1) n rest)

pub numbers_count : (rs : List Run) → length (numbers_of rs) ≡ count_of rs
numbers_count [] = refl
numbers_count (r ∷ rs) = omega (arith, up_length r.low (r.high + 1 - r.low) (numbers_of rs), numbers_count rs)

-- Tag 5: the ends.
pub pairs_back : (ds : List Run) → pairs_in (ends_of ds) ≡ ds
pairs_back [] = refl
pairs_back (r ∷ []) = go (eqb r.low 0) refl
  where
    go : (z : Bool) → eqb r.low 0 ≡ z → pairs_in (cond z (r.high ∷ []) (r.high ∷ r.low ∷ [])) ≡ r ∷ []
    go true e = let l = eqb-true r.low 0 e in λ i. run (sym l i) r.high ∷ []
    go false e = refl
pairs_back (r ∷ s ∷ ds) = ap (λ (z : List Run). r ∷ z) (pairs_back (s ∷ ds))

ends_turned : (a : Run) (acc rs : List Run) → length (ends_of (turned (a ∷ acc) rs)) ≡ 2 * length rs + length (ends_of (a ∷ acc))
ends_turned a acc [] = omega arith
ends_turned a acc (r ∷ rs) = omega (arith, ends_turned r (a ∷ acc) rs)

pub ends_length : (rs : List Run) → 2 * length (ends_of (turned [] rs)) ≡ size5 rs
ends_length [] = refl
ends_length (r ∷ rs) = go (eqb r.low 0) (ends_turned r [] rs)
  where
    go : (z : Bool) → length (ends_of (turned (r ∷ []) rs)) ≡ 2 * length rs + length (cond z (r.high ∷ []) (r.high ∷ r.low ∷ [])) → 2 * length (ends_of (turned (r ∷ []) rs)) ≡ 4 * length (r ∷ rs) - cond z 2 0
    go true e = omega arith
    go false e = omega arith

canon_rising : (lo lo' : ℕ) (rs : List Run) → lo ≤ lo' → lo ≤ 65535 → Canon lo' rs → Below 65535 rs → Rising lo 65535 rs
canon_rising lo lo' [] h l k b = l
canon_rising lo lo' (r ∷ rs) h l k b = (omega arith, k.1, canon_rising (r.high + 1) (r.high + 2) rs (omega arith) (omega arith) k.2 b.1)

-- What is written are octets.
bitmap_octets : (f : ℕ → Bool) (n : ℕ) → Octets (octets_of f n)
bitmap_octets f zero = tt
bitmap_octets f (suc n) = octets_append (octets_of f n) (bits_of f (8 * n) 8 ∷ []) (bitmap_octets f n) (bits_lt f (8 * n) 8, tt)

rising_octets : (lo : ℕ) (xs : List ℕ) → ascending lo xs ≡ true → Octets (octets_out xs)
rising_octets lo [] e = tt
rising_octets lo (x ∷ xs) e =
    let e1 = and_right (leb lo x) _ e in
    let u = ltb-true x 65535 (and_left (ltb x 65535) _ e1) in
    (omega arith, (omega arith, rising_octets (x + 1) xs (and_right (ltb x 65535) _ e1)))

falling_octets : (top : ℕ) (ds : List Run) → top ≤ 65535 → Falling top ds → Octets (octets_out (ends_of ds))
falling_octets top [] h f = tt
falling_octets top (r ∷ []) h f = go (eqb r.low 0)
  where
    go : (z : Bool) → Octets (octets_out (cond z (r.high ∷ []) (r.high ∷ r.low ∷ [])))
    go true = (omega arith, (omega arith, tt))
    go false = (omega arith, (omega arith, (omega arith, (omega arith, tt))))
falling_octets top (r ∷ s ∷ ds) h f = (omega arith, (omega arith, (omega arith, (omega arith, falling_octets r.low (s ∷ ds) (omega arith) f.2))))

-- The bodies.
pub body1_length : (n : ℕ) (rs : List Run) → length (body_for 1 n rs) ≡ n
unfolding body_for
body1_length n rs = octets_length (covers rs) n

pub body2_length : (n : ℕ) (rs : List Run) → length (body_for 2 n rs) ≡ size2 rs
unfolding body_for
body2_length n rs = omega (arith, out_length (numbers_of rs), numbers_count rs)

pub body5_length : (n : ℕ) (rs : List Run) → length (body_for 5 n rs) ≡ size5 rs
unfolding body_for
body5_length n rs = omega (arith, out_length (ends_of (turned [] rs)), ends_length rs)

-- the octets that the form says
pub form_size : (p : Spellings) (rs : List Run) (f : Form) → Taken p (size1 rs) (size2 rs) (size5 rs) f → 0 < f.tag → length (body_for f.tag f.size rs) ≡ f.size
form_size p rs f (take1 e h) q = body1_length (size1 rs) rs
form_size p rs f (take_ten e h) q = body1_length 10 rs
form_size p rs f (take2 e h) q = body2_length (size2 rs) rs
form_size p rs f (take5 e h) q = body5_length (size5 rs) rs
form_size p rs f take0 q = absurd (omega arith)

-- Runs that keep apart, highest first, are written tight.
abbrev Apart : List Run → Type 0
Apart [] = Unit {0}
Apart (r ∷ []) = Unit {0}
Apart (r ∷ s ∷ ds) = (s.high + 1 < r.low) × Apart (s ∷ ds)

tight_ends : (ds : List Run) → Apart ds → tight (ends_of ds) ≡ true
tight_ends [] q = refl
tight_ends (r ∷ []) q = go (eqb r.low 0) refl
  where
    go : (z : Bool) → eqb r.low 0 ≡ z → tight (cond z (r.high ∷ []) (r.high ∷ r.low ∷ [])) ≡ true
    go true e = refl
    go false e = rw e
tight_ends (r ∷ s ∷ ds) q = go ds (tight_ends (s ∷ ds) q.1)
  where
    go : (xs : List Run) → tight (ends_of (s ∷ xs)) ≡ true → tight (ends_of (r ∷ s ∷ xs)) ≡ true
    go [] ih = last (eqb s.low 0) ih
      where
        last : (z : Bool) → tight (cond z (s.high ∷ []) (s.high ∷ s.low ∷ [])) ≡ true → tight (r.high ∷ r.low ∷ cond z (s.high ∷ []) (s.high ∷ s.low ∷ [])) ≡ true
        last true e = rw (lt-ltb (s.high + 1) r.low q.0)
        last false e = rw (lt-ltb (s.high + 1) r.low q.0) e
    go (t ∷ xs) ih = rw (lt-ltb (s.high + 1) r.low q.0) ih

-- what is there begins far enough below
abbrev Starts : ℕ → List Run → Type 0
Starts lo [] = Unit {0}
Starts lo (s ∷ acc) = s.high + 2 ≤ lo

turned_apart : (lo : ℕ) (acc rs : List Run) → Canon lo rs → Apart acc → Starts lo acc → Apart (turned acc rs)
turned_apart lo acc [] k a b = a
turned_apart lo acc (r ∷ rs) k a b = turned_apart (r.high + 2) (r ∷ acc) rs k.2 (onto acc a b) (le_refl (r.high + 2))
  where
    onto : (acc : List Run) → Apart acc → Starts lo acc → Apart (r ∷ acc)
    onto [] a b = tt
    onto (s ∷ acc) a b = (omega (arith, k.0), a)

module _ (rs : List Run) (k : Canon 0 rs) (b : Below 65535 rs) where
  runs_fall : Falling 65535 (turned [] rs)
  runs_fall = turned_falling 0 65535 [] rs tt (canon_rising 0 0 rs zero-le zero-le k b)

  pub octets1 : (n : ℕ) → Octets (body_for 1 n rs)
  unfolding body_for
  octets1 n = bitmap_octets (covers rs) n

  pub octets2 : (n : ℕ) → Octets (body_for 2 n rs)
  unfolding body_for
  octets2 n = rising_octets 0 (numbers_of rs) (numbers_rising 0 rs k b)

  pub octets5 : (n : ℕ) → Octets (body_for 5 n rs)
  unfolding body_for
  octets5 n = falling_octets 65535 (turned [] rs) (omega arith) runs_fall

  pub good1 : (n : ℕ) → n ≤ 30 → good_body 1 (body_for 1 n rs) ≡ true
  unfolding good_body
  good1 n h = rw (body1_length n rs, le-leb n 30 h)

  pub has1 : (n : ℕ) → size1 rs ≤ n → (c : ℕ) → body_has 1 (body_for 1 n rs) c ≡ covers rs c
  unfolding body_has body_for
  has1 n h c = simp or-false (bitmap_bit rs n c k h)

  pub good2 : (n : ℕ) → size2 rs ≤ 30 → good_body 2 (body_for 2 n rs) ≡ true
  unfolding good_body body_for
  good2 n h =
      let l : length (octets_out (numbers_of rs)) ≡ size2 rs = omega (arith, out_length (numbers_of rs), numbers_count rs) in
      rw (l, numbers_back (numbers_of rs), numbers_rising 0 rs k b, le-leb (size2 rs) 30 h, eq-eqb (size2 rs % 2) 0 (omega arith))

  pub has2 : (n c : ℕ) → body_has 2 (body_for 2 n rs) c ≡ covers rs c
  unfolding body_has body_for
  has2 n c = rw (numbers_back (numbers_of rs)) (or-false _ ∙ numbers_cover 0 rs c k)

  pub good5 : (n : ℕ) → size5 rs ≤ 28 → good_body 5 (body_for 5 n rs) ≡ true
  unfolding good_body body_for
  good5 n h =
      let l : length (octets_out (ends_of (turned [] rs))) ≡ 2 * length (ends_of (turned [] rs)) = out_length (ends_of (turned [] rs)) in
      let f : falling 65535 (turned [] rs) ≡ true = true_falling 65535 (turned [] rs) runs_fall in
      rw (l, numbers_back (ends_of (turned [] rs)), pairs_back (turned [] rs), f, le-leb (2 * length (ends_of (turned [] rs))) 28 (omega (arith, ends_length rs)), eq-eqb (2 * length (ends_of (turned [] rs)) % 2) 0 (omega arith))

  pub has5 : (n c : ℕ) → body_has 5 (body_for 5 n rs) c ≡ covers rs c
  unfolding body_has body_for
  has5 n c = rw (numbers_back (ends_of (turned [] rs)), pairs_back (turned [] rs)) (turned_covers [] rs c ∙ or-false (covers rs c))

  -- each is in the form that it is written in
  pub trimmed1 : trimmed (body_for 1 (size1 rs) rs) ≡ true
  unfolding body_for
  trimmed1 = shortest_trimmed rs k

  pub tight5 : (n : ℕ) → tight (numbers_in (body_for 5 n rs)) ≡ true
  unfolding body_for
  tight5 n = rw (numbers_back (ends_of (turned [] rs))) (tight_ends (turned [] rs) (turned_apart 0 [] rs k tt tt))

-- An option that is put together is valid and means what its body has.
pub option_means : (d v t : ℕ) (b : List ℕ) (rs : List Run) → FormedRuns d v rs → t < 256 → Octets b → good_body t b ≡ true → ((c : ℕ) → body_has t b c ≡ covers rs c) → MeansRuns (option_of d v t b) d v rs
option_means d v t b rs w small oct g same =
    record {
      octets = (omega arith, (omega (arith, short), (omega arith, (omega arith, (omega arith, (omega arith, (small, (omega (arith, short), (omega arith, (w.level, oct))))))))));
      good = parts_valid (option_of d v t b) (record { long = omega arith; kind = refl; size = omega arith; tag_size = omega arith; aligned = refl; body = g });
      owned = w.owned;
      domain = omega arith;
      level = refl;
      members = same;
    }
  where
    short : length b ≤ 30
    short = body_most t b (tagged t b g)
