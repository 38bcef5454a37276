-- What a valid option says: its parts, the runs that it is read to, and the least octets that its tag can have.
use Prim.Native.Nat.{ℕ, suc, ◌+◌, ◌-◌, ◌*◌, ◌/◌, ◌%◌, ◌≤◌, zero-le}
use mathlib.Core.Path.{◌≡◌, refl, ap, sym, ◌∙◌}
use mathlib.Core.List.{List, [], ◌∷◌}
use mathlib.Core.Bool.{Bool, true, false, ◌&&◌, ◌||◌, or-false, true≢false}
use lib.ListN.{length, get_or, length-drop}
use lib.Dec.{leb, eqb}
use native.Mathlib.Omega.{arith}
use native.Mathlib.Decide.{dec_le}
use borrow.Author.Tests.{le-leb, lt-ltb, le-ltb, leb-true, eqb-true, eq-eqb}
use Rattle.label.specs.declared.Run.{Run}
use Rattle.label.specs.Runs.{covers, joined, count_of}
use Rattle.option.specs.Reading.{turned}
use Rattle.option.specs.Spelling.{from_zero}
use Rattle.label.proofs.Canon.{Canon, Below}
use Rattle.option.specs.Bitmap.{bit_at}
use Rattle.option.specs.Option.{domain_of, tag_of, level_of, body_of, numbers_in, singles, ascending, pairs_in, falling, is_even, good_body, body_has, valid, has}
use Rattle.option.proofs.Forms.{MeansRuns}
use Rattle.option.specs.Reading.{bit_pieces, pieces, option_runs}
use Rattle.option.specs.Spelling.{size1, size2, size5}
use Rattle.label.proofs.Canon.{canon_length, clear, unique}
use Rattle.option.proofs.Top.{bit_past, shortest}
use Rattle.label.proofs.Bools.{and_left, and_right}
use Rattle.option.proofs.Pieces.{Falling, falling_true, joined_good, joined_covers, joined_length, joined_count, turned_covers, turned_length, turned_count, turned_falling, bits_falling, bits_covers, rising_true, singles_count, singles_length, pairs_most, pairs_odd}

-- The form of an option, part by part.
pub record Parts (o : List ℕ) : Type 0 where
  pub long : 10 ≤ length o
  pub kind : get_or o 0 0 ≡ 134
  pub size : get_or o 1 0 ≡ length o
  pub tag_size : get_or o 7 0 + 6 ≡ length o
  pub aligned : get_or o 8 0 ≡ 0
  pub body : good_body (tag_of o) (body_of o) ≡ true

pub parts : (o : List ℕ) → valid o ≡ true → Parts o
unfolding valid
parts o e =
    let e1 = and_right (leb 10 (length o)) _ e in
    let e2 = and_right (eqb (get_or o 0 0) 134) _ e1 in
    let e3 = and_right (eqb (get_or o 1 0) (length o)) _ e2 in
    let e4 = and_right (eqb (get_or o 7 0 + 6) (length o)) _ e3 in
    record {
      long = leb-true _ _ (and_left (leb 10 (length o)) _ e);
      kind = eqb-true _ _ (and_left (eqb (get_or o 0 0) 134) _ e1);
      size = eqb-true _ _ (and_left (eqb (get_or o 1 0) (length o)) _ e2);
      tag_size = eqb-true _ _ (and_left (eqb (get_or o 7 0 + 6) (length o)) _ e3);
      aligned = eqb-true _ _ (and_left (eqb (get_or o 8 0) 0) _ e4);
      body = and_right (eqb (get_or o 8 0) 0) _ e4;
    }

pub parts_valid : (o : List ℕ) → Parts o → valid o ≡ true
unfolding valid
parts_valid o p = simp (le-leb _ _ p.long, eq-eqb _ _ p.kind, eq-eqb _ _ p.size, eq-eqb _ _ p.tag_size, eq-eqb _ _ p.aligned, p.body)

-- What stands in a tag of each type.
pub data Tagged (b : List ℕ) : ℕ → Type 0 where
  one : length b ≤ 30 → Tagged b 1
  two : length b % 2 ≡ 0 → length b ≤ 30 → ascending 0 (numbers_in b) ≡ true → Tagged b 2
  five : length b % 2 ≡ 0 → length b ≤ 28 → falling 65535 (pairs_in (numbers_in b)) ≡ true → Tagged b 5

pub tagged : (t : ℕ) (b : List ℕ) → good_body t b ≡ true → Tagged b t
unfolding good_body
tagged t b e = go (eqb t 1) refl (eqb t 2) refl (eqb t 5) refl e
  where
    A : Bool
    A = leb (length b) 30

    B : Bool
    B = is_even (length b) && (leb (length b) 30 && ascending 0 (numbers_in b))

    C : Bool
    C = is_even (length b) && (leb (length b) 28 && falling 65535 (pairs_in (numbers_in b)))

    of2 : B ≡ true → Tagged b 2
    of2 w =
        let w1 = and_right (is_even (length b)) _ w in
        two (eqb-true _ _ (and_left (is_even (length b)) _ w)) (leb-true _ _ (and_left (leb (length b) 30) _ w1)) (and_right (leb (length b) 30) _ w1)

    of5 : C ≡ true → Tagged b 5
    of5 w =
        let w1 = and_right (is_even (length b)) _ w in
        five (eqb-true _ _ (and_left (is_even (length b)) _ w)) (leb-true _ _ (and_left (leb (length b) 28) _ w1)) (and_right (leb (length b) 28) _ w1)

    go : (x : Bool) → eqb t 1 ≡ x → (y : Bool) → eqb t 2 ≡ y → (z : Bool) → eqb t 5 ≡ z → ((x && A) || (y && B) || (z && C)) ≡ true → Tagged b t
    go true p y q z r w = rw (eqb-true t 1 p) (one (leb-true _ _ (first y q z r w)))
      where
        first : (y : Bool) → eqb t 2 ≡ y → (z : Bool) → eqb t 5 ≡ z → ((true && A) || (y && B) || (z && C)) ≡ true → A ≡ true
        first true q z r w = absurd (omega (arith, eqb-true t 1 p, eqb-true t 2 q))
        first false q true r w = absurd (omega (arith, eqb-true t 1 p, eqb-true t 5 r))
        first false q false r w = sym (or-false A) ∙ sym (or-false (A || false)) ∙ w
    go false p true q z r w = rw (eqb-true t 2 q) (of2 (second z r w))
      where
        second : (z : Bool) → eqb t 5 ≡ z → ((true && B) || (z && C)) ≡ true → B ≡ true
        second true r w = absurd (omega (arith, eqb-true t 2 q, eqb-true t 5 r))
        second false r w = sym (or-false B) ∙ w
    go false p false q true r w = rw (eqb-true t 5 r) (of5 w)
    go false p false q false r w = absurd (true≢false (sym w))

pub body_most : (t : ℕ) (b : List ℕ) → Tagged b t → length b ≤ 30
body_most t b (one h) = h
body_most t b (two e h r) = h
body_most t b (five e h f) = omega arith

pub numbers_length : (b : List ℕ) → length (numbers_in b) ≡ length b / 2
numbers_length [] = refl
numbers_length (a ∷ []) = refl
numbers_length (a ∷ c ∷ b) = omega (arith, numbers_length b)

-- The pieces of a good body are in order and cover what it has.
pub pieces_falling : (t : ℕ) (b : List ℕ) → Tagged b t → Falling 65535 (pieces t b)
unfolding pieces
pieces_falling t b (one h) = weaken (bit_pieces (bit_at b) (8 * length b)) (bits_falling (bit_at b) (8 * length b))
  where
    weaken : (ps : List Run) → Falling (8 * length b) ps → Falling 65535 ps
    weaken [] f = tt
    weaken (p ∷ ps) f = (omega arith, f.1, f.2)
pieces_falling t b (two e h r) = turned_falling 0 65535 [] (singles (numbers_in b)) tt (rising_true 0 (numbers_in b) zero-le r)
pieces_falling t b (five e h f) = falling_true 65535 (pairs_in (numbers_in b)) f

pub pieces_cover : (t : ℕ) (b : List ℕ) (c : ℕ) → Tagged b t → covers (pieces t b) c ≡ body_has t b c
unfolding pieces body_has
pieces_cover t b c (one h) = bits_covers (bit_at b) (8 * length b) c ∙ elim (dec_le (suc c) (8 * length b)) [ yes u ↦ simp (lt-ltb c (8 * length b) u, or-false) | no u ↦ simp (le-ltb c (8 * length b) (omega arith), bit_past b c (omega arith)) ]
pieces_cover t b c (two e h r) = turned_covers [] (singles (numbers_in b)) c ∙ simp or-false
pieces_cover t b c (five e h f) = refl

-- Reading.
pub reads_canon : (o : List ℕ) → valid o ≡ true → Canon 0 (option_runs o) × Below 65535 (option_runs o)
unfolding option_runs
reads_canon o e = joined_good 65535 (pieces (tag_of o) (body_of o)) (pieces_falling (tag_of o) (body_of o) (tagged _ _ (parts o e).body))

pub reads_covers : (o : List ℕ) → valid o ≡ true → (c : ℕ) → covers (option_runs o) c ≡ has o c
unfolding option_runs
reads_covers o e c =
    let g = tagged (tag_of o) (body_of o) (parts o e).body in
    joined_covers 65535 (pieces (tag_of o) (body_of o)) c (pieces_falling (tag_of o) (body_of o) g) ∙ pieces_cover (tag_of o) (body_of o) c g

-- what is read fits a label
pub reads_fit : (o : List ℕ) → valid o ≡ true → length (option_runs o) ≤ 120
unfolding option_runs pieces
reads_fit o e = few (tag_of o) (body_of o) (tagged _ _ (parts o e).body)
  where
    few : (t : ℕ) (b : List ℕ) → Tagged b t → length (joined (pieces t b)) ≤ 120
    few t b (one h) = let g = joined_good (8 * length b) (bit_pieces (bit_at b) (8 * length b)) (bits_falling (bit_at b) (8 * length b)) in omega (arith, canon_length (8 * length b) 0 (joined (bit_pieces (bit_at b) (8 * length b))) g.0 g.1 zero-le)
    few t b (two d h r) = omega (arith, joined_length (turned [] (singles (numbers_in b))), turned_length [] (singles (numbers_in b)), singles_length (numbers_in b), numbers_length b)
    few t b (five d h f) = omega (arith, joined_length (pairs_in (numbers_in b)), pairs_most (numbers_in b), numbers_length b)

-- every valid option that means a label is read to its runs
pub reads_back : (o : List ℕ) (d v : ℕ) (rs : List Run) → MeansRuns o d v rs → Canon 0 rs → option_runs o ≡ rs
reads_back o d v rs m k = unique 0 0 (option_runs o) rs (reads_canon o m.good).0 k (λ c. reads_covers o m.good c ∙ m.members c)

-- two options that mean one label are read alike
pub read_alike : (o o' : List ℕ) (d v : ℕ) (rs : List Run) → MeansRuns o d v rs → MeansRuns o' d v rs → Canon 0 rs → (domain_of o ≡ domain_of o') × (level_of o ≡ level_of o') × (option_runs o ≡ option_runs o')
read_alike o o' d v rs m m' k = (m.domain ∙ sym m'.domain, m.level ∙ sym m'.level, reads_back o d v rs m k ∙ sym (reads_back o' d v rs m' k))

-- Where 0 is a category the lowest run starts there.
pub starts_zero : (rs : List Run) → Canon 0 rs → covers rs 0 ≡ true → from_zero rs ≡ true
starts_zero [] k e = e
starts_zero (r ∷ rs) k e = elim (dec_le 1 r.low) [ yes u ↦ absurd (true≢false (sym e ∙ clear 1 (r ∷ rs) 0 (u, k.1, k.2) (omega arith))) | no u ↦ eq-eqb r.low 0 (omega arith) ]

-- The least octets of categories that each tag can have for the runs.
pub data Bounds (rs : List Run) (n : ℕ) : ℕ → Type 0 where
  by1 : size1 rs ≤ n → n ≤ 30 → Bounds rs n 1
  by2 : size2 rs ≤ n → n ≤ 30 → Bounds rs n 2
  by5 : size5 rs ≤ n → n ≤ 28 → Bounds rs n 5

size5_zero : (rs : List Run) → from_zero rs ≡ true → size5 rs ≡ 4 * length rs - 2
size5_zero rs e = rw e

size5_most : (rs : List Run) → size5 rs ≤ 4 * length rs
size5_most rs = omega arith

pub body_bounds : (rs : List Run) (t : ℕ) (b : List ℕ) → Canon 0 rs → Tagged b t → ((c : ℕ) → body_has t b c ≡ covers rs c) → Bounds rs (length b) t
unfolding pieces body_has
body_bounds rs t b k (one h) same = by1 (shortest rs b k (λ c. simp or-false at (same c))) h
body_bounds rs t b k (two e h r) same =
    let f = pieces_falling 2 b (two e h r) in
    let form : joined (pieces 2 b) ≡ rs = unique 0 0 (joined (pieces 2 b)) rs (joined_good 65535 (pieces 2 b) f).0 k (λ c. joined_covers 65535 (pieces 2 b) c f ∙ pieces_cover 2 b c (two e h r) ∙ same c) in
    by2 (omega (arith, ap count_of form, joined_count 65535 (pieces 2 b) f, turned_count [] (singles (numbers_in b)), singles_count (numbers_in b), numbers_length b)) h
body_bounds rs t b k (five e h r) same = by5 (elim (dec_le (2 * length ps) (length ns)) [ yes u ↦ omega (arith, size5_most rs, few, numbers_length b) | no u ↦ omega (arith, size5_zero rs (starts_zero rs k (sym (same 0) ∙ pairs_odd ns (omega arith))), few, numbers_length b, pairs_most ns) ]) h
  where
    ns : List ℕ
    ns = numbers_in b

    ps : List Run
    ps = pairs_in ns

    f : Falling 65535 ps
    f = falling_true 65535 ps r

    form : joined ps ≡ rs
    form = unique 0 0 (joined ps) rs (joined_good 65535 ps f).0 k (λ c. joined_covers 65535 ps c f ∙ same c)

    few : length rs ≤ length ps
    few = omega (arith, ap length form, joined_length ps)

pub bounds : (o : List ℕ) (d v : ℕ) (rs : List Run) → MeansRuns o d v rs → Canon 0 rs → Bounds rs (length (body_of o)) (tag_of o)
bounds o d v rs m k = body_bounds rs (tag_of o) (body_of o) k (tagged _ _ (parts o m.good).body) m.members

pub body_length : (o : List ℕ) → valid o ≡ true → length o ≡ 10 + length (body_of o)
body_length o e = let p = parts o e in omega (arith, p.long, length-drop 10 o)

-- at most 40 octets, without saying so
pub valid_most : (o : List ℕ) → valid o ≡ true → length o ≤ 40
valid_most o e = omega (arith, body_length o e, body_most (tag_of o) (body_of o) (tagged (tag_of o) (body_of o) (parts o e).body))
