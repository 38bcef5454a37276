-- No other option spells the label: what demand 3 asks of a spelling fixes every octet of it.
use Prim.Native.Nat.{ℕ, suc, ◌+◌, ◌-◌, ◌*◌, ◌/◌, ◌%◌, ◌≤◌, ◌<◌}
use mathlib.Core.Path.{◌≡◌, refl, ap, sym, ◌∙◌}
use mathlib.Core.List.{List, [], ◌∷◌, ◌++◌}
use mathlib.Core.Bool.{Bool, true, false, ◌&&◌, cond, or-false, and-false, true≢false}
use mathlib.Core.Option.{some}
use lib.ListN.{length, get_or}
use lib.Seq.{ext_get_or}
use lib.Dec.{leb, ltb, eqb}
use native.Mathlib.Omega.{arith}
use native.Mathlib.Nat.{le_refl}
use native.Mathlib.Decide.{dec_le}
use borrow.Author.Tests.{le-leb, lt-leb, leb-true, eqb-true, eqb-false}
use Rattle.label.specs.declared.Run.{Run}
use Rattle.label.specs.Runs.{run, covers, push_run, joined}
use Rattle.option.specs.Reading.{turned}
use Rattle.option.specs.Spelling.{from_zero}
use Rattle.label.proofs.Canon.{Canon}
use Rattle.option.specs.Bitmap.{bit_at, weight}
use Rattle.option.specs.Option.{Octets, domain_of, tag_of, level_of, body_of, numbers_in, singles, ascending, pairs_in, falling, is_even, good_body, body_has}
use Rattle.option.proofs.Octets.{octet_at_lem, octets_drop}
use Rattle.option.proofs.Forms.{MeansRuns}
use Rattle.option.specs.Spelling.{size5, octets_out, form_for, body_for, option_of, spelled_by, spelling_of}
use Rattle.option.specs.declared.Spellings.{Spellings}
use Rattle.option.proofs.Forms.{PermittedRuns, FormedRuns}
use Rattle.label.proofs.Push.{push_length}
use Rattle.label.proofs.Canon.{unique}
use Rattle.label.proofs.Bools.{and_left, and_right}
use Rattle.option.proofs.Pieces.{falling_true, joined_good, joined_covers, joined_length}
use Rattle.option.proofs.Meaning.{Parts, parts, Tagged, one, two, five, tagged, body_length, numbers_length}
use Rattle.option.proofs.Spelled.{body5_length}
use Rattle.option.proofs.Theorems.{Held, spelled_is, spelled_none, spelled_some, none_held, held_shortest, held_first, spelling_permitted, spelling_means}
use Rattle.option.proofs.Bridge.{turned_snoc, pairs_count}

-- The octets around the body.
pub option_is : (o : List ℕ) (d v : ℕ) (rs : List Run) → MeansRuns o d v rs → o ≡ option_of d v (tag_of o) (body_of o)
option_is o d v rs m = go o m.octets (parts o m.good) m.domain m.level
  where
    go : (o : List ℕ) → Octets o → Parts o → domain_of o ≡ d → level_of o ≡ v → o ≡ option_of d v (tag_of o) (body_of o)
    go [] c p e l = absurd (omega (arith, p.long))
    go (x0 ∷ []) c p e l = absurd (omega (arith, p.long))
    go (x0 ∷ x1 ∷ []) c p e l = absurd (omega (arith, p.long))
    go (x0 ∷ x1 ∷ x2 ∷ []) c p e l = absurd (omega (arith, p.long))
    go (x0 ∷ x1 ∷ x2 ∷ x3 ∷ []) c p e l = absurd (omega (arith, p.long))
    go (x0 ∷ x1 ∷ x2 ∷ x3 ∷ x4 ∷ []) c p e l = absurd (omega (arith, p.long))
    go (x0 ∷ x1 ∷ x2 ∷ x3 ∷ x4 ∷ x5 ∷ []) c p e l = absurd (omega (arith, p.long))
    go (x0 ∷ x1 ∷ x2 ∷ x3 ∷ x4 ∷ x5 ∷ x6 ∷ []) c p e l = absurd (omega (arith, p.long))
    go (x0 ∷ x1 ∷ x2 ∷ x3 ∷ x4 ∷ x5 ∷ x6 ∷ x7 ∷ []) c p e l = absurd (omega (arith, p.long))
    go (x0 ∷ x1 ∷ x2 ∷ x3 ∷ x4 ∷ x5 ∷ x6 ∷ x7 ∷ x8 ∷ []) c p e l = absurd (omega (arith, p.long))
    go (x0 ∷ x1 ∷ x2 ∷ x3 ∷ x4 ∷ x5 ∷ x6 ∷ x7 ∷ x8 ∷ x9 ∷ b) c p e l =
        let c3 : x3 < 256 = c.1.1.1.0 in
        let c4 : x4 < 256 = c.1.1.1.1.0 in
        let c5 : x5 < 256 = c.1.1.1.1.1.0 in
        let q : d / 256 ≡ (x2 * 256 + x3) * 256 + x4 = omega arith in
        let r : d / 256 / 256 ≡ x2 * 256 + x3 = omega arith in
        let p1 : x1 ≡ 10 + length b = omega (arith, p.size) in
        let p2 : x2 ≡ d / 256 / 256 / 256 = omega arith in
        let p3 : x3 ≡ d / 256 / 256 % 256 = omega arith in
        let p4 : x4 ≡ d / 256 % 256 = omega arith in
        let p5 : x5 ≡ d % 256 = omega arith in
        let p7 : x7 ≡ 4 + length b = omega (arith, p.tag_size) in
        λ i. p.kind i ∷ p1 i ∷ p2 i ∷ p3 i ∷ p4 i ∷ p5 i ∷ x6 ∷ p7 i ∷ p.aligned i ∷ l i ∷ b

-- Tag 1: an octet is its eight bits.
bit_same : (x y : ℕ) → eqb (x % 2) 1 ≡ eqb (y % 2) 1 → x % 2 ≡ y % 2
bit_same x y e = go (eqb (x % 2) 1) refl (eqb (y % 2) 1) refl e
  where
    go : (a : Bool) → eqb (x % 2) 1 ≡ a → (b : Bool) → eqb (y % 2) 1 ≡ b → a ≡ b → x % 2 ≡ y % 2
    go true p true q e = eqb-true (x % 2) 1 p ∙ sym (eqb-true (y % 2) 1 q)
    go true p false q e = absurd (true≢false e)
    go false p true q e = absurd (true≢false (sym e))
    go false p false q e =
        let a = eqb-false (x % 2) 1 p in
        let b = eqb-false (y % 2) 1 q in
        omega arith

same_half : (p q : ℕ) → p / 2 ≡ q / 2 → p % 2 ≡ q % 2 → p ≡ q
same_half p q e f = omega arith

half2 : (x : ℕ) → x / 1 / 2 ≡ x / 2
half2 x = omega arith

half4 : (x : ℕ) → x / 2 / 2 ≡ x / 4
half4 x = omega arith

half8 : (x : ℕ) → x / 4 / 2 ≡ x / 8
half8 x = omega arith

half16 : (x : ℕ) → x / 8 / 2 ≡ x / 16
half16 x = omega arith

half32 : (x : ℕ) → x / 16 / 2 ≡ x / 32
half32 x = omega arith

half64 : (x : ℕ) → x / 32 / 2 ≡ x / 64
half64 x = omega arith

half128 : (x : ℕ) → x / 64 / 2 ≡ x / 128
half128 x = omega arith

half256 : (x : ℕ) → x < 256 → x / 128 / 2 ≡ 0
half256 x h = omega arith

one_whole : (x : ℕ) → x / 1 ≡ x
one_whole x = omega arith

pub octet_same : (x y : ℕ) → x < 256 → y < 256 → ((k : ℕ) → k < 8 → eqb (x / weight k % 2) 1 ≡ eqb (y / weight k % 2) 1) → x ≡ y
octet_same x y h l same =
    let s7 : x / 128 ≡ y / 128 = same_half (x / 128) (y / 128) (half256 x h ∙ sym (half256 y l)) (bit_same (x / 128) (y / 128) (same 0 (omega arith))) in
    let s6 : x / 64 ≡ y / 64 = same_half (x / 64) (y / 64) (half128 x ∙ s7 ∙ sym (half128 y)) (bit_same (x / 64) (y / 64) (same 1 (omega arith))) in
    let s5 : x / 32 ≡ y / 32 = same_half (x / 32) (y / 32) (half64 x ∙ s6 ∙ sym (half64 y)) (bit_same (x / 32) (y / 32) (same 2 (omega arith))) in
    let s4 : x / 16 ≡ y / 16 = same_half (x / 16) (y / 16) (half32 x ∙ s5 ∙ sym (half32 y)) (bit_same (x / 16) (y / 16) (same 3 (omega arith))) in
    let s3 : x / 8 ≡ y / 8 = same_half (x / 8) (y / 8) (half16 x ∙ s4 ∙ sym (half16 y)) (bit_same (x / 8) (y / 8) (same 4 (omega arith))) in
    let s2 : x / 4 ≡ y / 4 = same_half (x / 4) (y / 4) (half8 x ∙ s3 ∙ sym (half8 y)) (bit_same (x / 4) (y / 4) (same 5 (omega arith))) in
    let s1 : x / 2 ≡ y / 2 = same_half (x / 2) (y / 2) (half4 x ∙ s2 ∙ sym (half4 y)) (bit_same (x / 2) (y / 2) (same 6 (omega arith))) in
    let s0 : x / 1 ≡ y / 1 = same_half (x / 1) (y / 1) (half2 x ∙ s1 ∙ sym (half2 y)) (bit_same (x / 1) (y / 1) (same 7 (omega arith))) in
    sym (one_whole x) ∙ s0 ∙ one_whole y

pub same_bitmap : (b b' : List ℕ) → Octets b → Octets b' → length b ≡ length b' → ((c : ℕ) → bit_at b c ≡ bit_at b' c) → b ≡ b'
same_bitmap b b' o o' e same = ext_get_or 0 b b' e (λ i h. octet_same (get_or b i 0) (get_or b' i 0) (octet_at_lem b i o) (octet_at_lem b' i o') (bit i))
  where
    bit : (i k : ℕ) → k < 8 → eqb (get_or b i 0 / weight k % 2) 1 ≡ eqb (get_or b' i 0 / weight k % 2) 1
    bit i k h =
        let q : (8 * i + k) / 8 ≡ i = omega arith in
        let r : (8 * i + k) % 8 ≡ k = omega arith in
        simp (q, r) at (same (8 * i + k))

-- Two-octet numbers say their octets.
pub out_back : (b : List ℕ) → Octets b → length b % 2 ≡ 0 → octets_out (numbers_in b) ≡ b
out_back [] o e = refl
out_back (a ∷ []) o e = absurd (omega arith)
out_back (a ∷ c ∷ b) o e =
    let p : c < 256 = o.1.0 in
    let x : (a * 256 + c) / 256 ≡ a = omega arith in
    let y : (a * 256 + c) % 256 ≡ c = omega arith in
    let t = out_back b o.1.1 (omega arith) in
    λ i. x i ∷ y i ∷ t i

-- Tag 2: one set has one ascending list.
lacks : (lo : ℕ) (xs : List ℕ) (c : ℕ) → ascending lo xs ≡ true → c < lo → covers (singles xs) c ≡ false
lacks lo [] c e h = refl
lacks lo (x ∷ xs) c e h =
    let l = leb-true lo x (and_left (leb lo x) _ e) in
    rw (lt-leb x c (omega arith)) (lacks (x + 1) xs c (and_right (ltb x 65535) _ (and_right (leb lo x) _ e)) (omega arith))

holds : (x : ℕ) (xs : List ℕ) → covers (singles (x ∷ xs)) x ≡ true
holds x xs = rw (le-leb x x (le_refl x))

raised : (lo x : ℕ) (xs : List ℕ) → ascending lo (x ∷ xs) ≡ true → ascending x (x ∷ xs) ≡ true
raised lo x xs e = rw (le-leb x x (le_refl x)) (and_right (leb lo x) _ e)

head_le : (lo lo' x y : ℕ) (xs ys : List ℕ) → ascending lo (x ∷ xs) ≡ true → ascending lo' (y ∷ ys) ≡ true → ((c : ℕ) → covers (singles (x ∷ xs)) c ≡ covers (singles (y ∷ ys)) c) → y ≤ x
head_le lo lo' x y xs ys e e' same = elim (dec_le y x) [ yes u ↦ u | no u ↦ absurd (true≢false (sym (holds x xs) ∙ same x ∙ lacks y (y ∷ ys) x (raised lo' y ys e') (omega arith))) ]

tail_of : (lo x : ℕ) (xs : List ℕ) → ascending lo (x ∷ xs) ≡ true → ascending (x + 1) xs ≡ true
tail_of lo x xs e = and_right (ltb x 65535) _ (and_right (leb lo x) _ e)

tails : (x : ℕ) (xs ys : List ℕ) → ascending (x + 1) xs ≡ true → ascending (x + 1) ys ≡ true → ((c : ℕ) → covers (singles (x ∷ xs)) c ≡ covers (singles (x ∷ ys)) c) → (c : ℕ) → covers (singles xs) c ≡ covers (singles ys) c
tails x xs ys e e' same c = elim (dec_le (x + 1) c) [ yes u ↦ simp (lt-leb c x (omega arith), and-false) at (same c) | no u ↦ lacks (x + 1) xs c e (omega arith) ∙ sym (lacks (x + 1) ys c e' (omega arith)) ]

pub same_numbers : (lo lo' : ℕ) (xs ys : List ℕ) → ascending lo xs ≡ true → ascending lo' ys ≡ true → ((c : ℕ) → covers (singles xs) c ≡ covers (singles ys) c) → xs ≡ ys
same_numbers lo lo' [] [] e e' same = refl
same_numbers lo lo' [] (y ∷ ys) e e' same = absurd (true≢false (sym (holds y ys) ∙ sym (same y)))
same_numbers lo lo' (x ∷ xs) [] e e' same = absurd (true≢false (sym (holds x xs) ∙ same x))
same_numbers lo lo' (x ∷ xs) (y ∷ ys) e e' same =
    let h : y ≡ x = omega (arith, head_le lo lo' x y xs ys e e' same, head_le lo' lo y x ys xs e' e (λ c. sym (same c))) in
    let r : ascending (x + 1) ys ≡ true = rw h at (tail_of lo' y ys e') in
    let s : (c : ℕ) → covers (singles (x ∷ xs)) c ≡ covers (singles (x ∷ ys)) c = rw h at same in
    let t = same_numbers (x + 1) (x + 1) xs ys (tail_of lo x xs e) r (tails x xs ys (tail_of lo x xs e) r s) in
    λ i. sym h i ∷ t i

-- Tag 5: as many pairs as runs are the runs.
push_longer : (l h : ℕ) (rs : List Run) → length (push_run rs l h) ≡ suc (length rs) → push_run rs l h ≡ rs ++ run l h ∷ []
push_longer l h [] e = refl
push_longer l h (r ∷ []) e = go (eqb (r.high + 1) l) e
  where
    go : (t : Bool) → length (cond t (run r.low h ∷ []) (r ∷ run l h ∷ [])) ≡ 2 → cond t (run r.low h ∷ []) (r ∷ run l h ∷ []) ≡ r ∷ run l h ∷ []
    go true q = absurd (omega arith)
    go false q = refl
push_longer l h (r ∷ s ∷ rs) e = ap (λ (z : List Run). r ∷ z) (push_longer l h (s ∷ rs) (omega arith))

pub joined_exact : (ps : List Run) → length (joined ps) ≡ length ps → ps ≡ turned [] (joined ps)
joined_exact [] e = refl
joined_exact (p ∷ ps) e =
    let l : length (joined ps) ≡ length ps = omega (arith, joined_length ps, push_length p.low p.high (joined ps)) in
    let q = push_longer p.low p.high (joined ps) (omega arith) in
    ap (λ (z : List Run). p ∷ z) (joined_exact ps l) ∙ sym (ap (turned []) q ∙ turned_snoc [] (joined ps) p)

pub same_pairs : (ns ms : List ℕ) → length ns ≡ length ms → pairs_in ns ≡ pairs_in ms → ns ≡ ms
same_pairs [] [] e q = refl
same_pairs [] (t ∷ ms) e q = absurd (omega arith)
same_pairs (t ∷ ns) [] e q = absurd (omega arith)
same_pairs (t ∷ []) (u ∷ []) e q = ap (λ (z : List Run). heads z) q
  where
    heads : List Run → List ℕ
    heads [] = []
    heads (r ∷ rs) = r.high ∷ []
same_pairs (t ∷ []) (u ∷ a ∷ ms) e q = absurd (omega arith)
same_pairs (t ∷ b ∷ ns) (u ∷ []) e q = absurd (omega arith)
same_pairs (t ∷ b ∷ ns) (u ∷ a ∷ ms) e q =
    let x : run b t ≡ run a u = cc in
    let y : pairs_in ns ≡ pairs_in ms = cc in
    let z = same_pairs ns ms (omega arith) y in
    λ i. (x i).high ∷ (x i).low ∷ z i

-- Two bodies of one tag, as long as each other, that have the categories of the runs.
good2_parts : (b : List ℕ) → good_body 2 b ≡ true → (length b % 2 ≡ 0) × (ascending 0 (numbers_in b) ≡ true)
unfolding good_body
good2_parts b e =
    let w : (is_even (length b) && (leb (length b) 30 && ascending 0 (numbers_in b))) ≡ true = sym (or-false _) ∙ e in
    (eqb-true _ _ (and_left (is_even (length b)) _ w), and_right (leb (length b) 30) _ (and_right (is_even (length b)) _ w))

good5_parts : (b : List ℕ) → good_body 5 b ≡ true → (length b % 2 ≡ 0) × (falling 65535 (pairs_in (numbers_in b)) ≡ true)
unfolding good_body
good5_parts b e = (eqb-true _ _ (and_left (is_even (length b)) _ e), and_right (leb (length b) 28) _ (and_right (is_even (length b)) _ e))

pairs_exact : (rs : List Run) (b : List ℕ) → length b ≡ size5 rs → length (pairs_in (numbers_in b)) ≡ length rs
pairs_exact rs b e = pairs_count (numbers_in b) ∙ rw (numbers_length b) (go (from_zero rs) e)
  where
    go : (z : Bool) → length b ≡ 4 * length rs - cond z 2 0 → (length b / 2 + 1) / 2 ≡ length rs
    go true q = omega arith
    go false q = omega arith

module _ (rs : List Run) (k : Canon 0 rs) where
  -- the pairs of a shortest tag 5 are the runs, highest first
  pub pairs_only : (b : List ℕ) → good_body 5 b ≡ true → ((c : ℕ) → body_has 5 b c ≡ covers rs c) → length b ≡ size5 rs → pairs_in (numbers_in b) ≡ turned [] rs
  unfolding body_has
  pairs_only b g same l =
      let f = falling_true 65535 (pairs_in (numbers_in b)) (good5_parts b g).1 in
      let form : joined (pairs_in (numbers_in b)) ≡ rs = unique 0 0 (joined (pairs_in (numbers_in b))) rs (joined_good 65535 (pairs_in (numbers_in b)) f).0 k (λ c. joined_covers 65535 (pairs_in (numbers_in b)) c f ∙ same c) in
      joined_exact (pairs_in (numbers_in b)) (ap length form ∙ sym (pairs_exact rs b l)) ∙ ap (turned []) form

  same_body : (t : ℕ) (b b' : List ℕ) → Tagged b t → good_body t b ≡ true → good_body t b' ≡ true → Octets b → Octets b' → ((c : ℕ) → body_has t b c ≡ covers rs c) → ((c : ℕ) → body_has t b' c ≡ covers rs c) → length b ≡ length b' → (t ≡ 5 → length b ≡ size5 rs) → b ≡ b'
  unfolding body_has
  same_body t b b' (one h) g g' o o' s s' l n = same_bitmap b b' o o' l (λ c. (simp or-false at (s c)) ∙ sym (simp or-false at (s' c)))
  same_body t b b' (two e h r) g g' o o' s s' l n =
      let q = good2_parts b' g' in
      let ns : numbers_in b ≡ numbers_in b' = same_numbers 0 0 (numbers_in b) (numbers_in b') r q.1 (λ c. (simp or-false at (s c)) ∙ sym (simp or-false at (s' c))) in
      sym (out_back b o e) ∙ ap octets_out ns ∙ out_back b' o' q.0
  same_body t b b' (five e h f) g g' o o' s s' l n =
      let m = n refl in
      let ps : pairs_in (numbers_in b) ≡ pairs_in (numbers_in b') = pairs_only b g s m ∙ sym (pairs_only b' g' s' (sym l ∙ m)) in
      let ns : numbers_in b ≡ numbers_in b' = same_pairs (numbers_in b) (numbers_in b') (omega (arith, numbers_length b, numbers_length b', ap (λ (x : ℕ). x / 2) l)) ps in
      sym (out_back b o e) ∙ ap octets_out ns ∙ out_back b' o' (good5_parts b' g').0

pub one_option : (d v : ℕ) (rs : List Run) (o o' : List ℕ) → Canon 0 rs → MeansRuns o d v rs → MeansRuns o' d v rs → tag_of o ≡ tag_of o' → length o ≡ length o' → (tag_of o ≡ 5 → length (body_of o) ≡ size5 rs) → o ≡ o'
one_option d v rs o o' k m m' t l n =
    option_is o d v rs m ∙ (λ i. option_of d v (t i) (b i)) ∙ sym (option_is o' d v rs m')
  where
    g : good_body (tag_of o) (body_of o) ≡ true
    g = (parts o m.good).body

    g' : good_body (tag_of o) (body_of o') ≡ true
    g' = ap (λ (x : ℕ). good_body x (body_of o')) t ∙ (parts o' m'.good).body

    b : body_of o ≡ body_of o'
    b = same_body rs k (tag_of o) (body_of o) (body_of o') (tagged _ _ g) g g' (octets_drop 10 o m.octets) (octets_drop 10 o' m'.octets) m.members (λ c. ap (λ (x : ℕ). body_has x (body_of o') c) t ∙ m'.members c) (omega (arith, body_length o m.good, body_length o' m'.good)) n

-- An option that means what the spelling means, as long as it and in its tag, is the spelling.
module _ (p : Spellings) (d v : ℕ) (rs : List Run) (w : FormedRuns d v rs) (made : List ℕ) (e : spelling_of p d v rs ≡ some made) where
  made_size : tag_of made ≡ 5 → length (body_of made) ≡ size5 rs
  unfolding spelled_by
  made_size q =
      let i = spelled_is p d v rs made e in
      let t : (form_for p rs).tag ≡ 5 = sym (ap tag_of i.0) ∙ q in
      ap (λ (o : List ℕ). length (body_of o)) i.0 ∙ ap (λ (t : ℕ). length (body_for t (form_for p rs).size rs)) t ∙ body5_length (form_for p rs).size rs

  pub same_made : (s : List ℕ) → MeansRuns s d v rs → length s ≡ length made → tag_of s ≡ tag_of made → spelling_of p d v rs ≡ some s
  same_made s m long tag =
      let n = spelling_means p d v rs w made e in
      e ∙ ap some (sym (one_option d v rs s made w.canon m n tag long (λ q. omega (arith, long, body_length s m.good, body_length made n.good, made_size (sym tag ∙ q)))))

-- Whatever is least is the spelling: demand 3 fixes every octet.
module _ (p : Spellings) (d v : ℕ) (rs : List Run) (w : FormedRuns d v rs) (s : List ℕ) (m : MeansRuns s d v rs) (h : Held p rs (length (body_of s)) (tag_of s))
    (shortest : (o : List ℕ) → PermittedRuns p o d v rs → length s ≤ length o)
    (first : (o : List ℕ) → PermittedRuns p o d v rs → length o ≡ length s → tag_of s ≤ tag_of o) where
  some_tag : 0 < (form_for p rs).tag
  some_tag = elim (dec_le 1 (form_for p rs).tag) [ yes u ↦ u | no u ↦ absurd (none_held p d v rs w (spelled_none p d v rs (omega arith)) (length (body_of s)) (tag_of s) h) ]

  pub least_only : spelling_of p d v rs ≡ some s
  least_only =
      let made : List ℕ = spelled_by (form_for p rs) d v rs in
      let e : spelling_of p d v rs ≡ some made = spelled_some p d v rs some_tag in
      let q = spelling_permitted p d v rs w made e in
      let long : length s ≡ length made = omega (arith, shortest made q, held_shortest p d v rs w made e s m h) in
      let tag : tag_of s ≡ tag_of made = omega (arith, first made q (sym long), held_first p d v rs w made e s m h long) in
      same_made p d v rs w made e s m long tag
