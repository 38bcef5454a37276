-- Laws of the one's complement sum.
use Prim.Native.Nat.{ℕ, zero, suc, ◌+◌, ◌-◌, ◌*◌, ◌%◌, ◌≤◌, ◌<◌}
use mathlib.Core.Path.{◌≡◌, refl, sym, ap, ◌∙◌}
use mathlib.Core.List.{List, [], ◌∷◌, ◌++◌}
use mathlib.Core.Bool.{Bool, true, false, cond}
use native.Mathlib.Nat.{add-zero}
use native.Mathlib.Numerals.{add-one}
use native.Mathlib.Omega.{arith}
use borrow.Author.Tests.{lt-ltb, le-ltb, ltb-true, ltb-false, eqb-true, eqb-false, ne_eqb}
use lib.Dec.{ltb, eqb}
use lib.ListN.{length, get_or, take, drop}
use lib.Seq.{drop-drop, get_or-drop, get_or-take}
use Rattle.option.specs.Option.{Octets}
use Rattle.message_checksum.specs.Checksum.{words_in, ones_add, ones_from, ones_sum, checksum_of}
use Rattle.message_checksum.specs.Stages.{folded}

-- the words from a place on: the word there, and those behind it
pub words_step : (l : List ℕ) (i : ℕ) → i < length l → words_in (drop i l) ≡ (get_or l i 0 * 256 + get_or l (i + 1) 0) ∷ words_in (drop (i + 2) l)
words_step l i h = let e : i + 2 ≡ suc (suc i) = omega arith in rw (e, add-one i) (go l i h)
  where
    go : (l : List ℕ) (i : ℕ) → i < length l → words_in (drop i l) ≡ (get_or l i 0 * 256 + get_or l (suc i) 0) ∷ words_in (drop (suc (suc i)) l)
    go [] i u = absurd (omega arith)
    go (x ∷ []) zero u = refl
    go (x ∷ y ∷ l) zero u = refl
    go (x ∷ l) (suc i) u = go l i (omega arith)

positive : (s : ℕ) → (s ≡ 0 → ⊥) → 0 < s
positive zero n = absurd (n refl)
positive (suc s) n = omega arith

-- a sum without a carry, and one with it
module _ (x y : ℕ) where
  pub no_carry : x + y < 65536 → ones_add x y ≡ x + y
  no_carry h = rw (lt-ltb (x + y) 65536 h)

  pub carried : 65536 ≤ x + y → ones_add x y ≡ x + y - 65535
  carried h = rw (le-ltb (x + y) 65536 h)

  pub ones_word : x ≤ 65535 → y ≤ 65535 → ones_add x y ≤ 65535
  ones_word h k = go (ltb (x + y) 65536) refl
    where
      go : (t : Bool) → ltb (x + y) 65536 ≡ t → cond t (x + y) (x + y - 65535) ≤ 65535
      go true p = let q : x + y < 65536 = ltb-true _ _ p in omega arith
      go false p = omega arith

pub ones_zero : (x : ℕ) → x ≤ 65535 → ones_add x 0 ≡ x
ones_zero x h = no_carry x 0 (omega arith) ∙ omega arith

pub zero_ones : (x : ℕ) → x ≤ 65535 → ones_add 0 x ≡ x
zero_ones x h = no_carry 0 x (omega arith) ∙ omega arith

-- two words are added in either order
ones_swap : (x y z : ℕ) → x ≤ 65535 → y ≤ 65535 → z ≤ 65535 → ones_add (ones_add x y) z ≡ ones_add (ones_add x z) y
ones_swap x y z hx hy hz = go (ltb (x + y) 65536) (ltb (x + z) 65536) refl refl
  where
    sum : (a b : ℕ) → a ≡ b → cond (ltb a 65536) a (a - 65535) ≡ cond (ltb b 65536) b (b - 65535)
    sum a b e = ap (λ (n : ℕ). cond (ltb n 65536) n (n - 65535)) e

    go : (s t : Bool) → ltb (x + y) 65536 ≡ s → ltb (x + z) 65536 ≡ t → ones_add (cond s (x + y) (x + y - 65535)) z ≡ ones_add (cond t (x + z) (x + z - 65535)) y
    go true true p q = sum (x + y + z) (x + z + y) (omega arith)
    go true false p q =
        let a : x + y < 65536 = ltb-true _ _ p in
        let b : 65536 ≤ x + z = ltb-false _ _ q in
        carried (x + y) z (omega arith) ∙ (let e : x + y + z - 65535 ≡ x + z - 65535 + y = omega arith in e) ∙ sym (no_carry (x + z - 65535) y (omega arith))
    go false true p q =
        let a : 65536 ≤ x + y = ltb-false _ _ p in
        let b : x + z < 65536 = ltb-true _ _ q in
        no_carry (x + y - 65535) z (omega arith) ∙ (let e : x + y - 65535 + z ≡ x + z + y - 65535 = omega arith in e) ∙ sym (carried (x + z) y (omega arith))
    go false false p q =
        let a : 65536 ≤ x + y = ltb-false _ _ p in
        let b : 65536 ≤ x + z = ltb-false _ _ q in
        sum (x + y - 65535 + z) (x + z - 65535 + y) (omega arith)

-- A word added to a plain sum, and to the sum with its carries brought back.
pub fold_word : (s : ℕ) → s ≤ 65535 → folded s ≡ s
fold_word s h = go (eqb s 0) refl
  where
    go : (t : Bool) → eqb s 0 ≡ t → cond t 0 (1 + (s - 1) % 65535) ≡ s
    go true p = let e : s ≡ 0 = eqb-true _ _ p in omega arith
    go false p = let n : s ≡ 0 → ⊥ = eqb-false _ _ p in let k : 0 < s = positive s n in omega arith

pub fold_add : (s w : ℕ) → w ≤ 65535 → folded (s + w) ≡ ones_add (folded s) w
fold_add s w h = go (eqb s 0) refl
  where
    by : (t : Bool) → ltb (1 + (s - 1) % 65535 + w) 65536 ≡ t → 0 < s → 1 + (s + w - 1) % 65535 ≡ cond t (1 + (s - 1) % 65535 + w) (1 + (s - 1) % 65535 + w - 65535)
    by true p n = let k : 1 + (s - 1) % 65535 + w < 65536 = ltb-true _ _ p in omega arith
    by false p n = let k : 65536 ≤ 1 + (s - 1) % 65535 + w = ltb-false _ _ p in omega arith

    go : (t : Bool) → eqb s 0 ≡ t → folded (s + w) ≡ ones_add (cond t 0 (1 + (s - 1) % 65535)) w
    go true p =
        let e : s ≡ 0 = eqb-true _ _ p in
        let f : s + w ≡ w = omega arith in
        ap folded f ∙ fold_word w h ∙ sym (zero_ones w h)
    go false p =
        let n : 0 < s = positive s (eqb-false _ _ p) in
        let q : ℕ = (s - 1) % 65535 in
        let m : (s + w ≡ 0 → ⊥) = (λ e. omega arith) in
        ap (λ (t : Bool). cond t 0 (1 + (s + w - 1) % 65535)) (ne_eqb (s + w) 0 m) ∙ by (ltb (1 + (s - 1) % 65535 + w) 65536) refl n

-- the words of a list cut at an even place
pub words_cut : (l : List ℕ) (k : ℕ) → words_in l ≡ words_in (take (2 * k) l) ++ words_in (drop (2 * k) l)
words_cut l zero = refl
words_cut [] (suc k) = let e : 2 * suc k ≡ suc (suc (2 * k)) = omega arith in rw e
words_cut (x ∷ []) (suc k) = let e : 2 * suc k ≡ suc (suc (2 * k)) = omega arith in rw e
words_cut (x ∷ y ∷ l) (suc k) = let e : 2 * suc k ≡ suc (suc (2 * k)) = omega arith in rw e (ap (λ (ws : List ℕ). (x * 256 + y) ∷ ws) (words_cut l k))

pub ones_append : (ws vs : List ℕ) (s : ℕ) → ones_from s (ws ++ vs) ≡ ones_from (ones_from s ws) vs
ones_append [] vs s = refl
ones_append (w ∷ ws) vs s = ones_append ws vs (ones_add s w)

-- the word of a chunk of two
pub pair_word : (l p : List ℕ) (i w : ℕ) → p ≡ take 2 (drop i l) → w ≡ get_or p 0 0 * 256 + get_or p 1 0 → w ≡ get_or l i 0 * 256 + get_or l (i + 1) 0
pair_word l p i w e q =
    let a : get_or p 0 0 ≡ get_or l (i + 0) 0 = ap (λ (x : List ℕ). get_or x 0 0) e ∙ get_or-take 2 (drop i l) 0 0 (omega arith) ∙ get_or-drop i l 0 0 in
    let b : get_or p 1 0 ≡ get_or l (i + 1) 0 = ap (λ (x : List ℕ). get_or x 1 0) e ∙ get_or-take 2 (drop i l) 1 0 (omega arith) ∙ get_or-drop i l 1 0 in
    q ∙ rw (a, b, add-zero i)

-- one block more is summed
pub block_step : (l : List ℕ) (i s : ℕ) → ones_from s (words_in (drop (i * 65536) l)) ≡ ones_from (ones_from s (words_in (take 65536 (drop (i * 65536) l)))) (words_in (drop ((i + 1) * 65536) l))
block_step l i s =
    let m : List ℕ = drop (i * 65536) l in
    let n : i * 65536 + 65536 ≡ (i + 1) * 65536 = omega arith in
    ap (ones_from s) (words_cut m 32768) ∙ ones_append (words_in (take 65536 m)) (words_in (drop 65536 m)) s
    ∙ ap (λ (x : List ℕ). ones_from (ones_from s (words_in (take 65536 m))) (words_in x)) (drop-drop 65536 (i * 65536) l ∙ ap (λ (j : ℕ). drop j l) n)

-- a turn of the loop over a block: what is left to be added
pub sum_step : (l : List ℕ) (t s w i : ℕ) → i + 1 < length l → w ≡ get_or l i 0 * 256 + get_or l (i + 1) 0 → w ≤ 65535
    → t ≡ ones_from (folded s) (words_in (drop i l)) → t ≡ ones_from (folded (s + w)) (words_in (drop (i + 2) l))
sum_step l t s w i h e k q =
    q ∙ ap (ones_from (folded s)) (words_step l i (omega arith)) ∙ ap (λ (x : ℕ). ones_from (ones_add (folded s) x) (words_in (drop (i + 2) l))) (sym e)
    ∙ ap (λ (x : ℕ). ones_from x (words_in (drop (i + 2) l))) (sym (fold_add s w k))

-- every number of the list is a word
abbrev pub Words : List ℕ → Type 0
Words [] = Unit {0}
Words (w ∷ ws) = (w ≤ 65535) × Words ws

pub octets_words : (o : List ℕ) → Octets o → Words (words_in o)
octets_words [] h = tt
octets_words (a ∷ []) h = (omega (arith, h.0), tt)
octets_words (a ∷ b ∷ o) h = (omega (arith, h.0, h.1.0), octets_words o h.1.1)

pub sum_word : (ws : List ℕ) (s : ℕ) → s ≤ 65535 → Words ws → ones_from s ws ≤ 65535
sum_word [] s h u = h
sum_word (w ∷ ws) s h u = sum_word ws (ones_add s w) (ones_word s w h u.0) u.1

-- a word may be added first or last
pub ones_later : (ws : List ℕ) (s w : ℕ) → s ≤ 65535 → w ≤ 65535 → Words ws → ones_from (ones_add s w) ws ≡ ones_add (ones_from s ws) w
ones_later [] s w hs hw u = refl
ones_later (v ∷ ws) s w hs hw u =
    ap (λ (x : ℕ). ones_from x ws) (ones_swap s w v hs hw u.0) ∙ ones_later ws (ones_add s v) w (ones_word s v hs u.0) hw u.1

-- the checksum of octets whose checksum field, the second word, is zero
pub blank_checksum : (a b : ℕ) (rest : List ℕ) → a < 256 → b < 256
    → checksum_of (a ∷ b ∷ 0 ∷ 0 ∷ rest) ≡ 65535 - ones_from (ones_from 0 (words_in (a ∷ b ∷ []))) (words_in rest)
unfolding ones_sum checksum_of
blank_checksum a b rest ha hb =
    ap (λ (x : ℕ). 65535 - ones_from x (words_in rest)) (ones_zero (ones_add 0 (a * 256 + b)) (ones_word 0 (a * 256 + b) (omega arith) (omega arith)))
