-- Laws of bitmaps that are written run by run.
use Prim.Native.Nat.{ℕ, zero, suc, ◌+◌, ◌-◌, ◌*◌, ◌/◌, ◌%◌, ◌^◌, ◌≤◌, ◌<◌}
use mathlib.Core.Path.{◌≡◌, refl, ap, sym, subst, ◌∙◌}
use mathlib.Core.List.{List, [], ◌∷◌, ◌++◌, map-append}
use mathlib.Core.Bool.{Bool, true, false, not, ◌&&◌, ◌||◌, and-false, or-false, or_assoc}
use mathlib.Core.Logic.{⊎_elim}
use lib.Bits.{bit_or, or_block, or_zero_r}
use lib.ListN.{length, get_or, set, take, replicate, length-set, length-replicate}
use lib.Seq.{take_all, take-suc, get_or-set_same, get_or-set_other}
use lib.Dec.{leb, eqb}
use native.Mathlib.Omega.{arith}
use native.Mathlib.Decide.{dec_le}
use native.Mathlib.Numerals.{add-one}
use borrow.Author.Tests.{le-leb, lt-leb, leb-true, eqb-true}
use Rattle.label.specs.declared.Run.{Run}
use Rattle.label.specs.Runs.{run, in_run, covers, all_below}
use Rattle.label.proofs.Bools.{all_below_lem, implies_yes, less_or, same_leb}
use Rattle.option.specs.Spelling.{bit_of, bits_of, octets_of}
use Rattle.option.proofs.Bits.{bit_le}
use Rattle.label_keys.specs.Keys.{key_run, key_runs}
use Rattle.option_write_bitmap.specs.Stages.{RunAdded}

-- the octet depends on its own bits alone
bits_same : (f g : ℕ → Bool) (base base' k : ℕ) → ((j : ℕ) → j < k → f (base + j) ≡ g (base' + j)) → bits_of f base k ≡ bits_of g base' k
bits_same f g base base' zero h = refl
bits_same f g base base' (suc k) h = rw (bits_same f g base base' k (λ j l. h j (omega arith)), h k (omega arith))

bits_none : (f : ℕ → Bool) (base k : ℕ) → ((j : ℕ) → j < k → f (base + j) ≡ false) → bits_of f base k ≡ 0
bits_none f base zero h = refl
bits_none f base (suc k) h = rw (bits_none f base k (λ j l. h j (omega arith)), h k (omega arith))

-- the octet of two sets together
pub bits_or : (p q : ℕ → Bool) (base k : ℕ) → bit_or (bits_of p base k) (bits_of q base k) ≡ bits_of (λ c. p c || q c) base k
bits_or p q base zero = refl
bits_or p q base (suc k) =
    or_block 1 (bits_of p base k) (bits_of q base k) (bit_of (p (base + k))) (bit_of (q (base + k))) (omega (arith, bit_le (p (base + k)))) (omega (arith, bit_le (q (base + k))))
    ∙ (λ i. bits_or p q base k i * 2 + one (p (base + k)) (q (base + k)) i)
  where
    one : (a b : Bool) → bit_or (bit_of a) (bit_of b) ≡ bit_of (a || b)
    one false false = refl
    one false true = refl
    one true false = refl
    one true true = refl

-- Ones from bit a on, without those after bit b: the rule at every a and b, by computing.
between : ℕ → ℕ → ℕ → Bool
between a b j = leb a j && leb j b

right : ℕ → ℕ → Bool
right a b = eqb (255 / 2 ^ a - 127 / 2 ^ b) (bits_of (between a b) 0 8)

right_all : all_below 8 (λ a. all_below 8 (right a)) ≡ true
unfolding all_below right between
right_all = refl

right_at : (a b : ℕ) → a < 8 → b < 8 → 255 / 2 ^ a - 127 / 2 ^ b ≡ bits_of (between a b) 0 8
unfolding right
right_at a b h k = eqb-true _ _ (all_below_lem 8 (right a) (all_below_lem 8 (λ n. all_below 8 (right n)) right_all a h) b k)

-- the ones after the last bit are among those from the first on
less : ℕ → ℕ → Bool
less a b = not (leb a b) || leb (127 / 2 ^ b) (255 / 2 ^ a)

less_all : all_below 8 (λ a. all_below 8 (less a)) ≡ true
unfolding all_below less
less_all = refl

pub less_at : (a b : ℕ) → a ≤ b → b < 8 → 127 / 2 ^ b ≤ 255 / 2 ^ a
unfolding less
less_at a b h k =
    leb-true _ _ (implies_yes (leb a b) _ (all_below_lem 8 (less a) (all_below_lem 8 (λ n. all_below 8 (less n)) less_all a (omega arith)) b k) (le-leb a b h))

module _ (low high base : ℕ) where
  pub octet_empty : high < low → bits_of (in_run (run low high)) base 8 ≡ 0
  octet_empty h = bits_none (in_run (run low high)) base 8 (λ j l. off j (dec_le low (base + j)))
    where
      off : (j : ℕ) → Dec (low ≤ base + j) → in_run (run low high) (base + j) ≡ false
      off j (yes u) = rw (lt-leb (base + j) high (omega arith)) (and-false (leb low (base + j)))
      off j (no u) = rw (lt-leb low (base + j) (omega arith))

  pub octet_before : high < base → bits_of (in_run (run low high)) base 8 ≡ 0
  octet_before h = bits_none (in_run (run low high)) base 8 (λ j l. rw (lt-leb (base + j) high (omega arith)) (and-false (leb low (base + j))))

  pub octet_after : base + 7 < low → bits_of (in_run (run low high)) base 8 ≡ 0
  octet_after h = bits_none (in_run (run low high)) base 8 (λ j l. rw (lt-leb low (base + j) (omega arith)))

  pub octet_is : (b : ℕ) → low ≤ base + 7 → b ≤ 7 → base ≤ high → (high < base + 7 → base + b ≡ high) → (base + 7 ≤ high → b ≡ 7)
      → 255 / 2 ^ (low - base) - 127 / 2 ^ b ≡ bits_of (in_run (run low high)) base 8
  unfolding between
  octet_is b l k o f g =
      right_at (low - base) b (omega arith) (omega arith)
      ∙ bits_same (between (low - base) b) (in_run (run low high)) 0 base 8 same
    where
      top : (j : ℕ) → j < 8 → leb (0 + j) b ≡ leb (base + j) high
      top j h = elim (dec_le (base + 7) high) [ yes u ↦ (let e = g u in same_leb (0 + j) b (base + j) high (λ p. omega arith) (λ p. omega arith)) | no u ↦ (let e = f (omega arith) in same_leb (0 + j) b (base + j) high (λ p. omega arith) (λ p. omega arith)) ]

      same : (j : ℕ) → j < 8 → (leb (low - base) (0 + j) && leb (0 + j) b) ≡ (leb low (base + j) && leb (base + j) high)
      same j h = rw (same_leb (low - base) (0 + j) low (base + j) (λ p. omega arith) (λ p. omega arith), top j h)

-- Where a run is being added to a bitmap: octets before o have its bits, those from o on are as they were.
pub record Adding (r : Run) (o : ℕ) (was out : List ℕ) : Type 0 where
  pub sized : length out ≡ length was
  pub before : (j : ℕ) → j < o → j < length was → get_or out j 0 ≡ bit_or (get_or was j 0) (bits_of (in_run r) (8 * j) 8)
  pub after : (j : ℕ) → o ≤ j → get_or out j 0 ≡ get_or was j 0

-- an octet without bits of the run stays
unset : (r : Run) (was out : List ℕ) (j : ℕ) → bits_of (in_run r) (8 * j) 8 ≡ 0 → get_or out j 0 ≡ get_or was j 0 → get_or out j 0 ≡ bit_or (get_or was j 0) (bits_of (in_run r) (8 * j) 8)
unset r was out j e f = f ∙ sym (ap (bit_or (get_or was j 0)) e ∙ or_zero_r (get_or was j 0))

pub adding_start : (low high : ℕ) (was : List ℕ) → Adding (run low high) (low / 8) was was
adding_start low high was =
    record {
      sized = refl;
      before = λ j p q. unset (run low high) was was j (octet_after low high (8 * j) (omega arith)) refl;
      after = λ j p. refl;
    }

pub adding_store : {r : Run} {o : ℕ} {was out : List ℕ} → Adding r o was out → o < length was → (x : ℕ) → x ≡ bits_of (in_run r) (8 * o) 8
    → Adding r (o + 1) was (set out o (bit_or (get_or out o 0) x))
adding_store {r} {o} {was} {out} t h x e =
    record {
      sized = length-set out o (bit_or (get_or out o 0) x) ∙ t.sized;
      before = λ j p q. ⊎_elim (λ w. other j (omega arith) ∙ t.before j w q) (λ w. here j (omega arith)) (less_or j o);
      after = λ j p. other j (omega arith) ∙ t.after j (omega arith);
    }
  where
    other : (j : ℕ) → (j ≡ o → ⊥) → get_or (set out o (bit_or (get_or out o 0) x)) j 0 ≡ get_or out j 0
    other j z = get_or-set_other out o j (bit_or (get_or out o 0) x) 0 z

    here : (j : ℕ) → j ≡ o → get_or (set out o (bit_or (get_or out o 0) x)) j 0 ≡ bit_or (get_or was j 0) (bits_of (in_run r) (8 * j) 8)
    here j z = rw (z, get_or-set_same out o (bit_or (get_or out o 0) x) 0 (omega (arith, t.sized))) (λ i. bit_or (t.after o (omega arith) i) (e i))

-- past the last octet of the bitmap, or of the run
pub adding_done : {r : Run} {o : ℕ} {was out : List ℕ} → Adding r o was out → length was ≤ o → RunAdded r was out
adding_done t h = record { sized = t.sized; added = λ j q. t.before j (omega arith) q }

pub adding_past : (low high : ℕ) {o : ℕ} {was out : List ℕ} → Adding (run low high) o was out → high < 8 * o → RunAdded (run low high) was out
adding_past low high {o} {was} {out} t h =
    record {
      sized = t.sized;
      added = λ j q. ⊎_elim (λ w. t.before j w q) (λ w. unset (run low high) was out j (octet_before low high (8 * j) (omega arith)) (t.after j w)) (less_or j o);
    }

pub added_none : (low high : ℕ) (was : List ℕ) → high < low → RunAdded (run low high) was was
added_none low high was h = record { sized = refl; added = λ j q. unset (run low high) was was j (octet_empty low high (8 * j) h) refl }

-- The octet that the code adds: the run's first, one that it fills up, its last.
pub octet_inner : (low high o : ℕ) → low ≤ 8 * o + 7 → 8 * o + 8 ≤ high → 255 / 2 ^ (low - 8 * o) ≡ bits_of (in_run (run low high)) (8 * o) 8
octet_inner low high o h k =
    let e : 255 / 2 ^ (low - 8 * o) ≡ 255 / 2 ^ (low - 8 * o) - 127 / 2 ^ 7 = omega arith in
    e ∙ octet_is low high (8 * o) 7 h (omega arith) (omega arith) (λ z. omega arith) (λ z. refl)

pub octet_last : (low high o : ℕ) → low ≤ high → low ≤ 8 * o + 7 → o ≡ high / 8 → 255 / 2 ^ (low - 8 * o) - 127 / 2 ^ (high % 8) ≡ bits_of (in_run (run low high)) (8 * o) 8
octet_last low high o h k e = octet_is low high (8 * o) (high % 8) k (omega arith) (omega arith) (λ z. omega arith) (λ z. omega arith)

-- A run in one octet, and in two: what the code stores.
module _ (low high ones : ℕ) (was : List ℕ) (run≤ : low ≤ high) (inside : high / 8 < length was) (e : ones ≡ 255 / 2 ^ (low % 8)) where
  first_ones : ones ≡ 255 / 2 ^ (low - 8 * (low / 8))
  first_ones = let k : low % 8 ≡ low - 8 * (low / 8) = omega arith in e ∙ ap (λ (n : ℕ). 255 / 2 ^ n) k

  pub added_one : low / 8 ≡ high / 8 → RunAdded (run low high) was (set was (high / 8) (bit_or (get_or was (high / 8) 0) (ones - 127 / 2 ^ (high % 8))))
  added_one h =
      let x = ones - 127 / 2 ^ (high % 8) in
      let only : x ≡ bits_of (in_run (run low high)) (8 * (low / 8)) 8 =
      ap (λ (z : ℕ). z - 127 / 2 ^ (high % 8)) first_ones ∙ octet_last low high (low / 8) run≤ (omega arith) h in
      subst (λ (o : ℕ). RunAdded (run low high) was (set was o (bit_or (get_or was o 0) x))) h
      (adding_past low high (adding_store (adding_start low high was) (omega arith) x only) (omega arith))

  pub added_two : low / 8 + 1 ≡ high / 8
      → let one = set was (low / 8) (bit_or (get_or was (low / 8) 0) ones) in
      RunAdded (run low high) was (set one (high / 8) (bit_or (get_or one (high / 8) 0) (255 - 127 / 2 ^ (high % 8))))
  added_two h =
      let none : low - 8 * (low / 8 + 1) ≡ 0 = omega arith in
      let one = set was (low / 8) (bit_or (get_or was (low / 8) 0) ones) in
      let x = 255 - 127 / 2 ^ (high % 8) in
      let last : x ≡ bits_of (in_run (run low high)) (8 * (low / 8 + 1)) 8 =
      sym (ap (λ (n : ℕ). 255 / 2 ^ n - 127 / 2 ^ (high % 8)) none) ∙ octet_last low high (low / 8 + 1) run≤ (omega arith) h in
      let first : ones ≡ bits_of (in_run (run low high)) (8 * (low / 8)) 8 = first_ones ∙ octet_inner low high (low / 8) (omega arith) (omega arith) in
      let both : Adding (run low high) (low / 8 + 1 + 1) was (set one (low / 8 + 1) (bit_or (get_or one (low / 8 + 1) 0) x)) =
      adding_store (adding_store (adding_start low high was) (omega arith) ones first) (omega arith) x last in
      subst (λ (o : ℕ). RunAdded (run low high) was (set one o (bit_or (get_or one o 0) x))) h (adding_past low high both (omega arith))

-- The octets are n, and the bitmap of f.
pub record Bitmap (f : ℕ → Bool) (n : ℕ) (out : List ℕ) : Type 0 where
  pub sized : length out ≡ n
  pub octets : (j : ℕ) → j < n → get_or out j 0 ≡ bits_of f (8 * j) 8

zeros_at : (n j : ℕ) → get_or {A = ℕ} (replicate n 0) j 0 ≡ 0
zeros_at zero j = refl
zeros_at (suc n) zero = refl
zeros_at (suc n) (suc j) = zeros_at n j

-- octets that were cleared
module _ (n : ℕ) (out : List ℕ) (e : out ≡ replicate n 0) where
  pub cleared_length : length out ≡ n
  cleared_length = ap length e ∙ length-replicate n 0

  pub cleared_bitmap : Bitmap (covers []) (length out) out
  cleared_bitmap =
      record {
        sized = refl;
        octets = λ j h. ap (λ (z : List ℕ). get_or z j 0) e ∙ zeros_at n j ∙ sym (bits_none (covers []) (8 * j) 8 (λ k l. refl));
      }

covers_snoc : (xs : List Run) (r : Run) (c : ℕ) → (covers xs c || in_run r c) ≡ covers (xs ++ r ∷ []) c
covers_snoc [] r c = sym (or-false (in_run r c))
covers_snoc (x ∷ xs) r c = or_assoc (in_run x c) (covers xs c) (in_run r c) ∙ ap (λ (b : Bool). in_run x c || b) (covers_snoc xs r c)

bitmap_next : {n : ℕ} {out out' : List ℕ} (xs : List Run) (r : Run) → Bitmap (covers xs) n out → RunAdded r out out' → Bitmap (covers (xs ++ r ∷ [])) n out'
bitmap_next xs r t a =
    record {
      sized = a.sized ∙ t.sized;
      octets = λ j h.
          a.added j (omega (arith, t.sized))
          ∙ ap (λ (x : ℕ). bit_or x (bits_of (in_run r) (8 * j) 8)) (t.octets j h)
          ∙ bits_or (covers xs) (in_run r) (8 * j) 8
          ∙ bits_same (λ c. covers xs c || in_run r c) (covers (xs ++ r ∷ [])) (8 * j) (8 * j) 8 (λ k l. covers_snoc xs r (8 * j + k));
    }

keys_taken : (ks : List ℕ) (i : ℕ) → i < length ks → key_runs (take (i + 1) ks) ≡ key_runs (take i ks) ++ key_run (get_or ks i 0) ∷ []
keys_taken ks i h = rw (add-one i, take-suc ks i 0 h) (map-append key_run (take i ks) (get_or ks i 0 ∷ []))

pub bitmap_turn : {n : ℕ} {out out' : List ℕ} (ks : List ℕ) (i : ℕ) → i < length ks → Bitmap (covers (key_runs (take i ks))) n out → RunAdded (key_run (get_or ks i 0)) out out' → Bitmap (covers (key_runs (take (i + 1) ks))) n out'
bitmap_turn ks i h t a = rw (keys_taken ks i h) (bitmap_next (key_runs (take i ks)) (key_run (get_or ks i 0)) t a)

octets_take : (f : ℕ → Bool) (n : ℕ) (out : List ℕ) → n ≤ length out → ((j : ℕ) → j < n → get_or out j 0 ≡ bits_of f (8 * j) 8) → take n out ≡ octets_of f n
octets_take f zero out h o = refl
octets_take f (suc n) out h o =
    take-suc out n 0 h ∙ (λ i. octets_take f n out (omega arith) (λ j l. o j (omega arith)) i ++ o n (omega arith) i ∷ [])

pub bitmap_whole : {f : ℕ → Bool} {n : ℕ} {out : List ℕ} → Bitmap f n out → out ≡ octets_of f n
bitmap_whole {f} {n} {out} t = sym (take_all n out (omega (arith, t.sized))) ∙ octets_take f n out (omega (arith, t.sized)) t.octets
