-- Lists in the first places of an array.
use mathlib.Core.Bool.{Bool, true, false, cond, ◌&&◌}
use mathlib.Core.List.{List, [], ◌∷◌, ◌++◌, append_assoc}
use mathlib.Core.Path.{◌≡◌, refl, sym, ◌∙◌}
use Prim.Native.Nat.{ℕ, zero, suc, ◌+◌, ◌-◌, ◌≤◌, ◌<◌}
use native.Mathlib.Omega.{arith}
use lib.Dec.{leb, ltb}
use Rattle.std.specs.List.{list_all, enumerate_from}
use lib.ListN.{length, set, take, drop, replicate, length-append, length-replicate, take-append-drop}
use lib.Seq.{take-append_seam, set-append_seam, length-take-le, take_all, take_at}
use Rattle.std.proofs.lemmas.List.{drop-replicate}
use borrow.Author.Tests.{leb-true, leb-false, ltb-true, ltb-false}
use Rattle.label.proofs.Bools.{and_left, and_right}
use Rattle.file_format.specs.Format.{Each}
use Rattle.file_format.specs.Places.{padded, places_fit, Filled}

pub padded_more : {A : Type 0} (n : ℕ) (d : A) (xs : List A) (x : A) → length xs < n → set (padded n d xs) (length xs) x ≡ padded n d (xs ++ (x ∷ []))
padded_more n d xs x h =
    let k : length (xs ++ (x ∷ [])) ≡ length xs + 1 = length-append xs (x ∷ []) in
    let e : n - length xs ≡ suc (n - (length xs + 1)) = omega arith in
    rw (e, k) (set-append_seam xs d (replicate (n - (length xs + 1)) d) x ∙ sym (append_assoc xs (x ∷ []) (replicate (n - (length xs + 1)) d)))

pub padded_used : {A : Type 0} (n : ℕ) (d : A) (xs : List A) → take (length xs) (padded n d xs) ≡ xs
padded_used n d xs = take-append_seam xs (replicate (n - length xs) d)

pub padded_length : {A : Type 0} (n : ℕ) (d : A) (xs : List A) → length xs ≤ n → length (padded n d xs) ≡ n
padded_length n d xs h = omega (arith, length-append xs (replicate (n - length xs) d), length-replicate (n - length xs) d)

pub padded_again : {A : Type 0} (k n : ℕ) (d : A) (l : List A) → length l ≡ k → n ≤ k → drop n l ≡ replicate (length l - n) d → padded k d (take n l) ≡ l
padded_again k n d l e h q =
    let t : length (take n l) ≡ n = length-take-le n l (omega arith) in
    rw (t, ← e, ← q) (take-append-drop n l)

-- the places in use, of any count
pub used_is : {A : Type 0} (l : List A) (count n places : ℕ) → length l ≡ places → n ≡ cond (leb count places) count places → (take count l ≡ take n l) × (length (take count l) ≡ n)
used_is l count n places h e = go (leb count places) refl e
  where
    go : (t : Bool) → leb count places ≡ t → n ≡ cond t count places → (take count l ≡ take n l) × (length (take count l) ≡ n)
    go true t e =
        let b : count ≤ places = leb-true _ _ t in
        (rw e refl, rw e (length-take-le count l (omega arith)))
    go false t e =
        let b : places < count = leb-false _ _ t in
        let u : take count l ≡ l = take_all count l (omega arith) in
        (rw (e, u) (sym (take_all places l (omega arith))), rw (u, e) h)

-- A list that stands in the first n places of an array of k empty records.
module _ {A : Type 0} (k n : ℕ) (d : A) (part rest : List A) (size : length part ≡ n) (empty : rest ≡ drop n (replicate k d)) where
  pub front_used : take n (part ++ rest) ≡ part
  front_used = take_at part rest n size

  pub front_padded : padded k d part ≡ part ++ rest
  front_padded = rw (size, empty, drop-replicate) refl

  pub front_filled : n ≤ k → Filled k d n (part ++ rest)
  front_filled h = record { places = rw front_used front_padded; size = rw front_used size; limit = h }

-- A list that a loop puts into its places, one by one.
pub record Held {A : Type 0} (n : ℕ) (d : A) (count : ℕ) (l done : List A) : Type 0 where
  pub places : l ≡ padded n d done
  pub size : length done ≡ count
  pub limit : count ≤ n

pub held_none : {A : Type 0} (n : ℕ) (d : A) → Held n d 0 (replicate n d) []
held_none n d = let e : n - 0 ≡ n = omega arith in record { places = rw e; size = refl; limit = omega arith }

pub held_more : {A : Type 0} {n i : ℕ} {d : A} {l done : List A} (x : A) → Held n d i l done → i < n → Held n d (i + 1) (set l i x) (done ++ (x ∷ []))
held_more {A} {n} {i} {d} {l} {done} x h b =
    let s : length done ≡ i = h.size in
    record {
      places = rw (h.places, ← s) (padded_more n d done x (omega arith));
      size = omega (arith, length-append done (x ∷ []), h.size);
      limit = omega arith;
    }

pub held_used : {A : Type 0} {n i : ℕ} {d : A} {l done : List A} → Held n d i l done → take i l ≡ done
held_used {A} {n} {i} {d} {l} {done} h = rw (h.places, ← h.size) (padded_used n d done)

pub held_fills : {A : Type 0} {n i : ℕ} {d : A} {l done : List A} → Held n d i l done → Filled n d i l
held_fills {A} {n} {i} {d} {l} {done} h =
    let u : take i l ≡ done = held_used h in
    record { places = rw u (sym h.places); size = rw u h.size; limit = h.limit }

-- the test of all places, each with its number, from the place k on
fits_from : {A : Type 0} (used unused : A → Bool) (test : ℕ × A → Bool) (n : ℕ) → ((p : ℕ × A) → test p ≡ cond (ltb p.0 n) (used p.1) (unused p.1))
    → (k : ℕ) (l : List A) → list_all test (enumerate_from k l) ≡ places_fit used unused (n - k) l
fits_from used unused test n h k [] = refl
fits_from used unused test n h k (a ∷ l) = go (ltb k n) refl (fits_from used unused test n h (k + 1) l)
  where
    go : (b : Bool) → ltb k n ≡ b → list_all test (enumerate_from (k + 1) l) ≡ places_fit used unused (n - (k + 1)) l
        → (test (k, a) && list_all test (enumerate_from (k + 1) l)) ≡ places_fit used unused (n - k) (a ∷ l)
    go true e r =
        let b : k < n = ltb-true k n e in
        let m : n - k ≡ suc (n - (k + 1)) = omega arith in
        rw (h (k, a), e, r, m) refl
    go false e r =
        let b : n ≤ k = ltb-false k n e in
        let m : n - k ≡ 0 = omega arith in
        let j : n - (k + 1) ≡ 0 = omega arith in
        rw (h (k, a), e, r, m, j) refl

pub fits_all : {A : Type 0} (used unused : A → Bool) (test : ℕ × A → Bool) (n : ℕ) → ((p : ℕ × A) → test p ≡ cond (ltb p.0 n) (used p.1) (unused p.1))
    → (l : List A) → list_all test (enumerate_from 0 l) ≡ places_fit used unused n l
fits_all used unused test n h l = let e : n - 0 ≡ n = omega arith in rw e at (fits_from used unused test n h 0 l)

-- What the test means.
module _ {A : Type 0} (used unused : A → Bool) where
  pub fits_used : {S : Type 0} (P : A → Type 0) (next : S → A → S) → ((a : A) → used a ≡ true → P a)
      → (n : ℕ) (l : List A) (st : S) → places_fit used unused n l ≡ true → Each (λ st a. P a) next st (take n l)
  fits_used P next h zero l st e = tt
  fits_used P next h (suc n) [] st e = tt
  fits_used P next h (suc n) (a ∷ l) st e = (h a (and_left (used a) _ e), fits_used P next h n l (next st a) (and_right (used a) _ e))

  pub fits_unused : (d : A) → ((a : A) → unused a ≡ true → a ≡ d) → (n : ℕ) (l : List A) → places_fit used unused n l ≡ true → drop n l ≡ replicate (length l - n) d
  fits_unused d h zero [] e = refl
  fits_unused d h zero (a ∷ l) e =
      let q : a ≡ d = h a (and_left (unused a) _ e) in
      let t : l ≡ replicate (length l - 0) d = fits_unused d h zero l (and_right (unused a) _ e) in
      let k : length l - 0 ≡ length l = omega arith in
      let u : l ≡ replicate (length l) d = rw k at t in
      let m : suc (length l) - 0 ≡ suc (length l) = omega arith in
      rw m (λ i. q i ∷ u i)
  fits_unused d h (suc n) [] e = let k : 0 - suc n ≡ 0 = omega arith in rw k
  fits_unused d h (suc n) (a ∷ l) e = let k : suc (length l) - suc n ≡ length l - n = omega arith in rw k (fits_unused d h n l (and_right (used a) _ e))

  none_fit : (d : A) → unused d ≡ true → (k : ℕ) → places_fit used unused 0 (replicate k d) ≡ true
  none_fit d h zero = refl
  none_fit d h (suc k) = rw h (none_fit d h k)

  pub fit_padded : {S : Type 0} (P : A → Type 0) (next : S → A → S) (d : A) → ((a : A) → P a → used a ≡ true) → unused d ≡ true
      → (k : ℕ) (xs : List A) (st : S) → Each (λ st a. P a) next st xs → places_fit used unused (length xs) (xs ++ replicate k d) ≡ true
  fit_padded P next d h u k [] st e = none_fit d u k
  fit_padded P next d h u k (x ∷ xs) st e = rw (h x e.0) (fit_padded P next d h u k xs (next st x) e.1)
