-- Octets written over others: one after the other, and the last octet alone.
use mathlib.Core.Bool.{Bool, true, false}
use mathlib.Core.List.{List, [], ◌∷◌, ◌++◌, append_assoc, append-nil}
use mathlib.Core.Path.{◌≡◌, refl, sym, ap, ◌∙◌}
use Prim.Native.Nat.{ℕ, suc, ◌+◌, ◌-◌, ◌*◌, ◌/◌, ◌%◌, ◌≤◌, ◌<◌}
use native.Mathlib.Omega.{arith}
use native.Mathlib.Nat.{add-zero, suc-mul}
use native.Mathlib.Numerals.{add-one}
use lib.Dec.{leb}
use borrow.Author.Tests.{le-leb, lt-leb, leb-true, leb-false}
use lib.ListN.{length, get_or, set, take, drop, length-append}
use lib.Seq.{length-take-le, drop_at, take-set-le, set_split, take-suc}
use Rattle.lists.specs.Lists.{paint}
use Rattle.lists.proofs.Laws.{paint_none, paint_length, paint_two}
use Rattle.file_format.specs.declared.Output.{Output}
use Rattle.file_format.specs.Format.{digits, in_turn, Writes, Wrote, Adds, Added}
use Rattle.file_format.specs.Laws.{flat}
use Rattle.file_format.proofs.Numbers.{digits_length}

-- the last octet is written first
pub paint_last : (at k : ℕ) (xs : List ℕ) (x : ℕ) (out : List ℕ) → at + length xs ≡ k → k < length out
    → paint at (xs ++ (x ∷ [])) out ≡ paint at xs (set out k x)
paint_last at k xs x out e h =
    let n : at + length (xs ++ (x ∷ [])) ≡ suc k = omega (arith, length-append xs (x ∷ [])) in
    let p : length (take k out) ≡ k = length-take-le k out (omega arith) in
    let d : drop k (set out k x) ≡ x ∷ drop (suc k) out = rw (set_split out k x h) (drop_at (take k out) (x ∷ drop (suc k) out) k p) in
    rw (n, e, take-set-le at out k x (omega arith), d, append_assoc xs (x ∷ []) (drop (suc k) out))

-- a turn of the loop that writes a number from its last octet to its first
pub number_turn : (at i rest : ℕ) (out : List ℕ) → 0 < i → at + i ≤ length out
    → paint at (digits i rest) out ≡ paint at (digits (i - 1) (rest / 256)) (set out (at + (i - 1)) (rest % 256))
number_turn at i rest out h l =
    let e : i ≡ suc (i - 1) = omega arith in
    let s : digits i rest ≡ digits (i - 1) (rest / 256) ++ (rest % 256 ∷ []) = ap (λ (k : ℕ). digits k rest) e in
    rw s (paint_last at (at + (i - 1)) (digits (i - 1) (rest / 256)) (rest % 256) out (ap (λ (k : ℕ). at + k) (digits_length (i - 1) (rest / 256))) (omega arith))

-- Writers in turn: what they write is written in turn.

-- a writer that has room, each way, and one that has not
room_wrote : {at n : ℕ} {xs out out' : List ℕ} → Writes at xs out out' n → Wrote at xs out out' n
room_wrote {at} {n} {xs} {out} {out'} w =
    record { wrote = λ h. (w.buffer ∙ rw (le-leb (at + length xs) (length out) h), w.place ∙ rw (le-leb (at + length xs) (length out) h)) }

pub wrote_all : {at n : ℕ} {xs out out' : List ℕ} → at + length xs ≤ length out → Wrote at xs out out' n → Writes at xs out out' n
wrote_all {at} {n} {xs} {out} {out'} h w =
    record { buffer = rw (le-leb (at + length xs) (length out) h) (w.wrote h).0; place = rw (le-leb (at + length xs) (length out) h) (w.wrote h).1 }

pub wrote_nothing : {at : ℕ} {xs out : List ℕ} → length out < at + length xs → Writes at xs out out at
wrote_nothing {at} {xs} {out} h = record { buffer = rw (lt-leb (at + length xs) (length out) h); place = rw (lt-leb (at + length xs) (length out) h) }

writes_then : {at n m : ℕ} {xs ys out out₁ out₂ : List ℕ} → Wrote at xs out out₁ n → Wrote n ys out₁ out₂ m → Wrote at (xs ++ ys) out out₂ m
writes_then {at} {n} {m} {xs} {ys} {out} {out₁} {out₂} a b = record { wrote = go }
  where
    go : at + length (xs ++ ys) ≤ length out → (out₂ ≡ paint at (xs ++ ys) out) × (m ≡ at + length (xs ++ ys))
    go h =
        let l : length (xs ++ ys) ≡ length xs + length ys = length-append xs ys in
        let f : (out₁ ≡ paint at xs out) × (n ≡ at + length xs) = a.wrote (omega arith) in
        let k : length out₁ ≡ length out = ap length f.0 ∙ paint_length at xs out (omega arith) in
        let g : (out₂ ≡ paint n ys out₁) × (m ≡ n + length ys) = b.wrote (omega arith) in
        let p : paint n ys out₁ ≡ paint at (xs ++ ys) out = rw (f.0, f.1) (paint_two at xs ys out (omega arith)) in
        (g.0 ∙ p, omega arith)

-- The same of an output.

pub room_added : {a b : Output} {xs : List ℕ} → Adds a xs b → Added a xs b
room_added w = record { same = w.same; adds = room_wrote w.adds }

-- after the writer has looked whether there is room for its n octets
module _ {a : Output} {xs : List ℕ} (t : Bool) (n : ℕ) (asked : t ≡ leb (a.end + n) (length a.octets.now)) (size : length xs ≡ n) where
  pub stops_short : t ≡ false → Adds a xs a
  stops_short h =
      let k : length a.octets.now < a.end + n = leb-false _ _ (sym asked ∙ h) in
      record { same = refl; adds = wrote_nothing (omega (arith, size)) }

  pub goes_on : {b : Output} → t ≡ true → Added a xs b → Adds a xs b
  goes_on h w =
      let k : a.end + n ≤ length a.octets.now = leb-true _ _ (sym asked ∙ h) in
      record { same = w.same; adds = wrote_all (omega (arith, size)) w.adds }

-- nothing is written by nobody
pub added_none : {a : Output} → Added a [] a
added_none {a} = record { same = refl; adds = record { wrote = λ h. (sym (paint_none a.end a.octets.now), sym (add-zero a.end)) } }

pub added_then : {a b c : Output} {xs ys : List ℕ} → Added a xs b → Added b ys c → Added a (xs ++ ys) c
added_then p q = record { same = q.same ∙ p.same; adds = writes_then p.adds q.adds }

pub flat_turn : {A S : Type 0} (pr : S → A → List ℕ) (next : S → A → S) (g : A → List ℕ) → ((st : S) (a : A) → pr st a ≡ g a) → (st : S) (as' : List A) → in_turn pr next st as' ≡ flat g as'
flat_turn pr next g h st [] = refl
flat_turn pr next g h st (a ∷ as') = rw (h st a, flat_turn pr next g h (next st a) as')

pub flat_length : {A : Type 0} (g : A → List ℕ) (k : ℕ) → ((a : A) → length (g a) ≡ k) → (as' : List A) → length (flat g as') ≡ length as' * k
flat_length g k h [] = omega arith
flat_length g k h (a ∷ as') =
    let e : length (flat g as') ≡ length as' * k = flat_length g k h as' in
    let m : suc (length as') * k ≡ length as' * k + k = suc-mul (length as') k in
    omega (arith, length-append (g a) (flat g as'), h a)

pub flat_snoc : {A : Type 0} (g : A → List ℕ) (as' : List A) (a : A) → flat g (as' ++ (a ∷ [])) ≡ flat g as' ++ g a
flat_snoc g [] a = append-nil (g a)
flat_snoc g (b ∷ as') a = rw (flat_snoc g as' a) (sym (append_assoc (g b) (flat g as') (g a)))

-- a turn of a loop that writes the elements of an array
module _ {A : Type 0} (g : A → List ℕ) (d : A) (l : List A) where
  pub added_turn : {i : ℕ} {a b c : Output} → i < length l → Added a (flat g (take i l)) b → Added b (g (get_or l i d)) c → Added a (flat g (take (i + 1) l)) c
  added_turn {i} h p q =
      let e : flat g (take (i + 1) l) ≡ flat g (take i l) ++ g (get_or l i d) = rw (add-one, take-suc l i d h) (flat_snoc g (take i l) (get_or l i d)) in
      rw e (added_then p q)
