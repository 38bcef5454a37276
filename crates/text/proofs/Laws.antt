-- Laws of putting: octets put behind octets, and what a buffer holds where there is room.
use Prim.Native.Nat.{ℕ, zero, suc, ◌+◌, ◌-◌, ◌/◌, ◌%◌, ◌^◌, ◌≤◌, ◌<◌}
use mathlib.Core.Path.{◌≡◌, refl, ap, ◌∙◌}
use mathlib.Core.List.{List, [], ◌∷◌, ◌++◌}
use native.Mathlib.Omega.{arith}
use native.Mathlib.Numerals.{add-one}
use native.Mathlib.Nat.{pow-suc}
use borrow.Author.Tests.{lt-ltb, ne_eqb}
use lib.ListN.{length, set, drop, length-set, drop_of_length-le}
use lib.Seq.{sets, append_snoc, drop-cons, get_or-set_same, drop-set-lt}
use Rattle.text.specs.declared.Line.{Line}
use Rattle.text.specs.Put.{put_octet, behind, put, place_after, Puts, Writes}
use Rattle.text.specs.Text.{leading, hex_digit, hex_of}

put_append : (out : List ℕ) (n : ℕ) (xs ys : List ℕ) → put (put out n xs) (place_after out n xs) ys ≡ put out n (xs ++ ys)
unfolding put place_after
put_append out n [] ys = refl
put_append out n (x ∷ xs) ys = put_append (put_octet out n x) (behind out n) xs ys

place_append : (out : List ℕ) (n : ℕ) (xs ys : List ℕ) → place_after (put out n xs) (place_after out n xs) ys ≡ place_after out n (xs ++ ys)
unfolding put place_after
place_append out n [] ys = refl
place_append out n (x ∷ xs) ys = place_append (put_octet out n x) (behind out n) xs ys

-- a buffer keeps its length
pub put_length : (out : List ℕ) (n : ℕ) (xs : List ℕ) → length (put out n xs) ≡ length out
unfolding put
put_length out n [] = refl
put_length out n (x ∷ xs) = put_length (put_octet out n x) (behind out n) xs ∙ length-set out n x

-- octets, and behind them more
pub puts_then : {a : List ℕ} {n : ℕ} {xs : List ℕ} {b : List ℕ} {k : ℕ} {ys c : List ℕ} {r : ℕ} → Puts a n xs b k → Puts b k ys c r → Puts a n (xs ++ ys) c r
puts_then {a} {n} {xs} {b} {k} {ys} {c} {r} p q =
    record {
      buffer = q.buffer ∙ (rw (p.buffer, p.place) (put_append a n xs ys));
      place = q.place ∙ (rw (p.buffer, p.place) (place_append a n xs ys));
    }

pub puts_none : {a : List ℕ} {n : ℕ} → Puts a n [] a n
unfolding put place_after
puts_none = record { buffer = refl; place = refl }

-- the same of a line
pub writes_then : {a : Line} {xs : List ℕ} {b : Line} {ys : List ℕ} {c : Line} → Writes a xs b → Writes b ys c → Writes a (xs ++ ys) c
writes_then p q = record { same = q.same ∙ p.same; puts = puts_then p.puts q.puts }

pub writes_none : {a : Line} → Writes a [] a
writes_none = record { same = refl; puts = puts_none }

-- while there is room, octets are stored one after the other
pub put_sets : (out : List ℕ) (n : ℕ) (xs : List ℕ) → n + length xs ≤ length out → put out n xs ≡ sets out n xs
unfolding put
put_sets out n [] h = refl
put_sets out n (x ∷ xs) h =
    rw (lt-ltb n (length out) (omega arith), add-one) (put_sets (set out n x) (suc n) xs (omega (arith, length-set out n x)))

pub place_room : (out : List ℕ) (n : ℕ) (xs : List ℕ) → n + length xs ≤ length out → place_after out n xs ≡ n + length xs
unfolding place_after
place_room out n [] h = omega arith
place_room out n (x ∷ xs) h =
    rw (lt-ltb n (length out) (omega arith), add-one) (place_room (set out n x) (suc n) xs (omega (arith, length-set out n x)) ∙ omega arith)

pub hex_append : (xs ys : List ℕ) → hex_of (xs ++ ys) ≡ hex_of xs ++ hex_of ys
unfolding hex_of
hex_append [] ys = refl
hex_append (x ∷ xs) ys = ap (λ (l : List ℕ). hex_digit (x / 16) ∷ hex_digit (x % 16) ∷ l) (hex_append xs ys)

-- a number below 10 to the power i that is not 0 has a digit
pub some_digit : (i x : ℕ) → x < 10 ^ i → 0 < x → 0 < i
some_digit zero x h p = omega arith
some_digit (suc i) x h p = omega arith

pub tenth_below : (i x : ℕ) → x < 10 ^ i → 0 < i → x / 10 < 10 ^ (i - 1)
tenth_below zero x h p = omega arith
tenth_below (suc i) x h p =
    let e : suc i - 1 ≡ i = omega arith in
    let k : x / 10 < 10 ^ i = omega (arith, pow-suc 10 i) in
    rw e k

-- no digits for 0
pub leading_zero : (i : ℕ) → leading i 0 ≡ []
unfolding leading
leading_zero zero = refl
leading_zero (suc i) = refl

drop_set_same : (l : List ℕ) (j x : ℕ) → j < length l → drop j (set l j x) ≡ x ∷ drop (suc j) l
drop_set_same l j x h =
    let k : j < length (set l j x) = omega (arith, length-set l j x) in
    drop-cons (set l j x) j 0 k ∙ rw (get_or-set_same l j x 0 h, drop-set-lt (suc j) l j x (omega arith))

-- one digit more stands in front
pub leading_more : (digits : List ℕ) (i rest x : ℕ) → i ≤ length digits → 0 < rest → 0 < i → x ≡ 48 + rest % 10
    → leading (i - 1) (rest / 10) ++ drop (i - 1) (set digits (i - 1) x) ≡ leading i rest ++ drop i digits
unfolding leading
leading_more digits zero rest x h p q e = absurd (omega arith)
leading_more digits (suc j) rest x h p q e =
    let one : suc j - 1 ≡ j = omega arith in
    rw (one, ne_eqb rest 0 (λ z. omega arith), append_snoc (leading j (rest / 10)) (48 + rest % 10) (drop (suc j) digits), ← e)
    (ap (λ (l : List ℕ). leading j (rest / 10) ++ l) (drop_set_same digits j x (omega arith)))

pub last_place : (digits : List ℕ) (x : ℕ) → length digits ≡ 20 → drop 19 (set digits 19 x) ≡ x ∷ []
last_place digits x h = drop_set_same digits 19 x (omega arith) ∙ ap (λ (l : List ℕ). x ∷ l) (drop_of_length-le digits {i = 20} (omega arith))
