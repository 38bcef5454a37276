-- Targets that are apart, row by row; and sources that rise.
use mathlib.Core.Bool.{Bool, true, false, ◌&&◌, ◌||◌}
use mathlib.Core.List.{List, [], ◌∷◌, ◌++◌}
use mathlib.Core.Path.{◌≡◌, refl}
use Prim.Native.Nat.{ℕ, zero, suc, ◌+◌, ◌≤◌, ◌<◌}
use native.Mathlib.Omega.{arith}
use lib.Dec.{leb, ltb}
use lib.ListN.{take}
use lib.Seq.{take-take}
use borrow.Author.Tests.{le-leb}
use Rattle.label.proofs.Bools.{never, and_left, and_right}
use Rattle.table.specs.declared.Row.{Row}
use Rattle.table.specs.Table.{target_end, rising, apart, apart_from_all, targets_apart}
use Rattle.file_table.specs.TableFormat.{floor_of}

or_turned : (a b : Bool) → (a || b) ≡ (b || a)
or_turned true true = refl
or_turned true false = refl
or_turned false true = refl
or_turned false false = refl

crossed : (a b c d : Bool) → ((a && b) && (c && d)) ≡ ((a && c) && (b && d))
crossed false b c d = refl
crossed true true c d = refl
crossed true false true d = refl
crossed true false false d = refl

and_true : (a : Bool) → (a && true) ≡ a
and_true true = refl
and_true false = refl

apart_from_last : (r s : Row) (xs : List Row) → apart_from_all r (xs ++ (s ∷ [])) ≡ (apart_from_all r xs && apart r s)
apart_from_last r s [] = and_true (apart r s)
apart_from_last r s (x ∷ xs) = rw (apart_from_last r s xs) (regrouped (apart r x) (apart_from_all r xs) (apart r s))
  where
    regrouped : (a b c : Bool) → (a && (b && c)) ≡ ((a && b) && c)
    regrouped true b c = refl
    regrouped false b c = refl

-- one row more: apart from each other, and the last from all before it
pub apart_last : (xs : List Row) (r : Row) → targets_apart (xs ++ (r ∷ [])) ≡ (targets_apart xs && apart_from_all r xs)
apart_last [] r = refl
apart_last (x ∷ xs) r =
    let o : apart x r ≡ apart r x = or_turned (ltb (target_end x) r.target) (ltb (target_end r) x.target) in
    rw (apart_from_last x r xs, apart_last xs r, o) (crossed (apart_from_all x xs) (apart r x) (targets_apart xs) (apart_from_all r xs))

pub floor_last : (f : ℕ) (xs : List Row) (r : Row) → floor_of f (xs ++ (r ∷ [])) ≡ r.high + 1
floor_last f [] r = refl
floor_last f (x ∷ xs) r = floor_last (x.high + 1) xs r

pub rising_last : (f : ℕ) (xs : List Row) (r : Row) → rising f xs ≡ true → floor_of f xs ≤ r.low → r.low ≤ r.high → r.high ≤ 65534 → target_end r ≤ 65534
    → rising f (xs ++ (r ∷ [])) ≡ true
rising_last f [] r e a b c d = rw (le-leb f r.low a, le-leb r.low r.high b, le-leb r.high 65534 c, le-leb (target_end r) 65534 d)
rising_last f (x ∷ xs) r e a b c d =
    let e1 = and_right (leb f x.low) _ e in
    let e2 = and_right (leb x.low x.high) _ e1 in
    let e3 = and_right (leb x.high 65534) _ e2 in
    rw (and_left (leb f x.low) _ e, and_left (leb x.low x.high) _ e1, and_left (leb x.high 65534) _ e2, and_left (leb (target_end x) 65534) _ e3)
    (rising_last (x.high + 1) xs r (and_right (leb (target_end x) 65534) _ e3) a b c d)

pub rising_take : (f k : ℕ) (xs : List Row) → rising f xs ≡ true → rising f (take k xs) ≡ true
rising_take f zero xs e = refl
rising_take f (suc k) [] e = refl
rising_take f (suc k) (x ∷ xs) e =
    let e1 = and_right (leb f x.low) _ e in
    let e2 = and_right (leb x.low x.high) _ e1 in
    let e3 = and_right (leb x.high 65534) _ e2 in
    rw (and_left (leb f x.low) _ e, and_left (leb x.low x.high) _ e1, and_left (leb x.high 65534) _ e2, and_left (leb (target_end x) 65534) _ e3)
    (rising_take (x.high + 1) k xs (and_right (leb (target_end x) 65534) _ e3))

pub rising_first : (k n : ℕ) (xs : List Row) → k ≤ n → rising 0 (take n xs) ≡ true → rising 0 (take k xs) ≡ true
rising_first k n xs h e = rw (← take-take k n xs h) (rising_take 0 k (take n xs) e)

-- rows that meet are there
pub apart_some : (n : ℕ) (xs : List Row) → targets_apart (take n xs) ≡ false → 0 < n
apart_some zero xs e = absurd (never e)
apart_some (suc n) xs e = omega arith
