-- Laws of writing over a list, and of its chunks.
use Prim.Native.Nat.{ℕ, zero, suc, ◌+◌, ◌-◌, ◌*◌, ◌≤◌, ◌<◌}
use mathlib.Core.Path.{◌≡◌, refl, sym, ap, ◌∙◌}
use mathlib.Core.List.{List, [], ◌∷◌, ◌++◌, append_assoc}
use native.Mathlib.Nat.{add_assoc, add-zero, zero-mul, suc-mul}
use native.Mathlib.Numerals.{add-one}
use native.Mathlib.Omega.{arith}
use lib.ListN.{length, get_or, set, take, drop, replicate, length-drop, length-append, take-append-drop}
use lib.Seq.{take_all, take-nil, take-suc, drop-cons, set_at, append_snoc, length-take-le, drop-drop, take_at, drop_at, drop-append-le}
use Rattle.std.specs.Simd.{first_chunks}
use Rattle.lists.specs.Lists.{paint, copied}

-- the part of a list from a place on
pub tail_is : (l : List ℕ) (a : ℕ) → take (length l - a) (drop a l) ≡ drop a l
tail_is l a = take_all (length l - a) (drop a l) (simp length-drop (omega arith))

-- the part of a list's front from a place on
pub drop_take : (n at : ℕ) (l : List ℕ) → drop at (take n l) ≡ take (n - at) (drop at l)
drop_take zero zero l = refl
drop_take zero (suc at) l = let e : zero - suc at ≡ 0 = omega arith in rw e
drop_take (suc n) zero l = let e : suc n - zero ≡ suc n = omega arith in rw e
drop_take (suc n) (suc at) [] = sym (take-nil (suc n - suc at))
drop_take (suc n) (suc at) (x ∷ l) = let e : suc n - suc at ≡ n - at = omega arith in rw e (drop_take n at l)

-- a turn of a loop that copies
pub copy_more : {T : Type 0} (s d : List T) (i : ℕ) (x : T) → x ≡ get_or s i x → i < length s → i < length d
    → set (take i s ++ drop i d) i x ≡ take (i + 1) s ++ drop (i + 1) d
copy_more s d i x e hs hd =
    rw (add-one, take-suc s i x, drop-cons d i x, ← e)
    (set_at (take i s) (get_or d i x) (drop (suc i) d) x i (length-take-le i s (omega arith))
    ∙ sym (append_snoc (take i s) x (drop (suc i) d)))

-- all of the first list, where the other has room for it
pub copied_whole : (s d : List ℕ) → length s ≤ length d → copied s d ≡ s ++ drop (length s) d
copied_whole s d h = rw (take_all (length d) s h)

-- the first n of a list, where both have so many
pub copied_first : (n : ℕ) (s d : List ℕ) → n ≤ length s → n ≤ length d → copied (take n s) d ≡ take n s ++ drop n d
copied_first n s d h k =
    let e : length (take n s) ≡ n = length-take-le n s h in
    copied_whole (take n s) d (omega arith) ∙ ap (λ (i : ℕ). take n s ++ drop i d) e

-- Writing over a list, in two goes.
pub paint_two : (w : ℕ) (xs ys out : List ℕ) → w + length xs ≤ length out
    → paint (w + length xs) ys (paint w xs out) ≡ paint w (xs ++ ys) out
paint_two w xs ys out h =
    let a : List ℕ = take w out ++ xs in
    let d : List ℕ = drop (w + length xs) out in
    let p : length (take w out ++ xs) ≡ w + length xs =
    length-append (take w out) xs ∙ ap (λ (k : ℕ). k + length xs) (length-take-le w out (omega arith)) in
    let q : drop (w + length xs + length ys) (take w out ++ xs ++ drop (w + length xs) out) ≡ drop (w + length xs + length ys) out =
    sym (drop-drop (length ys) (w + length xs) (a ++ d)) ∙ ap (drop (length ys)) (drop_at a d (w + length xs) p)
    ∙ drop-drop (length ys) (w + length xs) out in
    rw (← append_assoc (take w out) xs (drop (w + length xs) out), take_at (take w out ++ xs) (drop (w + length xs) out) (w + length xs) p, q)
    (simp (append_assoc, length-append, add_assoc))

pub paint_none : (at : ℕ) (out : List ℕ) → paint at [] out ≡ out
paint_none at out = rw (add-zero at) (take-append-drop at out)

pub paint_length : (at : ℕ) (xs out : List ℕ) → at + length xs ≤ length out → length (paint at xs out) ≡ length out
paint_length at xs out h = rw (length-append, length-append, length-drop, length-take-le at out (omega arith)) (omega arith)

-- The part of a list from place w to n has come back from a callee.
module _ (w n : ℕ) (out part : List ℕ) where
  abbrev pub Back : List ℕ
  Back = take w out ++ (part ++ drop (n - w) (drop w out))

  -- with xs over it
  pub back_written : (xs : List ℕ) → w + length xs ≤ n → n ≤ length out → part ≡ xs ++ drop (length xs) (take (n - w) (drop w out)) → Back ≡ paint w xs out
  back_written xs h k e =
      let m : length xs ≤ length (take (n - w) (drop w out)) = omega (arith, length-take-le (n - w) (drop w out) (simp length-drop (omega arith))) in
      let q : drop (length xs) (take (n - w) (drop w out)) ++ drop (n - w) (drop w out) ≡ drop (w + length xs) out =
      sym (drop-append-le (length xs) (take (n - w) (drop w out)) (drop (n - w) (drop w out)) m)
      ∙ ap (drop (length xs)) (take-append-drop (n - w) (drop w out))
      ∙ drop-drop (length xs) w out in
      rw (e, append_assoc, q)

  -- with zeros, behind the list xs
  pub back_zeroed : (xs was : List ℕ) → w ≡ length xs → w ≤ n → n ≤ length out → out ≡ xs ++ drop w was
      → part ≡ replicate (length (take (n - w) (drop w out))) 0 → Back ≡ xs ++ (replicate (n - w) 0 ++ drop n was)
  back_zeroed xs was ew h k eo ep =
      let f : take w out ≡ xs = rw eo (take_at xs (drop w was) w (sym ew)) in
      let b : drop w out ≡ drop w was = rw eo (drop_at xs (drop w was) w (sym ew)) in
      let r : length (take (n - w) (drop w out)) ≡ n - w = length-take-le (n - w) (drop w out) (simp length-drop (omega arith)) in
      let s : w + (n - w) ≡ n = omega arith in
      rw (ep, r, f, b, drop-drop, s)

-- a list copied over a part of another from a place on
pub back_copied : (w : ℕ) (xs out part : List ℕ) → w + length xs ≤ length out → part ≡ copied xs (take (length out - w) (drop w out))
    → Back w (length out) out part ≡ paint w xs out
back_copied w xs out part h e =
    let l : length (take (length out - w) (drop w out)) ≡ length out - w = length-take-le (length out - w) (drop w out) (rw length-drop (omega arith)) in
    back_written w (length out) out part xs h (omega arith) (e ∙ copied_whole xs (take (length out - w) (drop w out)) (omega arith))

-- A list cut into chunks of n: the chunk at a place.
pub chunk_at : (n k : ℕ) (l : List ℕ) (i : ℕ) (d : List ℕ) → i < k → get_or (first_chunks n k l) i d ≡ take n (drop (i * n) l)
chunk_at n zero l i d h = absurd (omega arith)
chunk_at n (suc k) l zero d h = rw (zero-mul n)
chunk_at n (suc k) l (suc i) d h =
    let e : i * n + n ≡ suc i * n = sym (suc-mul i n) in
    chunk_at n k (drop n l) i d (omega arith) ∙ ap (take n) (drop-drop (i * n) n l ∙ ap (λ (j : ℕ). drop j l) (omega (arith, e)))

pub chunk_in : (n k : ℕ) (l : List ℕ) (cs : List (List ℕ)) (i : ℕ) (d : List ℕ) → cs ≡ first_chunks n k l → length cs ≡ k → i < length cs
    → get_or cs i d ≡ take n (drop (i * n) l)
chunk_in n k l cs i d e m h = ap (λ (x : List (List ℕ)). get_or x i d) e ∙ chunk_at n k l i d (omega arith)
