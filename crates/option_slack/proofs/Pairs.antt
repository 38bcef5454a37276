-- Laws of tag 5's numbers, as the code goes through them, and of the part of an option that its tag has.
use Prim.Native.Nat.{ℕ, zero, suc, ◌+◌, ◌-◌, ◌*◌, ◌/◌, ◌%◌, ◌≤◌, ◌<◌}
use mathlib.Core.Path.{◌≡◌, refl, sym, ap, ◌∙◌}
use mathlib.Core.Bool.{Bool, true, false, cond, ◌&&◌, ◌||◌}
use mathlib.Core.List.{List, [], ◌∷◌}
use mathlib.Core.Logic.{⊎_elim}
use native.Mathlib.Omega.{arith}
use lib.Dec.{leb, eqb}
use lib.ListN.{length, get_or, take, drop, length-drop, drop_of_length-le}
use lib.Seq.{get_or-drop, drop-drop, take_all, take-nil}
use borrow.Author.Tests.{leb-false, ne_eqb}
use Rattle.label.proofs.Bools.{never, less_or}
use Rattle.option.specs.Option.{tag_of, tag_length_of, numbers_in}
use Rattle.option.specs.Index.{number_at}
use Rattle.option.proofs.Meaning.{numbers_length}
use Rattle.option_read.specs.Reading.{categories_in}
use Rattle.option_slack.specs.Slack.{touching, zero_written, slack_bitmap, slack_pairs, slack_body, slack}

pub number_in : (b : List ℕ) (k : ℕ) → 2 * k + 1 < length b → get_or (numbers_in b) k 0 ≡ number_at b k
number_in [] k h = refl
number_in (a ∷ []) k h = absurd (omega arith)
number_in (a ∷ c ∷ b) zero h = refl
number_in (a ∷ c ∷ b) (suc k) h =
    let x : 2 * suc k ≡ suc (suc (2 * k)) = omega arith in
    let y : suc (suc (2 * k)) + 1 ≡ suc (suc (2 * k + 1)) = omega arith in
    rw (x, y) (number_in b k (omega arith))

-- Touching pairs, from number i on.
touch_few : (xs : List ℕ) → length xs ≤ 2 → touching xs ≡ false
touch_few [] h = refl
touch_few (t ∷ []) h = refl
touch_few (t ∷ b ∷ []) h = refl
touch_few (t ∷ b ∷ u ∷ xs) h = absurd (omega arith)

touch_more : (xs : List ℕ) → 2 < length xs → touching xs ≡ (eqb (get_or xs 2 0 + 1) (get_or xs 1 0) || touching (drop 2 xs))
touch_more [] h = absurd (omega arith)
touch_more (t ∷ []) h = absurd (omega arith)
touch_more (t ∷ b ∷ []) h = absurd (omega arith)
touch_more (t ∷ b ∷ u ∷ xs) h = refl

pub touch_none : (i : ℕ) (xs : List ℕ) → length xs ≤ i + 2 → touching (drop i xs) ≡ false
touch_none i xs h = touch_few (drop i xs) (omega (arith, length-drop i xs))

pub touch_next : (i : ℕ) (xs : List ℕ) → i + 2 < length xs
    → touching (drop i xs) ≡ (eqb (get_or xs (i + 2) 0 + 1) (get_or xs (i + 1) 0) || touching (drop (i + 2) xs))
touch_next i xs h =
    touch_more (drop i xs) (omega (arith, length-drop i xs))
    ∙ (λ j. eqb (get_or-drop i xs 2 0 j + 1) (get_or-drop i xs 1 0 j) || touching (drop-drop 2 i xs j))

-- The turn of the loop at number k, a top.
module _ (b : List ℕ) (k top bottom : ℕ) (l : 2 ≤ k) (h : k < length b / 2) (t : top ≡ number_at b k) (u : bottom ≡ number_at b (k - 1)) where
  touch_here : touching (drop (k - 2) (numbers_in b)) ≡ (eqb (top + 1) bottom || touching (drop (k + 2 - 2) (numbers_in b)))
  touch_here =
      let x : k - 2 + 2 ≡ k = omega arith in
      let y : k - 2 + 1 ≡ k - 1 = omega arith in
      let z : k + 2 - 2 ≡ k = omega arith in
      touch_next (k - 2) (numbers_in b) (omega (arith, numbers_length b))
      ∙ (λ j. eqb (get_or (numbers_in b) (x j) 0 + 1) (get_or (numbers_in b) (y j) 0) || touching (drop (x j) (numbers_in b)))
      ∙ (λ j. eqb (number_in b k (omega arith) j + 1) (number_in b (k - 1) (omega arith) j) || touching (drop (sym z j) (numbers_in b)))
      ∙ (λ j. eqb (sym t j + 1) (sym u j) || touching (drop (k + 2 - 2) (numbers_in b)))

  pub touch_found : eqb (top + 1) bottom ≡ true → touching (drop (k - 2) (numbers_in b)) ≡ true
  touch_found e = touch_here ∙ ap (λ (z : Bool). z || touching (drop (k + 2 - 2) (numbers_in b))) e

  pub touch_on : eqb (top + 1) bottom ≡ false → touching (drop (k - 2) (numbers_in b)) ≡ touching (drop (k + 2 - 2) (numbers_in b))
  touch_on e = touch_here ∙ ap (λ (z : Bool). z || touching (drop (k + 2 - 2) (numbers_in b))) e

-- at the end
pub touch_done : (b : List ℕ) (k : ℕ) → 2 ≤ k → length b / 2 ≤ k → touching (drop (k - 2) (numbers_in b)) ≡ false
touch_done b k l h = touch_none (k - 2) (numbers_in b) (omega (arith, numbers_length b))

-- The last bottom.
pub zero_odd : (xs : List ℕ) → length xs % 2 ≡ 1 → zero_written xs ≡ false
zero_odd [] h = refl
zero_odd (t ∷ []) h = refl
zero_odd (t ∷ b ∷ []) h = absurd (omega arith)
zero_odd (t ∷ b ∷ u ∷ xs) h = zero_odd (u ∷ xs) (omega arith)

pub zero_even : (xs : List ℕ) → length xs % 2 ≡ 0 → 0 < length xs → zero_written xs ≡ eqb (get_or xs (length xs - 1) 0) 0
zero_even [] e h = absurd (omega arith)
zero_even (t ∷ []) e h = absurd (omega arith)
zero_even (t ∷ b ∷ []) e h = refl
zero_even (t ∷ b ∷ u ∷ xs) e h =
    let n : length (t ∷ b ∷ u ∷ xs) - 1 ≡ suc (suc (length (u ∷ xs) - 1)) = omega arith in
    zero_even (u ∷ xs) (omega arith) (omega arith) ∙ ap (λ (k : ℕ). eqb (get_or (t ∷ b ∷ u ∷ xs) k 0) 0) (sym n)

-- The tag's own categories.
pub part_is : (o : List ℕ) (size end : ℕ) → size ≡ tag_length_of o → end ≡ 10 + cond (leb (size - 4) (length o - 10)) (size - 4) (length o - 10)
    → take (end - 10) (drop 10 o) ≡ categories_in o
part_is o size end e f = go (leb (size - 4) (length o - 10)) refl f
  where
    go : (b : Bool) → leb (size - 4) (length o - 10) ≡ b → end ≡ 10 + cond b (size - 4) (length o - 10) → take (end - 10) (drop 10 o) ≡ categories_in o
    go true p q = let n : end - 10 ≡ tag_length_of o - 4 = omega arith in ap (λ (k : ℕ). take k (drop 10 o)) n
    go false p q =
        let l : length o - 10 < size - 4 = leb-false _ _ p in
        take_all (end - 10) (drop 10 o) (omega (arith, length-drop 10 o)) ∙ sym (take_all (tag_length_of o - 4) (drop 10 o) (omega (arith, length-drop 10 o)))

-- an option that ends where its categories would begin has none
none_fine : (t : ℕ) → slack_body t [] ≡ false
unfolding slack_body
none_fine t = go (eqb t 1) (eqb t 5)
  where
    go : (a b : Bool) → ((a && false) || (b && false)) ≡ false
    go true true = refl
    go true false = refl
    go false true = refl
    go false false = refl

pub short_fine : (o : List ℕ) → length o ≤ 10 → slack o ≡ false
unfolding slack
short_fine o h =
    let e : drop 10 o ≡ [] = drop_of_length-le o {i = 10} h in
    ap (slack_body (tag_of o)) (ap (take (tag_length_of o - 4)) e ∙ take-nil (tag_length_of o - 4)) ∙ none_fine (tag_of o)

pub slack_long : (o : List ℕ) → slack o ≡ true → 10 < length o
slack_long o e = ⊎_elim (λ h. h) (λ h. absurd (never (sym e ∙ short_fine o h))) (less_or 10 (length o))

-- by the tag
pub one_is : (o : List ℕ) → tag_of o ≡ 1 → slack o ≡ slack_bitmap (categories_in o)
unfolding slack slack_body
one_is o e = rw e (or_no (slack_bitmap (categories_in o)))
  where
    or_no : (x : Bool) → (x || false) ≡ x
    or_no true = refl
    or_no false = refl

pub five_is : (o : List ℕ) → tag_of o ≡ 5 → slack o ≡ slack_pairs (numbers_in (categories_in o))
unfolding slack slack_body
five_is o e = rw e

pub other_is : (o : List ℕ) → (tag_of o ≡ 1 → ⊥) → (tag_of o ≡ 5 → ⊥) → slack o ≡ false
unfolding slack slack_body
other_is o n m = rw (ne_eqb (tag_of o) 1 n, ne_eqb (tag_of o) 5 m)
