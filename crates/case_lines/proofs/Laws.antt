-- The words of a list, one element after the other.
use Prim.Native.Nat.{ℕ, ◌+◌, ◌<◌}
use mathlib.Core.Path.{◌≡◌, refl, ap, ◌∙◌, sym}
use mathlib.Core.List.{List, [], ◌∷◌, ◌++◌, append_assoc, append-nil}
use native.Mathlib.Numerals.{add-one}
use lib.ListN.{length, take, get_or}
use lib.Seq.{take-suc}
use Rattle.case_lines.specs.Line.{each}

each_append : {A : Type 0} (words : A → List ℕ) (xs ys : List A) → each words (xs ++ ys) ≡ each words xs ++ each words ys
unfolding each
each_append words [] ys = refl
each_append words (x ∷ xs) ys =
    ap (λ (l : List ℕ). words x ++ l) (each_append words xs ys) ∙ sym (append_assoc (words x) (each words xs) (each words ys))

each_one : {A : Type 0} (words : A → List ℕ) (x : A) → each words (x ∷ []) ≡ words x
unfolding each
each_one words x = append-nil (words x)

pub each_none : {A : Type 0} (words : A → List ℕ) → each words [] ≡ []
unfolding each
each_none words = refl

-- the words of one more
pub each_more : {A : Type 0} (words : A → List ℕ) (xs : List A) (i : ℕ) (d : A) → i < length xs
    → each words (take (i + 1) xs) ≡ each words (take i xs) ++ words (get_or xs i d)
each_more {A} words xs i d h =
    rw (add-one i, take-suc {A = A} xs i d h)
    (each_append words (take i xs) (get_or xs i d ∷ []) ∙ ap (λ (l : List ℕ). each words (take i xs) ++ l) (each_one words (get_or xs i d)))
