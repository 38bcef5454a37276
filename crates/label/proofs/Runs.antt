-- Laws of lists of runs: what a spaced list covers, one form for one set, and when one list lies in another.
use mathlib.Core.Path.{◌≡◌, refl, sym, ◌∙◌, ap}
use mathlib.Core.Bool.{Bool, true, false, ◌||◌, and-false, or_assoc}
use mathlib.Core.List.{List, [], ◌∷◌, ◌++◌}
use mathlib.Core.Logic.{◌⊎◌, inl, inr, ⊎_elim}
use Prim.Native.Nat.{ℕ, ◌+◌, ◌-◌, ◌≤◌, ◌<◌}
use native.Mathlib.Omega.{arith}
use lib.Dec.{leb}
use borrow.Author.Tests.{leb-true, le-leb, lt-leb}
use Rattle.std.specs.List.{list_any}
use Rattle.label.specs.declared.Run.{Run}
use Rattle.label.specs.Runs.{in_run, covers, spaced, all_below, subset}
use Rattle.label.proofs.Form.{Canon, unique}
use Rattle.label.proofs.Bools.{never, same_yes, and_left, and_right, and_both, or_cases, or_true_right, less_or, all_below_lem, below_all}

-- What a spaced list says of its first run.
pub record First (f : ℕ) (r : Run) (rs : List Run) : Type 0 where
  pub from : f ≤ r.low
  pub ordered : r.low ≤ r.high
  pub top : r.high ≤ 65534
  pub rest : spaced (r.high + 2) rs ≡ true

pub first : (f : ℕ) (r : Run) (rs : List Run) → spaced f (r ∷ rs) ≡ true → First f r rs
first f r rs e =
    let e1 = and_right (leb f r.low) _ e in
    let e2 = and_right (leb r.low r.high) _ e1 in
    record {
      from = leb-true _ _ (and_left (leb f r.low) _ e);
      ordered = leb-true _ _ (and_left (leb r.low r.high) _ e1);
      top = leb-true _ _ (and_left (leb r.high 65534) _ e2);
      rest = and_right (leb r.high 65534) _ e2;
    }

-- A lower floor will do.
pub lower : (f g : ℕ) (rs : List Run) → g ≤ f → spaced f rs ≡ true → spaced g rs ≡ true
lower f g [] h e = refl
lower f g (r ∷ rs) h e =
    let s = first f r rs e in
    simp (le-leb g r.low (omega arith), le-leb r.low r.high s.ordered, le-leb r.high 65534 s.top) s.rest

-- Membership in a list, by its first run.

pub covers_in : (r : Run) (rs : List Run) (c : ℕ) → r.low ≤ c → c ≤ r.high → covers (r ∷ rs) c ≡ true
covers_in r rs c h k = simp (le-leb r.low c h, le-leb c r.high k)

pub covers_under : (r : Run) (rs : List Run) (c : ℕ) → c < r.low → covers (r ∷ rs) c ≡ covers rs c
covers_under r rs c h = simp (lt-leb r.low c h)

pub covers_over : (r : Run) (rs : List Run) (c : ℕ) → r.high < c → covers (r ∷ rs) c ≡ covers rs c
covers_over r rs c h = simp (lt-leb c r.high h, and-false)

-- Where a category of a list is: in the first run, or in the rest.
pub covers_cases : (r : Run) (rs : List Run) (c : ℕ) → covers (r ∷ rs) c ≡ true → ((r.low ≤ c) × (c ≤ r.high)) ⊎ (covers rs c ≡ true)
covers_cases r rs c e = go (in_run r c) refl e
  where
    go : (b : Bool) → in_run r c ≡ b → (b || covers rs c) ≡ true → ((r.low ≤ c) × (c ≤ r.high)) ⊎ (covers rs c ≡ true)
    go true p q = inl (leb-true _ _ (and_left (leb r.low c) _ p), leb-true _ _ (and_right (leb r.low c) _ p))
    go false p q = inr q

pub covers_below : (f : ℕ) (rs : List Run) (c : ℕ) → spaced f rs ≡ true → c < f → covers rs c ≡ false
covers_below f [] c e h = refl
covers_below f (r ∷ rs) c e h =
    let s = first f r rs e in
    covers_under r rs c (omega arith) ∙ covers_below (r.high + 2) rs c s.rest (omega arith)

pub covers_top : (f : ℕ) (rs : List Run) (c : ℕ) → spaced f rs ≡ true → covers rs c ≡ true → c ≤ 65534
covers_top f [] c e h = absurd (never (sym h))
covers_top f (r ∷ rs) c e h =
    let s = first f r rs e in
    ⊎_elim (λ w. omega arith) (λ w. covers_top (r.high + 2) rs c s.rest w) (covers_cases r rs c h)

-- One list in another.

abbrev pub Sub : List Run → List Run → Type 0
Sub xs ys = (c : ℕ) → covers xs c ≡ true → covers ys c ≡ true

pub sub_nil : (ys : List Run) → Sub [] ys
sub_nil ys c e = absurd (never (sym e))

pub sub_none : (f : ℕ) (r : Run) (xs : List Run) → spaced f (r ∷ xs) ≡ true → Sub (r ∷ xs) [] → ⊥
sub_none f r xs e s =
    let p = first f r xs e in
    never (sym (s r.low (covers_in r xs r.low (omega arith) p.ordered)))

-- The first run begins below every run of the second list.
pub sub_before : (f g : ℕ) (r : Run) (xs : List Run) (s : Run) (ys : List Run) → spaced f (r ∷ xs) ≡ true → spaced g (s ∷ ys) ≡ true
    → r.low < s.low → Sub (r ∷ xs) (s ∷ ys) → ⊥
sub_before f g r xs s ys d e h k =
    let p = first f r xs d in
    let q = first g s ys e in
    never (sym (k r.low (covers_in r xs r.low (omega arith) p.ordered)) ∙ covers_under s ys r.low h ∙ covers_below (s.high + 2) ys r.low q.rest (omega arith))

-- The first run goes on past the run of the second list that covers its start: the next category is in the gap.
pub sub_past : (f g : ℕ) (r : Run) (xs : List Run) (s : Run) (ys : List Run) → spaced f (r ∷ xs) ≡ true → spaced g (s ∷ ys) ≡ true
    → r.low ≤ s.high → s.high < r.high → Sub (r ∷ xs) (s ∷ ys) → ⊥
sub_past f g r xs s ys d e h l k =
    let q = first g s ys e in
    let n : ℕ = s.high + 1 in
    never (sym (k n (covers_in r xs n (omega arith) (omega arith))) ∙ covers_over s ys n (omega arith) ∙ covers_below (s.high + 2) ys n q.rest (omega arith))

-- A run of the second list that ends before the first run begins does not matter.
pub skip : (f : ℕ) (r : Run) (xs : List Run) (s : Run) (ys : List Run) → spaced f (r ∷ xs) ≡ true → s.high < r.low
    → Sub (r ∷ xs) (s ∷ ys) → Sub (r ∷ xs) ys
skip f r xs s ys d h k c e =
    ⊎_elim
    (λ w. absurd (never (sym e ∙ covers_below r.low (r ∷ xs) c (raise f r xs d) (omega arith))))
    (λ w. sym (covers_over s ys c (omega arith)) ∙ k c e)
    (less_or c r.low)
  where
    raise : (f : ℕ) (r : Run) (xs : List Run) → spaced f (r ∷ xs) ≡ true → spaced r.low (r ∷ xs) ≡ true
    raise f r xs d =
        let p = first f r xs d in
        simp (le-leb r.low r.low (omega arith), le-leb r.low r.high p.ordered, le-leb r.high 65534 p.top) p.rest

pub more : (s : Run) (xs ys : List Run) → Sub xs ys → Sub xs (s ∷ ys)
more s xs ys k c e = or_true_right (in_run s c) (k c e)

pub fewer : (r : Run) (xs ys : List Run) → Sub (r ∷ xs) ys → Sub xs ys
fewer r xs ys k c e = k c (or_true_right (in_run r c) e)

-- A run within a run of the second list is covered.
pub inside : (r : Run) (xs : List Run) (s : Run) (ys : List Run) → s.low ≤ r.low → r.high ≤ s.high → Sub xs (s ∷ ys) → Sub (r ∷ xs) (s ∷ ys)
inside r xs s ys h l k c e =
    ⊎_elim (λ w. covers_in s ys c (omega arith) (omega arith)) (λ w. k c w) (covers_cases r xs c e)

pub spaced_canon : (f : ℕ) (rs : List Run) → spaced f rs ≡ true → Canon f rs
spaced_canon f [] e = tt
spaced_canon f (r ∷ rs) e = let s = first f r rs e in (s.from, s.ordered, spaced_canon (r.high + 2) rs s.rest)

-- One set has one form: two spaced lists that cover the same categories are equal.
pub one_form : (f g : ℕ) (xs ys : List Run) → spaced f xs ≡ true → spaced g ys ≡ true → Sub xs ys → Sub ys xs → xs ≡ ys
one_form f g xs ys d e h k =
    unique f g xs ys (spaced_canon f xs d) (spaced_canon g ys e) (λ c. same_yes (covers xs c) (covers ys c) (h c) (k c))

pub subset_sub : (xs ys : List Run) → subset xs ys ≡ true → Sub xs ys
unfolding subset
subset_sub [] ys e c h = absurd (never (sym h))
subset_sub (r ∷ rs) ys e c h =
    ⊎_elim at (subset_sub rs ys (and_right (all_below (r.high + 1 - r.low) (λ k. covers ys (r.low + k))) _ e) c) (or_cases (in_run r c) (covers rs c) h)
  where
    at : in_run r c ≡ true → covers ys c ≡ true
    at w =
        let a : r.low ≤ c = leb-true _ _ (and_left (leb r.low c) _ w) in
        let b : c ≤ r.high = leb-true _ _ (and_right (leb r.low c) _ w) in
        let m : r.low + (c - r.low) ≡ c = omega arith in
        ap (covers ys) (sym m)
        ∙ all_below_lem (r.high + 1 - r.low) (λ k. covers ys (r.low + k)) (and_left (all_below (r.high + 1 - r.low) (λ k. covers ys (r.low + k))) _ e) (c - r.low) (omega arith)

pub sub_subset : (xs ys : List Run) → Sub xs ys → subset xs ys ≡ true
unfolding subset
sub_subset [] ys h = refl
sub_subset (r ∷ rs) ys h =
    and_both
    (below_all (r.high + 1 - r.low) (λ k. covers ys (r.low + k))
    (λ k l. h (r.low + k) (rw (le-leb r.low (r.low + k) (omega arith), le-leb (r.low + k) r.high (omega arith)))))
    (sub_subset rs ys (λ c e. h c (or_true_right (in_run r c) e)))

-- One list after another.

pub covers_append : (xs ys : List Run) (c : ℕ) → covers (xs ++ ys) c ≡ (covers xs c || covers ys c)
covers_append [] ys c = refl
covers_append (r ∷ xs) ys c = rw (covers_append xs ys c) (sym (or_assoc (in_run r c) (covers xs c) (covers ys c)))

-- some run of the list covers the category
pub covers_any : (rs : List Run) (c : ℕ) → covers rs c ≡ list_any (λ r. in_run r c) rs
covers_any [] c = refl
covers_any (r ∷ rs) c = rw (covers_any rs c)
