-- Laws of the choice: a capped count serves as well, and the sizes by the first and the last run.
use Prim.Native.Nat.{ℕ, zero, suc, ◌+◌, ◌-◌, ◌*◌, ◌/◌, ◌%◌, ◌≤◌, ◌<◌, min}
use mathlib.Core.Path.{◌≡◌, refl, ap, sym, ◌∙◌}
use mathlib.Core.List.{List, [], ◌∷◌}
use mathlib.Core.Bool.{Bool, true, false, cond, ◌&&◌, and-false, true≢false}
use mathlib.Core.Logic.{◌⊎◌, inl, inr}
use lib.ListN.{length, get_or}
use lib.Dec.{leb, eqb}
use native.Mathlib.Omega.{arith}
use native.Mathlib.Decide.{dec_le}
use borrow.Author.Tests.{le-leb, lt-leb, leb-true, leb-false}
use Rattle.label.specs.declared.Run.{Run}
use Rattle.label.specs.Label.{no_run}
use Rattle.label.specs.Runs.{count_of, top_of}
use Rattle.option.specs.declared.Spellings.{Spellings}
use Rattle.label.proofs.Bools.{and_left, and_right}
use Rattle.option.specs.declared.Form.{Form}
use Rattle.option.specs.Permitted.{usual}
use Rattle.option.specs.Spelling.{least_form, form_for}
use Rattle.option.proofs.Choice.{form, Taken, take0, take1, take_ten, take2, take5, Before, Best, best}
use Rattle.option_form.specs.Stages.{capped}

-- the count so far is within the cap
pub capped_low : (n : ℕ) → n ≤ 15 → capped n ≡ n
capped_low n h = rw (le-leb n 15 h)

pub capped_over : (n : ℕ) → 15 < n → capped n ≡ 16
capped_over n h = rw (lt-leb n 15 h)

-- the least of it and 16
pub capped_is : (n : ℕ) → min n 16 ≡ capped n
capped_is n = elim (dec_le n 15) [ yes u ↦ omega (arith, capped_low n u) | no u ↦ omega (arith, capped_over n (omega arith)) ]

-- a size over 30 is never taken, whatever it is
over : (p : Spellings) (a b b' c : ℕ) → 30 < b → 30 < b' → least_form p a b c ≡ least_form p a b' c
unfolding least_form
over p a b b' c h h' = simp (lt-leb b 30 h, lt-leb b' 30 h', and-false)

pub least_capped : (p : Spellings) (a n c : ℕ) → least_form p a (2 * capped n) c ≡ least_form p a (2 * n) c
least_capped p a n c = elim (dec_le n 15) [ yes u ↦ ap (λ (k : ℕ). least_form p a (2 * k) c) (capped_low n u) | no u ↦ ap (λ (k : ℕ). least_form p a (2 * k) c) (capped_over n (omega arith)) ∙ over p a (2 * 16) (2 * n) c (omega arith) (omega arith) ]

-- Tags 1, 2 and 5 alone: the first test that passes decides.
not_one : (a b c : ℕ) → (leb a 30 && (leb a b && leb a c)) ≡ false → (30 < a) ⊎ ((b < a) ⊎ (c < a))
not_one a b c e = go (leb a 30) refl (leb a b) refl (leb a c) refl e
  where
    go : (x : Bool) → leb a 30 ≡ x → (y : Bool) → leb a b ≡ y → (z : Bool) → leb a c ≡ z → (x && (y && z)) ≡ false → (30 < a) ⊎ ((b < a) ⊎ (c < a))
    go false p y q z r e = inl (leb-false _ _ p)
    go true p false q z r e = inr (inl (leb-false _ _ q))
    go true p true q false r e = inr (inr (leb-false _ _ r))
    go true p true q true r e = absurd (true≢false e)

not_two : (b c : ℕ) → (leb b 30 && leb b c) ≡ false → (30 < b) ⊎ (c < b)
not_two b c e = go (leb b 30) refl (leb b c) refl e
  where
    go : (x : Bool) → leb b 30 ≡ x → (y : Bool) → leb b c ≡ y → (x && y) ≡ false → (30 < b) ⊎ (c < b)
    go false p y q e = inl (leb-false _ _ p)
    go true p false q e = inr (leb-false _ _ q)
    go true p true q e = absurd (true≢false e)

pub usual_one : (a b c : ℕ) → (leb a 30 && (leb a b && leb a c)) ≡ true → form 1 a ≡ least_form usual a b c
usual_one a b c e =
    let e1 = and_right (leb a 30) _ e in
    by (leb-true _ _ (and_left (leb a 30) _ e)) (leb-true _ _ (and_left (leb a b) _ e1)) (leb-true _ _ (and_right (leb a b) _ e1)) (least_form usual a b c) (best usual a b c)
  where
    by : a ≤ 30 → a ≤ b → a ≤ c → (f : Form) → Best usual a b c f → form 1 a ≡ f
    by h i j f q = go f q.taken (q.before1 refl h)
      where
        go : (f : Form) → Taken usual a b c f → Before f 1 a → form 1 a ≡ f
        go f (take1 x y) q = refl
        go f (take_ten x y) q = absurd (true≢false (sym x))
        go f (take2 x y) q = absurd (omega (arith, q.1 (omega (arith, q.0))))
        go f (take5 x y) q = absurd (omega (arith, q.1 (omega (arith, q.0))))
        go f take0 q = absurd (omega (arith, q.0))

pub usual_two : (a b c : ℕ) → (leb a 30 && (leb a b && leb a c)) ≡ false → (leb b 30 && leb b c) ≡ true → form 2 b ≡ least_form usual a b c
usual_two a b c n e = by (not_one a b c n) (leb-true _ _ (and_left (leb b 30) _ e)) (leb-true _ _ (and_right (leb b 30) _ e)) (least_form usual a b c) (best usual a b c)
  where
    one : a ≤ 30 → a ≤ b → b ≤ c → (30 < a) ⊎ ((b < a) ⊎ (c < a)) → ⊥
    one h i j (inl k) = omega arith
    one h i j (inr (inl k)) = omega arith
    one h i j (inr (inr k)) = omega arith

    by : (30 < a) ⊎ ((b < a) ⊎ (c < a)) → b ≤ 30 → b ≤ c → (f : Form) → Best usual a b c f → form 2 b ≡ f
    by n h j f q = go f q.taken (q.before2 refl h)
      where
        go : (f : Form) → Taken usual a b c f → Before f 2 b → form 2 b ≡ f
        go f (take1 x y) q = absurd (one y q.0 j n)
        go f (take_ten x y) q = absurd (true≢false (sym x))
        go f (take2 x y) q = refl
        go f (take5 x y) q = absurd (omega (arith, q.1 (omega (arith, q.0))))
        go f take0 q = absurd (omega (arith, q.0))

pub usual_five : (a b c : ℕ) → (leb a 30 && (leb a b && leb a c)) ≡ false → (leb b 30 && leb b c) ≡ false → leb c 28 ≡ true → form 5 c ≡ least_form usual a b c
usual_five a b c n m e = by (leb-true _ _ e) (least_form usual a b c) (best usual a b c)
  where
    one : a ≤ 30 → a ≤ c → (b ≤ 30 → a ≤ b) → (30 < a) ⊎ ((b < a) ⊎ (c < a)) → ⊥
    one h i g (inl k) = omega arith
    one h i g (inr (inl k)) = omega (arith, g (omega arith))
    one h i g (inr (inr k)) = omega arith

    two : b ≤ 30 → b ≤ c → (30 < b) ⊎ (c < b) → ⊥
    two h i (inl k) = omega arith
    two h i (inr k) = omega arith

    by : c ≤ 28 → (f : Form) → Best usual a b c f → form 5 c ≡ f
    by h f q = go f q.taken (q.before5 refl h) (λ g. (q.before2 refl g).0)
      where
        go : (f : Form) → Taken usual a b c f → Before f 5 c → (b ≤ 30 → f.size ≤ b) → form 5 c ≡ f
        go f (take1 x y) q g = absurd (one y q.0 g (not_one a b c n))
        go f (take_ten x y) q g = absurd (true≢false (sym x))
        go f (take2 x y) q g = absurd (two y q.0 (not_two b c m))
        go f (take5 x y) q g = refl
        go f take0 q g = absurd (omega (arith, q.0))

pub usual_none : (a b c : ℕ) → c % 2 ≡ 0 → (leb a 30 && (leb a b && leb a c)) ≡ false → (leb b 30 && leb b c) ≡ false → leb c 28 ≡ false → form 0 31 ≡ least_form usual a b c
usual_none a b c even n m e = by (leb-false _ _ e) (least_form usual a b c) (best usual a b c)
  where
    one : a ≤ 30 → 28 < c → (b ≤ 30 → a ≤ b) → (30 < a) ⊎ ((b < a) ⊎ (c < a)) → ⊥
    one h i g (inl k) = omega arith
    one h i g (inr (inl k)) = omega (arith, g (omega arith))
    one h i g (inr (inr k)) = omega (arith, even)

    two : b ≤ 30 → 28 < c → (30 < b) ⊎ (c < b) → ⊥
    two h i (inl k) = omega arith
    two h i (inr k) = omega (arith, even)

    by : 28 < c → (f : Form) → Best usual a b c f → form 0 31 ≡ f
    by h f q = go f q.taken (λ g. (q.before2 refl g).0)
      where
        go : (f : Form) → Taken usual a b c f → (b ≤ 30 → f.size ≤ b) → form 0 31 ≡ f
        go f (take1 x y) g = absurd (one y h g (not_one a b c n))
        go f (take_ten x y) g = absurd (true≢false (sym x))
        go f (take2 x y) g = absurd (two y h (not_two b c m))
        go f (take5 x y) g = absurd (omega arith)
        go f take0 g = refl

top_last : (rs : List Run) (k : ℕ) → length rs ≡ suc k → top_of rs ≡ (get_or rs k no_run).high + 1
top_last [] k e = absurd (omega arith)
top_last (r ∷ []) zero e = refl
top_last (r ∷ []) (suc k) e = absurd (omega arith)
top_last (r ∷ s ∷ rs) zero e = absurd (omega arith)
top_last (r ∷ s ∷ rs) (suc k) e = top_last (s ∷ rs) k (omega arith)

pub choice_none : (p : Spellings) (rs : List Run) → length rs ≡ 0 → least_form p 0 0 0 ≡ form_for p rs
unfolding form_for
choice_none p [] e = refl
choice_none p (r ∷ rs) e = absurd (omega arith)

pub choice_some : (p : Spellings) (rs : List Run) (n : ℕ) → n ≡ length rs → 0 < n
    → least_form p (((get_or rs (n - 1) no_run).high + 1 + 7) / 8) (2 * capped (count_of rs)) (4 * n - cond (eqb (get_or rs 0 no_run).low 0) 2 0) ≡ form_for p rs
unfolding form_for
choice_some p [] n e h = absurd (omega arith)
choice_some p (r ∷ rs) n e h =
    let t : (get_or (r ∷ rs) (n - 1) no_run).high + 1 ≡ top_of (r ∷ rs) = sym (top_last (r ∷ rs) (n - 1) (omega arith)) in
    least_capped p _ (count_of (r ∷ rs)) _ ∙ (λ i. least_form p ((t i + 7) / 8) (2 * count_of (r ∷ rs)) (4 * e i - cond (eqb r.low 0) 2 0))
