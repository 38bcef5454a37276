-- Laws of a list of checks of which the first that applies decides.
use mathlib.Core.Path.{◌≡◌, refl, sym, ◌∙◌, ap}
use mathlib.Core.Bool.{Bool, true, false, cond, not, true≢false}
use mathlib.Core.List.{List, [], ◌∷◌, ◌++◌}
use mathlib.Core.Option.{Option, none, some}
use Prim.Native.Nat.{ℕ, ◌≤◌}
use native.Mathlib.Omega.{arith}
use lib.Dec.{eqb}
use borrow.Author.Tests.{ne_eqb}
use Rattle.std.specs.Prelude.{Ok, Err, IfOk}
use Rattle.decision.specs.declared.Passed.{Passed}
use Rattle.decision.specs.declared.Refusal.{Refusal}
use Rattle.arrive.specs.Checks.{barred, when, first_of, NoneApplies}
use Rattle.decision.specs.Verdict.{Verdict, verdict_of}
use Rattle.arrive.specs.Stages.{instead_of, before_range}

abbrev pub or_else : Option Refusal → Option Refusal → Option Refusal
or_else (some r) o = some r
or_else none o = o

pub first_append : (xs ys : List (Option Refusal)) → first_of (xs ++ ys) ≡ or_else (first_of xs) (first_of ys)
first_append [] ys = refl
first_append (some r ∷ xs) ys = refl
first_append (none ∷ xs) ys = first_append xs ys

pub first_one : (o : Option Refusal) → first_of (o ∷ []) ≡ o
first_one none = refl
first_one (some r) = refl

-- A refusal's number is not 0.
abbrev pub Real : Option Refusal → Type 0
Real none = Unit {0}
Real (some r) = r.number ≡ 0 → ⊥

abbrev pub AllReal : List (Option Refusal) → Type 0
AllReal [] = Unit {0}
AllReal (c ∷ cs) = Real c × AllReal cs

pub real_first : (cs : List (Option Refusal)) → AllReal cs → Real (first_of cs)
real_first [] a = tt
real_first (some r ∷ cs) a = a.0
real_first (none ∷ cs) a = real_first cs a.1

pub real_when : (b : Bool) (r : Refusal) → (r.number ≡ 0 → ⊥) → Real (when b r)
real_when true r h = h
real_when false r h = tt

-- A refusal's number is 3 or above.
abbrev pub Late : Option Refusal → Type 0
Late none = Unit {0}
Late (some r) = 3 ≤ r.number

abbrev pub AllLate : List (Option Refusal) → Type 0
AllLate [] = Unit {0}
AllLate (c ∷ cs) = Late c × AllLate cs

pub late_first : (cs : List (Option Refusal)) → AllLate cs → Late (first_of cs)
late_first [] a = tt
late_first (some r ∷ cs) a = a.0
late_first (none ∷ cs) a = late_first cs a.1

pub late_when : (b : Bool) (r : Refusal) → 3 ≤ r.number → Late (when b r)
late_when true r h = h
late_when false r h = tt

pub late_real : (o : Option Refusal) → Late o → Real o
late_real none h = tt
late_real (some r) h = λ z. omega arith

-- A refusal's number is not 14: it comes before the range.
abbrev pub Early : Option Refusal → Type 0
Early none = Unit {0}
Early (some r) = r.number ≡ 14 → ⊥

abbrev pub AllEarly : List (Option Refusal) → Type 0
AllEarly [] = Unit {0}
AllEarly (c ∷ cs) = Early c × AllEarly cs

pub early_first : (cs : List (Option Refusal)) → AllEarly cs → Early (first_of cs)
early_first [] a = tt
early_first (some r ∷ cs) a = a.0
early_first (none ∷ cs) a = early_first cs a.1

pub early_when : (b : Bool) (r : Refusal) → (r.number ≡ 14 → ⊥) → Early (when b r)
early_when true r h = h
early_when false r h = tt

-- Checks that are asked after those before the range and come before it: the verdict of the others, unless one of these comes before it.
pub between : (xs ys : List (Option Refusal)) (b : Bool) (code v n : ℕ) → Early (first_of xs)
    → before_range (verdict_of (first_of (xs ++ (when b (barred 14 code) ∷ []))) v n) (first_of ys)
    ≡ verdict_of (first_of (xs ++ (ys ++ (when b (barred 14 code) ∷ [])))) v n
between xs ys b code v n h =
    (λ i. before_range (verdict_of (first_append xs (when b (barred 14 code) ∷ []) i) v n) (first_of ys))
    ∙ go (first_of xs) (first_of ys) b h
    ∙ sym (ap (λ (o : Option Refusal). verdict_of (or_else (first_of xs) o) v n) (first_append ys (when b (barred 14 code) ∷ [])))
    ∙ sym (ap (λ (o : Option Refusal). verdict_of o v n) (first_append xs (ys ++ (when b (barred 14 code) ∷ []))))
  where
    go : (x y : Option Refusal) (b : Bool) → Early x
        → before_range (verdict_of (or_else x (first_of (when b (barred 14 code) ∷ []))) v n) y
        ≡ verdict_of (or_else x (or_else y (first_of (when b (barred 14 code) ∷ [])))) v n
    go (some x) y b e = rw (ne_eqb x.number 14 e)
    go none none true e = refl
    go none none false e = refl
    go none (some y) true e = refl
    go none (some y) false e = refl

-- what is left as it was, where nothing applies
pub before_none : (r : Verdict) → before_range r none ≡ r
before_none (Ok p) = refl
before_none (Err r) = go (eqb r.number 14)
  where
    go : (b : Bool) → cond b (instead_of (Err r) none) (Err r) ≡ Err r
    go true = refl
    go false = refl

-- what has passed these has passed the others
pub before_ok : (r : Verdict) (o : Option Refusal) (P : Passed → Type 0) → IfOk r P → IfOk (before_range r o) P
before_ok (Ok p) none P h = h
before_ok (Ok p) (some x) P h = tt
before_ok (Err r) o P h = go (eqb r.number 14) o
  where
    go : (b : Bool) (o : Option Refusal) → IfOk (cond b (instead_of (Err r) o) (Err r)) P
    go true none = tt
    go true (some x) = tt
    go false o = tt

-- Where no check applies, none of them does.
pub first_none : (cs : List (Option Refusal)) → first_of cs ≡ none → NoneApplies cs
first_none [] e = tt
first_none (some r ∷ cs) e = let z : ◌≡◌ {A = ℕ} 0 1 = cc in absurd (omega arith)
first_none (none ∷ cs) e = (refl, first_none cs e)

pub none_first : (cs : List (Option Refusal)) → NoneApplies cs → first_of cs ≡ none
none_first [] a = refl
none_first (c ∷ cs) a = rw a.0 (none_first cs a.1)

pub when_none : (b : Bool) (r : Refusal) → when b r ≡ none → b ≡ false
when_none true r e = let z : ◌≡◌ {A = ℕ} 0 1 = cc in absurd (omega arith)
when_none false r e = refl

-- tests that do not pass
pub not_false_yes : (b : Bool) → not b ≡ false → b ≡ true
not_false_yes true e = refl
not_false_yes false e = absurd (true≢false e)

pub real_else : (a b : Option Refusal) → Real a → Real b → Real (or_else a b)
real_else none b r q = q
real_else (some x) b r q = r

pub late_else : (a b : Option Refusal) → Late a → Late b → Late (or_else a b)
late_else none b r q = q
late_else (some x) b r q = r
