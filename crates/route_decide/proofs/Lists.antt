-- Laws of a list of checks: one that does not apply is left out, and what stands behind one that applies.
use mathlib.Core.Path.{◌≡◌, refl, sym, ◌∙◌, ap}
use mathlib.Core.Bool.{Bool}
use mathlib.Core.List.{List, [], ◌∷◌, ◌++◌}
use mathlib.Core.Option.{Option, none, some}
use Prim.Native.Nat.{ℕ}
use Rattle.label.specs.declared.Label.{Label}
use Rattle.decision.specs.declared.Refusal.{Refusal}
use Rattle.decision.specs.Decision.{decided}
use Rattle.arrive.specs.Checks.{first_of}
use Rattle.forward_rules.specs.Forward.{written}

pub skip : (xs ys : List (Option Refusal)) → first_of (xs ++ (none ∷ ys)) ≡ first_of (xs ++ ys)
skip [] ys = refl
skip (some x ∷ xs) ys = refl
skip (none ∷ xs) ys = skip xs ys

pub cut : (xs : List (Option Refusal)) (x : Refusal) (ys : List (Option Refusal)) → first_of (xs ++ (some x ∷ ys)) ≡ first_of (xs ++ (some x ∷ []))
cut [] x ys = refl
cut (some z ∷ xs) x ys = refl
cut (none ∷ xs) x ys = cut xs x ys

applies : (xs : List (Option Refusal)) (x : Refusal) → (y : Refusal) × (first_of (xs ++ (some x ∷ [])) ≡ some y)
applies [] x = (x, refl)
applies (some z ∷ xs) x = (z, refl)
applies (none ∷ xs) x = applies xs x

-- where one applies, neither label nor count matters, and nothing is written
module _ (o : Option Refusal) (xs : List (Option Refusal)) (x : Refusal) (e : o ≡ first_of (xs ++ (some x ∷ []))) where
  pub refuses : (quiet : Bool) (l l' : Label) (n n' : ℕ) → decided quiet o l n ≡ decided quiet (first_of (xs ++ (some x ∷ []))) l' n'
  refuses quiet l l' n n' =
      let a = applies xs x in
      ap (λ (p : Option Refusal). decided quiet p l n) (e ∙ a.1) ∙ ap (λ (p : Option Refusal). decided quiet p l' n') (sym a.1)

  pub writes_nothing : (option kept out : List ℕ) → written o option kept out ≡ out
  writes_nothing option kept out = ap (λ (p : Option Refusal). written p option kept out) (e ∙ (applies xs x).1)
