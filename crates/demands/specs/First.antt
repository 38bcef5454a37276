-- "The first refusal that applies": the first of a list of which a test says yes.
use Rattle.std.specs.Prelude.{◌≡◌, Bool, true, false, List, [], ◌∷◌, ◌++◌}

abbrev pub NoneOf : {A : Type 0} → (A → Bool) → List A → Type 0
NoneOf test [] = Unit {0}
NoneOf test (x ∷ xs) = (test x ≡ false) × NoneOf test xs

pub record FirstOf {A : Type 0} (test : A → Bool) (xs : List A) (x : A) : Type 0 where
  pub before : List A
  pub after : List A
  pub order : xs ≡ before ++ (x ∷ after)
  pub passed : NoneOf test before
  pub applies : test x ≡ true
