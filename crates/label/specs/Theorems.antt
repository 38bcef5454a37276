-- Document 01, "Labels": what is proved of these definitions, for every label.
use Rattle.std.specs.Prelude.{Bool, true, false, List, [], ◌∷◌, ◌≡◌, ℕ, ◌+◌, ◌≤◌, length}
use Rattle.label.specs.declared.Run.{Run}
use Rattle.label.specs.declared.Label.{Label}
use Rattle.label.specs.Runs.{run, spaced, subset, passes, rounds}
use Rattle.label.specs.Label.{label_of, well_formed, member, at_most, leq, compared}

-- "Thus one set has one form": well-formed labels of one domain and level with the same members are one label
abbrev pub OneForm : Type 0
OneForm =
    (a b : Label)
    → well_formed a ≡ true
    → well_formed b ≡ true
    → a.domain ≡ b.domain
    → a.level ≡ b.level
    → ((c : ℕ) → member a c ≡ member b c)
    → a ≡ b

-- "A ≤ B when the domains are equal, the level of A is at most that of B, and A's categories are all in B"
pub record AtMost (a b : Label) : Type 0 where
  pub first : well_formed a ≡ true
  pub second : well_formed b ≡ true
  pub domain : a.domain ≡ b.domain
  pub level : a.level ≤ b.level
  pub categories : (c : ℕ) → member a c ≡ true → member b c ≡ true

pub record Comparing : Type 0 where
  pub says : (a b : Label) → leq a b ≡ true → AtMost a b
  pub said : (a b : Label) → AtMost a b → leq a b ≡ true

-- comparing is one pass over both lists of runs: of spaced lists it tells whether the first lies in the second, of well-formed labels whether A ≤ B,
-- and it takes at most as many turns as both have runs together
pub record OnePass : Type 0 where
  pub categories : (xs ys : List Run) → spaced 0 xs ≡ true → spaced 0 ys ≡ true → passes xs ys ≡ subset xs ys
  pub labels : (a b : Label) → well_formed a ≡ true → well_formed b ≡ true → compared a b ≡ at_most a b
  pub turns : (xs ys : List Run) → rounds xs ys ≤ length xs + length ys

-- ≤ is a partial order on well-formed labels
pub record PartialOrder : Type 0 where
  pub reflexive : (a : Label) → well_formed a ≡ true → leq a a ≡ true
  pub antisymmetric : (a b : Label) → leq a b ≡ true → leq b a ≡ true → a ≡ b
  pub transitive : (a b c : Label) → leq a b ≡ true → leq b c ≡ true → leq a c ≡ true

-- the table of examples ("Two labels may be incomparable"): pairs of labels of domain 5, and whether the first is at most the second and the second at most the first
pub record Example : Type 0 where
  pub first : Label
  pub second : Label
  pub below : Bool
  pub above : Bool

abbrev pub examples : List Example
examples =
    record { first = label_of 5 1 []; second = label_of 5 1 []; below = true; above = true }
    ∷ record { first = label_of 5 1 []; second = label_of 5 3 []; below = true; above = false }
    ∷ record { first = label_of 5 1 (run 0 3 ∷ []); second = label_of 5 1 (run 0 7 ∷ []); below = true; above = false }
    ∷ record { first = label_of 5 3 (run 2 2 ∷ []); second = label_of 5 1 (run 2 2 ∷ []); below = false; above = true }
    -- incomparable: a higher level and fewer categories; categories of which neither has all
    ∷ record { first = label_of 5 3 []; second = label_of 5 1 (run 2 2 ∷ []); below = false; above = false }
    ∷ record { first = label_of 5 1 (run 0 3 ∷ []); second = label_of 5 1 (run 2 5 ∷ []); below = false; above = false }
    -- another domain, and domain 0
    ∷ record { first = label_of 5 1 []; second = label_of 6 1 []; below = false; above = false }
    ∷ record { first = label_of 0 0 []; second = label_of 0 0 []; below = false; above = false }
    ∷ []

abbrev pub Holds : List Example → Type 0
Holds [] = Unit {0}
Holds (e ∷ es) = (leq e.first e.second ≡ e.below) × (leq e.second e.first ≡ e.above) × Holds es
