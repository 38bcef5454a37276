-- Document 02, wish 11, "Renumbering keeps order": what the auditors ask, and what is proved of joining.
use Rattle.std.specs.Prelude.{true, List, ◌≡◌, ℕ}
use Rattle.label.specs.declared.Label.{Label}
use Rattle.label.specs.Label.{well_formed, leq}
use Rattle.table.specs.Table.{Lent}
use Rattle.renumber.specs.Renumber as far
use Rattle.renumber.specs.Theorems.{Join, KeepsOrder}
use Rattle.renumber_join.specs.Join.{joined_as, joined_of}

-- the label that joining gives has the higher level and all categories of either, it is the only one, and it is given wherever there is one
pub record Joining : Type 0 where
  pub right : (a b j : Label) → joined_of a b ≡ joined_as j → Join a b j
  pub only : (a b j k : Label) → Join a b j → Join a b k → j ≡ k
  pub found : (a b j : Label) → well_formed a ≡ true → well_formed b ≡ true → Join a b j → joined_of a b ≡ joined_as j

-- the join is the least label that neither is above
pub record LeastAbove : Type 0 where
  pub first : (a b j : Label) → joined_of a b ≡ joined_as j → leq a j ≡ true
  pub second : (a b j : Label) → joined_of a b ≡ joined_as j → leq b j ≡ true
  pub least : (a b j k : Label) → joined_of a b ≡ joined_as j → leq a k ≡ true → leq b k ≡ true → leq j k ≡ true

-- "renumbering can raise or lower" no one. That both are possible and that every label has at most 120 runs is supposed by naming the labels: m and n
-- are a and b renumbered, j is a and b joined; first k is j renumbered, then k is m and n joined
pub record Keeping : Type 0 where
  pub order : KeepsOrder
  pub joined_first : (a b j : Label) (t : Lent) (ls : List (List ℕ)) (m n k : Label)
      → far.renumbered_of a t ls ≡ far.renumbered_as m
      → far.renumbered_of b t ls ≡ far.renumbered_as n
      → joined_of a b ≡ joined_as j
      → far.renumbered_of j t ls ≡ far.renumbered_as k
      → joined_of m n ≡ joined_as k
  pub renumbered_first : (a b j : Label) (t : Lent) (ls : List (List ℕ)) (m n k : Label)
      → far.renumbered_of a t ls ≡ far.renumbered_as m
      → far.renumbered_of b t ls ≡ far.renumbered_as n
      → joined_of a b ≡ joined_as j
      → joined_of m n ≡ joined_as k
      → far.renumbered_of j t ls ≡ far.renumbered_as k
