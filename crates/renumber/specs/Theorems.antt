-- Document 01, "Labels" and "Records": what is proved of renumbering, over membership.
use Rattle.std.specs.Prelude.{true, cond, ◌||◌, List, ◌≡◌, ℕ, max, take, Some, Err}
use Rattle.label.specs.declared.Label.{Label}
use Rattle.label.specs.Label.{well_formed, member, leq, in_range}
use Rattle.table.specs.Table.{Lent, used_rows, table_sound}
use Rattle.table_levels.specs.Levels.{partner_of}
use Rattle.table.specs.Numbers.{has_number, sends}
use Rattle.renumber.specs.Renumber.{renumbered_as, renumbered_of, carried_of}

-- m is the label l in the far domain: well formed, of that domain, at the partner of its level, every category of l has a number, and a
-- category is in m exactly when it is the number of a category of l
pub record Far (l : Label) (t : Lent) (ls : List (List ℕ)) (m : Label) : Type 0 where
  pub formed : well_formed m ≡ true
  pub domain : m.domain ≡ t.to
  pub level : partner_of (take t.pairs ls) l.level ≡ Some m.level
  pub whole : (c : ℕ) → member l c ≡ true → has_number (used_rows t) c ≡ true
  pub to : (c d : ℕ) → member l c ≡ true → sends (used_rows t) c d ≡ true → member m d ≡ true
  pub from : (d : ℕ) → member m d ≡ true → (c : ℕ) × (member l c ≡ true) × (sends (used_rows t) c d ≡ true)

-- renumbering gives that label, it is the only one, and it is given wherever there is one: nothing is cut and nothing refused without need
pub record Renumbering : Type 0 where
  pub right : (l : Label) (t : Lent) (ls : List (List ℕ)) (m : Label) → renumbered_of l t ls ≡ renumbered_as m → Far l t ls m
  pub only : (l : Label) (t : Lent) (ls : List (List ℕ)) (m n : Label) → Far l t ls m → Far l t ls n → m ≡ n
  pub found : (l : Label) (t : Lent) (ls : List (List ℕ)) (m : Label)
      → table_sound t ls ≡ true
      → well_formed l ≡ true
      → l.domain ≡ t.from
      → Far l t ls m
      → renumbered_of l t ls ≡ renumbered_as m

-- where the set fits a label, forward's renumbering is renumbering, and then the test of the range
abbrev pub Agrees : Type 0
Agrees =
    (l : Label) (t : Lent) (ls : List (List ℕ)) (lowest highest m : Label)
    → well_formed lowest ≡ true
    → well_formed highest ≡ true
    → lowest.domain ≡ t.to
    → highest.domain ≡ t.to
    → renumbered_of l t ls ≡ renumbered_as m
    → carried_of l t ls lowest highest ≡ cond (in_range lowest highest m) (renumbered_as m) (Err 17)

-- what forward's renumbering gives is the label in the far domain, and lies in the range
pub record Carried (l : Label) (t : Lent) (ls : List (List ℕ)) (lowest highest m : Label) : Type 0 where
  pub far : Far l t ls m
  pub held : in_range lowest highest m ≡ true

abbrev pub Carrying : Type 0
Carrying =
    (l : Label) (t : Lent) (ls : List (List ℕ)) (lowest highest m : Label)
    → well_formed l ≡ true
    → table_sound t ls ≡ true
    → l.domain ≡ t.from
    → well_formed lowest ≡ true
    → well_formed highest ≡ true
    → lowest.domain ≡ t.to
    → highest.domain ≡ t.to
    → carried_of l t ls lowest highest ≡ renumbered_as m
    → Carried l t ls lowest highest m

-- one label is at most another before exactly when it is after
abbrev pub KeepsOrder : Type 0
KeepsOrder =
    (a b : Label) (t : Lent) (ls : List (List ℕ)) (m n : Label)
    → renumbered_of a t ls ≡ renumbered_as m
    → renumbered_of b t ls ≡ renumbered_as n
    → leq a b ≡ leq m n

-- j has the higher level and all categories of either
pub record Join (a b j : Label) : Type 0 where
  pub formed : well_formed j ≡ true
  pub domain : j.domain ≡ a.domain
  pub same : b.domain ≡ a.domain
  pub level : j.level ≡ max a.level b.level
  pub categories : (c : ℕ) → member j c ≡ (member a c || member b c)

-- joining and renumbering gives the same as renumbering and joining
abbrev pub KeepsJoins : Type 0
KeepsJoins =
    (a b j : Label) (t : Lent) (ls : List (List ℕ)) (m n k : Label)
    → Join a b j
    → renumbered_of a t ls ≡ renumbered_as m
    → renumbered_of b t ls ≡ renumbered_as n
    → renumbered_of j t ls ≡ renumbered_as k
    → Join m n k
