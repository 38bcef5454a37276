-- What "the longest matching prefix decides" means, whatever the order of the routes.
use Rattle.std.specs.Prelude.{None, Some, true, false, List, [], ◌∷◌, ◌⊎◌, ◌≡◌, ℕ, ◌≤◌}
use Rattle.route.specs.declared.Route.{Route}
use Rattle.route.specs.Route.{routes_of, matches, longest, routes_sound}

-- the route is one of the list
abbrev pub Listed : Route → List Route → Type 0
Listed r [] = ⊥
Listed r (s ∷ ss) = (r ≡ s) ⊎ Listed r ss

-- the route is one of the list and matches, and none that matches is longer
pub record Decides (address : ℕ) (rs : List Route) (r : Route) : Type 0 where
  pub listed : Listed r rs
  pub hits : matches r address ≡ true
  pub most : (s : Route) → Listed s rs → matches s address ≡ true → s.length ≤ r.length

pub record LongestMatch : Type 0 where
  -- the route chosen decides
  pub chosen : (address : ℕ) (rs : List Route) (r : Route) → longest address rs ≡ Some r → Decides address rs r
  -- of sound routes it is the only one that does
  pub only : (address : ℕ) (domains ns : List ℕ) (r s : Route) → routes_sound domains ns ≡ true → Decides address (routes_of ns) r → Decides address (routes_of ns) s → r ≡ s
  -- none is chosen exactly when none matches
  pub unmatched : (address : ℕ) (rs : List Route) → longest address rs ≡ None → (s : Route) → Listed s rs → matches s address ≡ false
  pub unchosen : (address : ℕ) (rs : List Route) → ((s : Route) → Listed s rs → matches s address ≡ false) → longest address rs ≡ None
