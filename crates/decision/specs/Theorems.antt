-- Document 02, Wish 2: what is proved of the five facts.
use Rattle.std.specs.Prelude.{◌≡◌, true, ◌⊎◌, ◌↔◌}
use Rattle.decision.specs.declared.Facts.{Facts}
use Rattle.decision.specs.Decision.{silenced}

-- the set of facts is not empty: an ICMP error message, a broadcast or multicast destination, a link-layer broadcast, a fragment other than the first, or a source
-- that is not one host
abbrev pub SomeFact : Facts → Type 0
SomeFact f = (f.error ≡ true) ⊎ ((f.group ≡ true) ⊎ ((f.link ≡ true) ⊎ ((f.fragment ≡ true) ⊎ (f.source ≡ true))))

-- "any of them silences": any set of facts does, exactly when it is not empty
abbrev pub AnySilences : Type 0
AnySilences = (f : Facts) → (silenced f ≡ true) ↔ SomeFact f
