-- What reading a record and holding a decision against it mean.
use Rattle.std.specs.Prelude.{ℕ, true, List, ◌≡◌, length, take}
use Rattle.decision.specs.declared.Decision.{Decision}
use Rattle.inspect_claim.specs.Claim.{Claim, octets_of, claimed_octets, Listed, parses, claim_of, claimed_in}
use Rattle.inspect_claim.specs.Compare.{said_of, agreeing, differing_at, finding_of, FirstDifference}

-- A record parses exactly when it is the octets of a claim whose ports are in the file; and it says that claim.
pub record Reads : Type 0 where
  pub written : (ports : ℕ) (c : Claim) → Listed ports c → (parses ports (octets_of c) ≡ true) × (claim_of (octets_of c) ≡ c)
  pub read : (ports : ℕ) (o : List ℕ) → parses ports o ≡ true → (octets_of (claim_of o) ≡ o) × Listed ports (claim_of o)
  -- the octets that a decision is held against are the claimed ones
  pub claimed : (ports : ℕ) (o : List ℕ) → parses ports o ≡ true → claimed_in o ≡ claimed_octets (claim_of o)

-- `AGREES` exactly when nothing differs, `DIFFERS k` exactly when k is the first place that does
pub record Finds : Type 0 where
  pub agrees : (a b : List ℕ) → finding_of a b ≡ agreeing → a ≡ b
  pub agreed : (a : List ℕ) → finding_of a a ≡ agreeing
  pub differs : (a b : List ℕ) (k : ℕ) → finding_of a b ≡ differing_at k → FirstDifference a b k
  pub first : (a b : List ℕ) (k : ℕ) → FirstDifference a b k → finding_of a b ≡ differing_at k

-- a decision and the octets written are those of a claim
pub record Same (d : Decision) (out : List ℕ) (c : Claim) : Type 0 where
  pub number : d.number ≡ c.number
  pub kind : d.kind ≡ c.kind
  pub code : d.code ≡ c.code
  pub pointer : d.pointer ≡ c.pointer
  pub count : d.count ≡ length c.octets
  pub octets : take d.count out ≡ c.octets

pub record Agreement : Type 0 where
  pub same : (d : Decision) (out : List ℕ) (c : Claim) → finding_of (said_of d out) (claimed_octets c) ≡ agreeing → Same d out c
  pub agreeing : (d : Decision) (out : List ℕ) (c : Claim) → Same d out c → finding_of (said_of d out) (claimed_octets c) ≡ agreeing
