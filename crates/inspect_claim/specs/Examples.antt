-- Document 02, Wish 14: records in octets, and what they say. Version, ports, the five facts, the arriving area behind its length, number, type, code and pointer, the leaving
-- area behind its length.
use Rattle.std.specs.Prelude.{◌≡◌, true, false, List, [], ◌∷◌, ℕ, None, Some}
use Rattle.inspect_claim.specs.Claim.{parses, claim_of, octets_of, claimed_in}
use Rattle.inspect_claim.specs.Compare.{finding_of}

-- from port 2 to port 3; broadcast, and a source that is not one host; an area of a no-operation and an end; 14 with type 4, code 5, pointer 6; two octets leave
abbrev pub octets : List ℕ
octets = 1 ∷ 2 ∷ 3 ∷ 0 ∷ 1 ∷ 0 ∷ 0 ∷ 1 ∷ 2 ∷ 1 ∷ 0 ∷ 14 ∷ 4 ∷ 5 ∷ 6 ∷ 2 ∷ 134 ∷ 12 ∷ []

-- all other facts, no areas
abbrev pub others : List ℕ
others = 1 ∷ 0 ∷ 1 ∷ 1 ∷ 0 ∷ 1 ∷ 1 ∷ 0 ∷ 0 ∷ 1 ∷ 0 ∷ 0 ∷ 0 ∷ 0 ∷ []

pub record WorkedClaims : Type 0 where
  pub says :
      claim_of octets
      ≡ record {
        arriving = 2;
        leaving = 3;
        facts = record { error = false; group = true; link = false; fragment = false; source = true };
        area = 1 ∷ 0 ∷ [];
        number = 14;
        kind = 4;
        code = 5;
        pointer = 6;
        octets = 134 ∷ 12 ∷ [];
      }
  pub facts :
      claim_of others
      ≡ record {
        arriving = 0;
        leaving = 1;
        facts = record { error = true; group = false; link = true; fragment = true; source = false };
        area = [];
        number = 1;
        kind = 0;
        code = 0;
        pointer = 0;
        octets = [];
      }
  pub back : octets_of (claim_of octets) ≡ octets
  pub claimed : claimed_in octets ≡ 14 ∷ 4 ∷ 5 ∷ 6 ∷ 2 ∷ 134 ∷ 12 ∷ []
  -- in a file of four ports it parses, in one of three the leaving port is missing; with the ports the other way round the arriving one is
  pub four : parses 4 octets ≡ true
  pub three : parses 3 octets ≡ false
  pub turned : parses 3 (1 ∷ 3 ∷ 2 ∷ 0 ∷ 0 ∷ 0 ∷ 0 ∷ 0 ∷ 0 ∷ 0 ∷ 0 ∷ 0 ∷ 0 ∷ 0 ∷ []) ≡ false
  -- version 2, and 0
  pub second : parses 4 (2 ∷ 2 ∷ 3 ∷ 0 ∷ 0 ∷ 0 ∷ 0 ∷ 0 ∷ 0 ∷ 0 ∷ 0 ∷ 0 ∷ 0 ∷ 0 ∷ []) ≡ false
  pub zeroth : parses 4 (0 ∷ 2 ∷ 3 ∷ 0 ∷ 0 ∷ 0 ∷ 0 ∷ 0 ∷ 0 ∷ 0 ∷ 0 ∷ 0 ∷ 0 ∷ 0 ∷ []) ≡ false
  -- a fact of 2, at each place
  pub error : parses 4 (1 ∷ 2 ∷ 3 ∷ 2 ∷ 0 ∷ 0 ∷ 0 ∷ 0 ∷ 0 ∷ 0 ∷ 0 ∷ 0 ∷ 0 ∷ 0 ∷ []) ≡ false
  pub group : parses 4 (1 ∷ 2 ∷ 3 ∷ 0 ∷ 2 ∷ 0 ∷ 0 ∷ 0 ∷ 0 ∷ 0 ∷ 0 ∷ 0 ∷ 0 ∷ 0 ∷ []) ≡ false
  pub link : parses 4 (1 ∷ 2 ∷ 3 ∷ 0 ∷ 0 ∷ 2 ∷ 0 ∷ 0 ∷ 0 ∷ 0 ∷ 0 ∷ 0 ∷ 0 ∷ 0 ∷ []) ≡ false
  pub fragment : parses 4 (1 ∷ 2 ∷ 3 ∷ 0 ∷ 0 ∷ 0 ∷ 2 ∷ 0 ∷ 0 ∷ 0 ∷ 0 ∷ 0 ∷ 0 ∷ 0 ∷ []) ≡ false
  pub source : parses 4 (1 ∷ 2 ∷ 3 ∷ 0 ∷ 0 ∷ 0 ∷ 0 ∷ 2 ∷ 0 ∷ 0 ∷ 0 ∷ 0 ∷ 0 ∷ 0 ∷ []) ≡ false
  -- an octet too few, one too many, and none at all
  pub short : parses 4 (1 ∷ 2 ∷ 3 ∷ 0 ∷ 0 ∷ 0 ∷ 0 ∷ 0 ∷ 0 ∷ 0 ∷ 0 ∷ 0 ∷ 0 ∷ []) ≡ false
  pub long : parses 4 (1 ∷ 2 ∷ 3 ∷ 0 ∷ 0 ∷ 0 ∷ 0 ∷ 0 ∷ 0 ∷ 0 ∷ 0 ∷ 0 ∷ 0 ∷ 0 ∷ 0 ∷ []) ≡ false
  pub none : parses 4 [] ≡ false
  -- places: the pointer is 3, the leaving length 4, its first octet 5, its second 6; one octet more, or one fewer, is found behind the last
  pub agrees : finding_of (14 ∷ 4 ∷ 5 ∷ 6 ∷ 2 ∷ 134 ∷ 12 ∷ []) (14 ∷ 4 ∷ 5 ∷ 6 ∷ 2 ∷ 134 ∷ 12 ∷ []) ≡ None
  pub number : finding_of (14 ∷ 4 ∷ 5 ∷ 6 ∷ 2 ∷ 134 ∷ 12 ∷ []) (15 ∷ 4 ∷ 5 ∷ 6 ∷ 2 ∷ 134 ∷ 13 ∷ []) ≡ Some 0
  pub pointer : finding_of (14 ∷ 4 ∷ 5 ∷ 6 ∷ 2 ∷ 134 ∷ 12 ∷ []) (14 ∷ 4 ∷ 5 ∷ 7 ∷ 2 ∷ 134 ∷ 12 ∷ []) ≡ Some 3
  pub length : finding_of (14 ∷ 4 ∷ 5 ∷ 6 ∷ 2 ∷ 134 ∷ 12 ∷ []) (14 ∷ 4 ∷ 5 ∷ 6 ∷ 1 ∷ 134 ∷ []) ≡ Some 4
  pub octet : finding_of (14 ∷ 4 ∷ 5 ∷ 6 ∷ 2 ∷ 134 ∷ 12 ∷ []) (14 ∷ 4 ∷ 5 ∷ 6 ∷ 2 ∷ 135 ∷ 12 ∷ []) ≡ Some 5
  pub last : finding_of (14 ∷ 4 ∷ 5 ∷ 6 ∷ 2 ∷ 134 ∷ 12 ∷ []) (14 ∷ 4 ∷ 5 ∷ 6 ∷ 2 ∷ 134 ∷ 13 ∷ []) ≡ Some 6
  pub behind : finding_of (14 ∷ 4 ∷ 5 ∷ 6 ∷ 2 ∷ 134 ∷ 12 ∷ []) (14 ∷ 4 ∷ 5 ∷ 6 ∷ 2 ∷ 134 ∷ 12 ∷ 0 ∷ []) ≡ Some 7
