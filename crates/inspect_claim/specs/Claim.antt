-- Document 02, Wish 14: what a recorded case says, behind the two octets of its length: "single octets: version 1, arriving and leaving port by number in a Wish 1 file,
-- Wish 2's five facts (0 or 1), arriving area, claimed number, type, code and pointer, and leaving area, each area led by its length".
use Rattle.std.specs.Prelude.{ℕ, ◌+◌, ◌<◌, Bool, true, false, cond, not, ◌&&◌, List, [], ◌∷◌, ◌++◌, leb, ltb, eqb, length, get_or, take, drop}
use Rattle.decision.specs.declared.Facts.{Facts}
use Rattle.decision.specs.Decision.{no_fact}
use Rattle.inspect_claim.specs.declared.parse.Recorded.{Recorded}

-- what is recorded of one datagram
pub record Claim : Type 0 where
  pub arriving : ℕ
  pub leaving : ℕ
  pub facts : Facts
  pub area : List ℕ
  pub number : ℕ
  pub kind : ℕ
  pub code : ℕ
  pub pointer : ℕ
  pub octets : List ℕ

-- 1. Its octets, as the paper lists them.

abbrev pub fact_octet : Bool → ℕ
fact_octet b = cond b 1 0

abbrev pub fact_octets : Facts → List ℕ
fact_octets f = fact_octet f.error ∷ fact_octet f.group ∷ fact_octet f.link ∷ fact_octet f.fragment ∷ fact_octet f.source ∷ []

-- the claimed decision and leaving area
abbrev pub claimed_octets : Claim → List ℕ
claimed_octets c = c.number ∷ c.kind ∷ c.code ∷ c.pointer ∷ length c.octets ∷ c.octets

abbrev pub octets_of : Claim → List ℕ
octets_of c = 1 ∷ c.arriving ∷ c.leaving ∷ (fact_octets c.facts ++ (length c.area ∷ (c.area ++ claimed_octets c)))

-- "a port not in the file" does not parse
pub record Listed (ports : ℕ) (c : Claim) : Type 0 where
  pub arriving : c.arriving < ports
  pub leaving : c.leaving < ports

-- 2. Read the other way: octet 0 the version, 1 and 2 the ports, 3 to 7 the facts, 8 the arriving area's length, 9 on the area; then the claimed decision, four
-- octets, the leaving area's length, and the leaving area to the end.

-- where the claimed decision begins
abbrev pub claimed_at : List ℕ → ℕ
claimed_at o = 9 + get_or o 8 0

abbrev pub leaving_length : List ℕ → ℕ
leaving_length o = get_or o (claimed_at o + 4) 0

abbrev pub are_facts : List ℕ → Bool
are_facts o = leb (get_or o 3 0) 1 && (leb (get_or o 4 0) 1 && (leb (get_or o 5 0) 1 && (leb (get_or o 6 0) 1 && leb (get_or o 7 0) 1)))

-- the version is 1, both ports are in a file of so many, the facts are 0 or 1, and the fields fill the record exactly
unfoldable pub parses : ℕ → List ℕ → Bool
parses ports o =
    eqb (get_or o 0 0) 1
    && (ltb (get_or o 1 0) ports
    && (ltb (get_or o 2 0) ports
    && (are_facts o
    && eqb (length o) (claimed_at o + 5 + leaving_length o))))

-- of octets that are 0 or 1: it is 1
abbrev pub said : List ℕ → ℕ → Bool
said o i = not (eqb (get_or o i 0) 0)

abbrev pub facts_in : List ℕ → Facts
facts_in o =
    record { error = said o 3; group = said o 4; link = said o 5; fragment = said o 6; source = said o 7 }

abbrev pub area_in : List ℕ → List ℕ
area_in o = take (get_or o 8 0) (drop 9 o)

-- the claimed decision, the leaving length and the leaving area
abbrev pub claimed_in : List ℕ → List ℕ
claimed_in o = drop (claimed_at o) o

-- what octets that parse say
unfoldable pub claim_of : List ℕ → Claim
claim_of o =
    record {
      arriving = get_or o 1 0;
      leaving = get_or o 2 0;
      facts = facts_in o;
      area = area_in o;
      number = get_or o (claimed_at o) 0;
      kind = get_or o (claimed_at o + 1) 0;
      code = get_or o (claimed_at o + 2) 0;
      pointer = get_or o (claimed_at o + 3) 0;
      octets = drop (claimed_at o + 5) o;
    }

-- 3. What the reader answers: whether the octets parse, the ports, the facts, and where the claimed decision begins (the arriving area stands from octet 9 up to there).

abbrev pub no_record : Recorded
no_record = record { parsed = false; arriving = 0; leaving = 0; facts = no_fact; claimed = 0 }

unfoldable pub recorded_of : ℕ → List ℕ → Recorded
recorded_of ports o =
    cond (parses ports o)
    (record { parsed = true; arriving = get_or o 1 0; leaving = get_or o 2 0; facts = facts_in o; claimed = claimed_at o })
    no_record
