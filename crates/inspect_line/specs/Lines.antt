-- Document 02, Wish 14: what the inspector prints of recorded traffic, by the ports and tables of a gateway file, whose rows are lent beside it.
use Rattle.std.specs.Prelude.{ℕ, ◌≤◌, ◌≡◌, cond, List, [], ◌∷◌, ◌++◌, None, Some, length, take, drop, replicate}
use Rattle.text.specs.declared.Line.{Line}
use Rattle.text.specs.Put.{Writes}
use Rattle.text.specs.Text.{next}
use Rattle.text.specs.Line.{broken_line}
use Rattle.port.specs.declared.Port.{Port}
use Rattle.decision.specs.declared.Decision.{Decision}
use Rattle.forward_rules.specs.Crossing.{Forwarding}
use Rattle.forward_rules.specs.Forward.{forward_of, output_of}
use Rattle.file_set.specs.declared.Set.{Set}
use Rattle.file_set.specs.Set.{tables_in}
use Rattle.route_ports.specs.Ports.{port_at}
use Rattle.route_decide.specs.Routing.{between}
use Rattle.inspect_claim.specs.Claim.{Claim, claimed_octets, parses, claim_of}
use Rattle.inspect_claim.specs.Compare.{Finding, said_of, finding_of}
use Rattle.inspect_split.specs.Records.{split_from, records_of, kept_of, lines_of, printed_by}

-- 1. What the box does with the datagram of a claim.

-- the ports of the file, in their order; past the last number there is none
abbrev pub ports_in : Set → List Port
ports_in s = take s.portcount s.ports

-- from the arriving to the leaving port, with the five facts and the arriving area, into an output of so many octets; "the table is chosen as in Wish 7": the first for the two domains
abbrev pub forwarding_into : ℕ → Set → List ℕ → Claim → Forwarding
forwarding_into room s rows c = between (port_at (ports_in s) c.arriving) (port_at (ports_in s) c.leaving) (tables_in s) rows c.facts c.area room

-- House: an output of 40 octets, all 0 before; a longer one, or one that held something else, makes no difference (`AnyOutput`)
abbrev pub forwarding_for : Set → List ℕ → Claim → Forwarding
forwarding_for s rows c = forwarding_into 40 s rows c

-- what it decides, and what its output holds at the end
abbrev pub decision_for : Set → List ℕ → Claim → Decision
decision_for s rows c = forward_of (forwarding_for s rows c)

abbrev pub output_for : Set → List ℕ → Claim → List ℕ
output_for s rows c = output_of (forwarding_for s rows c) (replicate 40 0)

-- held against the claim
unfoldable pub finding_by : Forwarding → List ℕ → Finding
finding_by f claimed = finding_of (said_of (forward_of f) (output_of f (replicate 40 0))) claimed

abbrev pub finding_for : Set → List ℕ → Claim → Finding
finding_for s rows c = finding_by (forwarding_for s rows c) (claimed_octets c)

-- 2. Lines.

-- AGREES and the line's end
abbrev pub agrees_line : List ℕ
agrees_line = 65 ∷ 71 ∷ 82 ∷ 69 ∷ 69 ∷ 83 ∷ 10 ∷ []

-- DIFFERS
abbrev pub differs_word : List ℕ
differs_word = 68 ∷ 73 ∷ 70 ∷ 70 ∷ 69 ∷ 82 ∷ 83 ∷ []

-- DIFFERS and the first place that differs
unfoldable pub differs_line : ℕ → List ℕ
differs_line k = differs_word ++ next k ++ (10 ∷ [])

unfoldable pub finding_line : Finding → List ℕ
finding_line None = agrees_line
finding_line (Some k) = differs_line k

-- the line of a record without the two octets of its length; BROKEN where it does not parse
unfoldable pub record_line : Set → List ℕ → List ℕ → List ℕ
record_line s rows o = cond (parses (length (ports_in s)) o) (finding_line (finding_for s rows (claim_of o))) broken_line

-- 3. The whole output: a line for each record; "a cut-off one prints it and ends".
abbrev pub printed_of : Set → List ℕ → List ℕ → List ℕ
printed_of s rows input = printed_by (record_line s rows) broken_line (split_from [] input)

-- 4. What is held of the input at one time: the lines of its whole records are put, and what is kept stands behind the octets that were used.
pub record Inspects (s : Set) (rows held : List ℕ) (before after : Line) (used : ℕ) : Type 0 where
  pub lines : Writes before (lines_of (record_line s rows) (records_of held)) after
  pub within : used ≤ length held
  pub kept : drop used held ≡ kept_of held
