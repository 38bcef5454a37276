-- Document 02, Wish 14: "It agrees exactly when the box would have decided so and written those octets", and "the printed lines are the same however the input is cut".
use Rattle.std.specs.Prelude.{ℕ, ◌*◌, ◌^◌, ◌≤◌, ◌<◌, true, false, List, [], ◌++◌, ◌≡◌, length, take}
use Rattle.text.specs.Line.{broken_line}
use Rattle.forward_rules.specs.Forward.{forward_of, output_of}
use Rattle.file_set.specs.declared.Set.{Set}
use Rattle.inspect_split.specs.Records.{whole_of, split_pieces, joined_pieces, records_of, lines_of, printed_by}
use Rattle.inspect_claim.specs.Claim.{Claim, claimed_octets, octets_of, Listed, parses, claim_of}
use Rattle.inspect_claim.specs.Compare.{said_of, agreeing, differing_at, FirstDifference}
use Rattle.inspect_claim.specs.Theorems.{Same}
use Rattle.inspect_line.specs.Lines.{ports_in, forwarding_into, decision_for, output_for, finding_for, agrees_line, differs_line, record_line, printed_of}

-- of a claim, by a file's set and the rows of its tables
pub record Claims : Type 0 where
  -- AGREES exactly when the box decides the claimed number, type, code and pointer, and the octets that it writes are the claimed ones
  pub agrees : (s : Set) (rows : List ℕ) (c : Claim) → Same (decision_for s rows c) (output_for s rows c) c → finding_for s rows c ≡ agreeing
  pub agreed : (s : Set) (rows : List ℕ) (c : Claim) → finding_for s rows c ≡ agreeing → Same (decision_for s rows c) (output_for s rows c) c
  -- DIFFERS k exactly when place k is the first at which what the box says and what is claimed differ
  pub differs : (s : Set) (rows : List ℕ) (c : Claim) (k : ℕ)
      → FirstDifference (said_of (decision_for s rows c) (output_for s rows c)) (claimed_octets c) k → finding_for s rows c ≡ differing_at k
  pub first : (s : Set) (rows : List ℕ) (c : Claim) (k : ℕ)
      → finding_for s rows c ≡ differing_at k → FirstDifference (said_of (decision_for s rows c) (output_for s rows c)) (claimed_octets c) k

-- whatever an output of 40 octets or more held before, the box decides the same and writes the same octets
abbrev pub AnyOutput : Type 0
AnyOutput =
    (s : Set) (rows : List ℕ) (c : Claim) (out : List ℕ) → 40 ≤ length out
    → (forward_of (forwarding_into (length out) s rows c) ≡ decision_for s rows c)
    × (take (decision_for s rows c).count (output_of (forwarding_into (length out) s rows c) out) ≡ take (decision_for s rows c).count (output_for s rows c))

-- of the octets of a record
pub record RecordLines : Type 0 where
  -- the line of a record is that of its claim
  pub agrees : (s : Set) (rows : List ℕ) (c : Claim) → Listed (length (ports_in s)) c → finding_for s rows c ≡ agreeing → record_line s rows (octets_of c) ≡ agrees_line
  pub differs : (s : Set) (rows : List ℕ) (c : Claim) (k : ℕ) → Listed (length (ports_in s)) c → finding_for s rows c ≡ differing_at k → record_line s rows (octets_of c) ≡ differs_line k
  -- it is AGREES, and DIFFERS k, for no other octets
  pub agreed : (s : Set) (rows o : List ℕ) → record_line s rows o ≡ agrees_line → (parses (length (ports_in s)) o ≡ true) × (finding_for s rows (claim_of o) ≡ agreeing)
  pub differed : (s : Set) (rows o : List ℕ) (k : ℕ) → k < 10 ^ 20 → record_line s rows o ≡ differs_line k
      → (parses (length (ports_in s)) o ≡ true) × (finding_for s rows (claim_of o) ≡ differing_at k)
  -- it is BROKEN exactly when they do not parse
  pub broken : (s : Set) (rows o : List ℕ) → parses (length (ports_in s)) o ≡ false → record_line s rows o ≡ broken_line
  pub unparsed : (s : Set) (rows o : List ℕ) → record_line s rows o ≡ broken_line → parses (length (ports_in s)) o ≡ false

-- two places have two lines
abbrev pub Apart : Type 0
Apart = (j k : ℕ) → j < 10 ^ 20 → k < 10 ^ 20 → differs_line j ≡ differs_line k → j ≡ k

-- of the input: pieces of any length, each put behind what was kept of those before it, print what the input in one piece prints
abbrev pub Pieces : Type 0
Pieces = (s : Set) (rows : List ℕ) (ps : List (List ℕ)) → printed_by (record_line s rows) broken_line (split_pieces [] ps) ≡ printed_of s rows (joined_pieces ps)

-- how much room lines want: at most 11 octets each (`DIFFERS 45`), so at most 22,528 for all records that end in one piece of at most 4,096 octets
pub record Room : Type 0 where
  pub line : (s : Set) (rows o : List ℕ) → length (record_line s rows o) ≤ 11
  pub lines : (s : Set) (rows held piece : List ℕ) → whole_of held ≡ 0 → length piece ≤ 4096 → length (lines_of (record_line s rows) (records_of (held ++ piece))) ≤ 2048 * 11
